-- The command that `clap` reads the words as.
use Rattle.std.proofs.Common.{◌≡◌, ◌∙◌, ap₂, false, refl, true}
use Rattle.clap.specs.Built.{AddsArg}
use Rattle.clap.specs.Words.{App, Rule, app_of, is_simple, is_simple_and_free, rule_of, with_rule}
use Rattle.clap.specs.declared.builder.arg.Arg.{Arg}
use Rattle.clap.specs.declared.builder.command.Command.{Command}
use Rattle.clap.proofs.OnLiterals.{clap_on_literals}
use Rattle.command_words.specs.KnownWords.{command}

-- one argument more is one rule more
pub app_of-added : (old new : Command) (arg : Arg) (app : App) (rule : Rule) → AddsArg old arg new → arg.global ≡ false → app_of old ≡ app → rule_of arg ≡ rule
    → app_of new ≡ with_rule app rule
app_of-added old new arg app rule added own same_app same_rule = added.shape own ∙ ap₂ with_rule same_app same_rule

-- what it found is told by `clap`'s definition
pub is_simple-command : is_simple command ≡ true
unfolding command clap_on_literals
is_simple-command = refl

-- and so is each refusal
pub is_simple_and_free-command : is_simple_and_free command ≡ true
unfolding command clap_on_literals
is_simple_and_free-command = refl
