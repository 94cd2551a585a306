-- A run of no more steps than a limit.
use Rattle.std.specs.Prelude.{◌≡◌, ℕ, ◌≤◌, ⊤, List, Option, Some, None, IsOkAnd}
use Rattle.command_words.specs.declared.mode.Mode.TheVariants.{Run}
use Rattle.command_words.specs.declared.request.Request.{Request}
use Rattle.network_file.specs.Reading.{network_of}

-- where `run` is asked for, the input has a network of no more steps than the limit
abbrev pub RunsWithin : (most : ℕ) → Option Request → (input : List ℕ) → Type 0
RunsWithin most None input = ⊤
RunsWithin most (Some request) input = request.mode ≡ Run → IsOkAnd (network_of input) (λ net. net.steps ≤ most)
