use Rattle.std.proofs.Common.{◌≡◌, ◌∙◌, rules, ap, true, false}
use Rattle.std.specs.Prelude.{codes}
use Rattle.std.proofs.lemmas.Result.{IfOk-weaker}
use Rattle.clap.specs.Simple.{app_of_fields, on_top}
use Rattle.clap.specs.Words.{app_of, new_app, new_rule, rule_of}
use Rattle.command_words.specs.KnownWords.{command}
use Rattle.command_words.proofs.CommandLemmas.{app_of-added}
use Rattle.command_words.proofs.known_words.known_words.Goals as goal

pub returns : goal.returns
unfolding command
returns c =
    let start : app_of c.no_binary_name.result ≡ on_top (λ shape. record shape { no_binary_name = true }) (new_app (codes "ctm")) =
    ap app_of_fields c.no_binary_name.ensures ∙ ap (on_top (λ shape. record shape { no_binary_name = true })) c.new.ensures.app in
    let regions = app_of-added _ _ _ _ _ c.in_ok-arg.ensures c.option.ensures.own start c.option.ensures.rule in
    let cutting = app_of-added _ _ _ _ _ c.in_ok-arg-2.ensures c.option-2.ensures.own regions c.option-2.ensures.rule in
    let parts = app_of-added _ _ _ _ _ c.in_ok-arg-3.ensures c.option-3.ensures.own cutting c.option-3.ensures.rule in
    let workers = app_of-added _ _ _ _ _ c.in_ok-arg-4.ensures c.option-4.ensures.own parts c.option-4.ensures.rule in
    let every = app_of-added _ _ _ _ _ c.in_ok-arg-5.ensures c.option-5.ensures.own workers c.option-5.ensures.rule in
    let shots = app_of-added _ _ _ _ _ c.in_ok-arg-6.ensures c.option-6.ensures.own every c.option-6.ensures.rule in
    let until = app_of-added _ _ _ _ _ c.in_ok-arg-7.ensures c.option-7.ensures.own shots c.option-7.ensures.rule in
    let size = app_of-added _ _ _ _ _ c.in_ok-arg-8.ensures c.option-8.ensures.own until c.option-8.ensures.rule in
    let seed = app_of-added _ _ _ _ _ c.in_ok-arg-9.ensures c.option-9.ensures.own size c.option-9.ensures.rule in
    let mode : rule_of c.required.result ≡ record (new_rule (codes "mode")) { required = true } = search rules in
    let own : c.required.result.global ≡ false = search rules in
    IfOk-weaker c.arg-10.result _ _ (λ known added. app_of-added _ _ _ _ _ added own seed mode) c.arg-10.ensures
