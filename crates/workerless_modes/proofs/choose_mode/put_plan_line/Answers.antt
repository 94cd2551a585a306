use Rattle.std.specs.Int.{w128}
use Rattle.std.specs.Prelude.{codes}
use Rattle.std.proofs.Common.{◌≡◌, ◌<◌, ◌^◌, ℕ, List, ◌++◌, ap, append_assoc, arith, pos, rules, to_z, ◌∙◌}
use Rattle.line_fields.specs.Fields.{amount_field, count_field}
use Rattle.workerless_modes.specs.ChooseMode.{plan_line}
use Rattle.workerless_modes.proofs.choose_mode.put_plan_line.Goals as goal

four : (text a b c d : List ℕ) → (((text ++ a) ++ b) ++ c) ++ d ≡ text ++ (((a ++ b) ++ c) ++ d)
four text a b c d = simp append_assoc

pub returns : goal.returns
unfolding plan_line
returns c =
    let small : c.args.delay < 2 ^ 127 = omega (arith, c.requires) in
    let whole : to_z w128 c.args.delay ≡ pos c.args.delay = search (small, rules) in
    c.in_ok-extend_from_slice-2.ensures.items ∙
    ap (λ (text : List ℕ). text ++ codes "\n") (c.in_ok-put_signed.ensures.amount c.args.delay whole ∙
    ap (λ (text : List ℕ). text ++ amount_field c.args.delay) (c.in_ok-put_count.ensures.field ∙ ap (λ (text : List ℕ). text ++ count_field c.args.p) c.in_ok-extend_from_slice.ensures.items)) ∙
    four c.args.text.now.items (codes "plan") (count_field c.args.p) (amount_field c.args.delay) (codes "\n")
