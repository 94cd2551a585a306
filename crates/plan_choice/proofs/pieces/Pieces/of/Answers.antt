use Rattle.std.specs.Prelude.{map}
use Rattle.std.proofs.Common.{◌++◌, Bor, List, [], ap, arith, inl, inr, refl, sym, ℕ, ◌∙◌}
use Rattle.std.proofs.lemmas.Simd.{map-map}
use Rattle.plan_choice.specs.Pieces.{pieces_in}
use Rattle.plan_choice.proofs.Cutting.{candidates-of, length-candidates}
use Rattle.plan_choice.proofs.pieces.Pieces.of.Goals as goal

pub returns-in_default-clause-refusal : goal.returns-in_default-clause-refusal
returns-in_default-clause-refusal c = (sym (length-candidates c.args.input.now c.args.input.now [] c.in_default.ensures.pieces), inl refl)

pub returns-then-found-gt-MOST_PLANS-clause-refusal : goal.returns-then-found-gt-MOST_PLANS-clause-refusal
returns-then-found-gt-MOST_PLANS-clause-refusal c = (
  omega (arith, length-candidates c.args.input.now c.in-Some.base.now (pieces_in c.in-Some.plans.now) c.in-Some.ensures.pieces, c.separators-found.ensures.count),
  inr c.if-found-gt-MOST_PLANS.true,
)

pub returns-clause-pieces : goal.returns-clause-pieces
returns-clause-pieces c =
    let base = c.in-Some.base.now in
    let file : List ℕ → List ℕ = λ plan. base ++ plan in
    let plans : List (Bor (List ℕ)) = c.in_ok-plans.plans.items in
    sym (
    candidates-of c.args.input.now base (pieces_in c.in-Some.plans.now) c.in-Some.ensures.pieces ∙ ap (map file) (sym c.in_ok-plans.ensures) ∙
    map-map file (λ (plan : Bor (List ℕ)). plan.now) plans
    )
