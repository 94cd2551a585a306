use Rattle.std.proofs.Common.{◌≡◌, ℕ, ◌*◌, ◌/◌, ◌^◌, ◌<◌, ◌≤◌, ap, sym, ◌∙◌, arith}
use Rattle.std.proofs.Math.Nat.{mul_assoc, mul_comm}
use Rattle.step_plan.proofs.Laws.{arriving-le}
use Rattle.connector_flow.specs.Ratios.{HasFactor, factor_of, part_of}
use Rattle.connector_flow.proofs.Ratios.{part-exact, part_of-le}
use Rattle.connector_flow.proofs.ratio.Ratio.part_of_few.Goals as goal

by-factor : (num den factor n : ℕ) → HasFactor (num, den) factor → n < 2 ^ 52 → 2 * n * factor / 2 ^ 64 ≡ part_of (num, den) n
by-factor num den factor n held few =
    let some : 1 ≤ den = omega (arith, held.within.positive, held.within.most) in
    let small : den * n < 2 ^ 63 = grind (arith, held.within.small, few) in
    ap (λ f. 2 * n * f / 2 ^ 64) (sym held.factor_is) ∙ ap (λ x. x / 2 ^ 64) (mul_assoc 2 n (factor_of (num, den)))
    ∙ part-exact num den n some small ∙ ap (λ x. x / den) (mul_comm num n)

pub returns-clause-part : goal.returns-clause-part
returns-clause-part c =
    rw (c.from.ensures, c.from-2.ensures, ← c.self.view_is)
    (by-factor c.self.inside.num c.self.inside.den c.self.inside.factor c.args.amount c.self.invariant c.requires.few)

pub returns-clause-within : goal.returns-clause-within
returns-clause-within c =
    let inside = c.self.inside in
    let exact = by-factor inside.num inside.den inside.factor c.args.amount c.self.invariant c.requires.few in
    let few = part_of-le (inside.num, inside.den) c.args.amount c.self.invariant.within in
    rw (c.from.ensures, c.from-2.ensures, exact) few
