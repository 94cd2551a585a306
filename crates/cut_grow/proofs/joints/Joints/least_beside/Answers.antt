use Rattle.std.specs.Prelude.{min, ◌&&◌, ◌||◌}
use Rattle.std.proofs.Common.{◌≡◌, ℕ, Bool, length, get_or, ap, arith, subst, sym, ◌∙◌}
use Rattle.std.proofs.lemmas.List.{get_or_default}
use Rattle.network_file.specs.Connectors.{are_joined}
use Rattle.cut_grow.specs.Least.{IsLeast}
use Rattle.cut_grow.specs.Sides.{is_free, touches_at}
use Rattle.cut_grow.proofs.Leasts.{and-either, least-agree, least-either}
use Rattle.cut_grow.proofs.joints.Joints.least_beside.Goals as goal

pub returns : goal.returns
returns c =
    let n : ℕ = length c.args.placed.now in
    let free : ℕ → Bool = is_free c.args.placed.now in
    let by : ℕ → ℕ → Bool = touches_at c.args.connectors.now in
    let out : ℕ = c.index.result.now in
    let into : ℕ = c.index-2.result.now in
    let out_is : out ≡ get_or c.args.self.now.out.items c.args.cell 0 =
    c.index.ensures ∙ get_or_default c.args.self.now.out.items c.args.cell out 0 (omega (arith, c.requires.joints.each_out, c.requires.cell)) in
    let into_is : into ≡ get_or c.args.self.now.into.items c.args.cell 0 =
    c.index-2.ensures ∙ get_or_default c.args.self.now.into.items c.args.cell into 0 (omega (arith, c.requires.joints.each_into, c.requires.cell)) in
    let joined : (i : ℕ) → (by out i || by into i) ≡ are_joined c.args.connectors.now c.args.cell i =
    λ i.
    ap (λ k. by k i || by into i) out_is ∙ ap (λ k. by (get_or c.args.self.now.out.items c.args.cell 0) i || by k i) into_is ∙
    sym (c.requires.joints.joins c.args.cell i c.requires.cell) in
    let is : c.min.result ≡ min c.least_of-out.result c.least_of-into.result = omega (arith, c.min.ensures) in
    subst (IsLeast n (λ i. free i && are_joined c.args.connectors.now c.args.cell i)) (sym is)
    (least-agree n (λ i. (free i && by out i) || (free i && by into i)) (λ i. free i && are_joined c.args.connectors.now c.args.cell i)
    (min c.least_of-out.result c.least_of-into.result) (λ i. and-either (free i) (by out i) (by into i) ∙ ap (λ t. free i && t) (joined i))
    (least-either n (λ i. free i && by out i) (λ i. free i && by into i) c.least_of-out.result c.least_of-into.result c.least_of-out.ensures c.least_of-into.ensures))
