use Rattle.std.specs.Prelude.{nat_lt, ◌&&◌, ◌||◌}
use Rattle.std.specs.List.{list_any}
use Rattle.std.proofs.Common.{◌≡◌, ℕ, ◌<◌, Bool, true, false, length, get_or, min, eqb, ap, arith, subst, sym, ◌∙◌}
use Rattle.std.proofs.lemmas.Bool.{lt-ltb}
use Rattle.network_file.specs.Connectors.{touches}
use Rattle.network_file.specs.Numbered.{connector_at}
use Rattle.network_file.specs.declared.connector.Connector.{Connector}
use Rattle.network_file.specs.declared.connector.Connector.TheVariants.{Link}
use Rattle.cut_grow.specs.Least.{IsLeast}
use Rattle.cut_grow.specs.Sides.{is_free, touches_at}
use Rattle.cut_grow.proofs.Connectors.{three-all, three-is}
use Rattle.cut_grow.proofs.Leasts.{and-any_of_three, least-agree, least-either}
use Rattle.cut_grow.proofs.joints.least_of.Goals as goal

pub if_free-requires-clause-there : goal.if_free-requires-clause-there
if_free-requires-clause-there c =
    (three-all (λ i. i < length c.args.placed.now) (connector_at c.args.connectors.now c.args.k) c.three_cells.result c.three_cells.ensures.cells (c.requires.there c.args.k (Link 0 0) (omega arith))).0

pub if_free-requires-2-clause-there : goal.if_free-requires-2-clause-there
if_free-requires-2-clause-there c =
    (three-all (λ i. i < length c.args.placed.now) (connector_at c.args.connectors.now c.args.k) c.three_cells.result c.three_cells.ensures.cells (c.requires.there c.args.k (Link 0 0) (omega arith))).1

pub if_free-requires-3-clause-there : goal.if_free-requires-3-clause-there
if_free-requires-3-clause-there c =
    (three-all (λ i. i < length c.args.placed.now) (connector_at c.args.connectors.now c.args.k) c.three_cells.result c.three_cells.ensures.cells (c.requires.there c.args.k (Link 0 0) (omega arith))).2

pub returns : goal.returns
returns c =
    let n : ℕ = length c.args.placed.now in
    let free : ℕ → Bool = is_free c.args.placed.now in
    let connector : Connector = connector_at c.args.connectors.now c.args.k in
    let one : ℕ = get_or c.three_cells.result 0 0 in
    let two : ℕ = get_or c.three_cells.result 1 0 in
    let three : ℕ = get_or c.three_cells.result 2 0 in
    let within : nat_lt c.args.k (length c.args.connectors.now) ≡ true = lt-ltb c.args.k (length c.args.connectors.now) (omega arith) in
    let touched : (i : ℕ) → (eqb i one || (eqb i two || (eqb i three || false))) ≡ touches_at c.args.connectors.now c.args.k i =
    λ i.
    ap (list_any (eqb i)) (sym (three-is connector c.three_cells.result c.three_cells.ensures.cells)) ∙ c.three_cells.ensures.same (eqb i) ∙
    ap (λ b. b && touches i connector) (sym within) in
    let all : IsLeast n (λ i. ((free i && eqb i one) || (free i && eqb i two)) || (free i && eqb i three)) (min (min c.if_free.result c.if_free-2.result) c.if_free-3.result) =
    least-either n (λ i. (free i && eqb i one) || (free i && eqb i two)) (λ i. free i && eqb i three) (min c.if_free.result c.if_free-2.result) c.if_free-3.result
    (least-either n (λ i. free i && eqb i one) (λ i. free i && eqb i two) c.if_free.result c.if_free-2.result c.if_free.ensures c.if_free-2.ensures) c.if_free-3.ensures in
    let is : c.min-2.result ≡ min (min c.if_free.result c.if_free-2.result) c.if_free-3.result = omega (arith, c.min.ensures, c.min-2.ensures) in
    subst (IsLeast n (λ i. free i && touches_at c.args.connectors.now c.args.k i)) (sym is)
    (least-agree n (λ i. ((free i && eqb i one) || (free i && eqb i two)) || (free i && eqb i three)) (λ i. free i && touches_at c.args.connectors.now c.args.k i)
    (min (min c.if_free.result c.if_free-2.result) c.if_free-3.result)
    (λ i. and-any_of_three (free i) (eqb i one) (eqb i two) (eqb i three) ∙ ap (λ t. free i && t) (touched i)) all)
