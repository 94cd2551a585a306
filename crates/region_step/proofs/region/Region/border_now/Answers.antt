use Rattle.std.specs.Prelude.{slice_index}
use Rattle.std.proofs.Common.{◌≡◌, ℕ, List, length, get_or, arith, ap, sym, ◌∙◌}
use Rattle.std.proofs.lemmas.List.{get_or_default}
use Rattle.region_step.proofs.Ordered.{length-rows_in}
use Rattle.flow_model.specs.State.{occupancy}
use Rattle.region_cut.specs.Chart.{list_at}
use Rattle.region_step.proofs.Places.{one_place}
use Rattle.region_step.proofs.region.Region.border_now.Goals as goal

pub returns : goal.returns
returns c = λ p within same.
    let r : ℕ = c.args.self.now.state.number in
    let cells : List ℕ = list_at c.args.layout.now.chart.cells r in
    let rising = (c.regions-cells.ensures.sound.regions r c.requires.of.there).cells in
    let q : ℕ = slice_index c.args.self.now.body.border c.args.j in
    let place = c.requires.of.border.each c.args.j c.requires.there in
    let is_place : q ≡ p = one_place cells q p rising place.0 within (place.1 ∙ sym same) in
    let read : c.index.result.now ≡ q =
    c.index.ensures ∙ ap (λ region. get_or region.body.border c.args.j c.index.result.now) c.self.view_is ∙
    get_or_default c.args.self.now.body.border c.args.j c.index.result.now 0 (omega (arith, c.requires.of.border.one_each, c.requires.there)) in
    c.held.ensures ∙ ap (λ region. occupancy region.state.rows c.index.result.now) c.self.view_is ∙
    ap (occupancy c.args.self.now.state.rows) (read ∙ is_place)

pub held-requires : goal.held-requires
held-requires c =
    let cells = c.self.inside.cells in
    let place = c.requires.of.border.each c.args.j c.requires.there in
    let q : ℕ = slice_index c.args.self.now.body.border c.args.j in
    let read : c.index.result.now ≡ q =
    c.index.ensures ∙ ap (λ region. get_or region.body.border c.args.j c.index.result.now) c.self.view_is ∙
    get_or_default c.args.self.now.body.border c.args.j c.index.result.now 0 (omega (arith, c.requires.of.border.one_each, c.requires.there)) in
    let rows = ap (λ region. length region.state.rows) c.self.view_is in
    omega (arith, place.0, length-rows_in cells, rows, c.requires.of.rows, read)
