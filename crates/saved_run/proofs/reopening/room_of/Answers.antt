use Rattle.std.specs.Prelude.{slice_index, slice_index_or}
use Rattle.std.proofs.Common.{◌≡◌, ℕ, inl, inr, length, sym, ap, subst, ◌∙◌, arith}
use Rattle.std.proofs.lemmas.Bool.{cases_eq}
use Rattle.std.proofs.lemmas.List.{get_or_default}
use Rattle.region_cut.specs.Chart.{ChartLists}
use Rattle.region_step.specs.Region.{RegionValue}
use Rattle.region_step.specs.Regions.{RegionsValue}
use Rattle.region_step.specs.Setup.{SetupValue}
use Rattle.region_step.proofs.GridStates.{grid_state-number}
use Rattle.snapshot.specs.Rooms.{RoomValue, ShowsRegion}
use Rattle.snapshot.proofs.Showing.{shows-stays}
use Rattle.saved_run.proofs.reopening.room_of.Goals as goal

pub loop-r-init : goal.loop-r-init
loop-r-init c = (rw (c.layout-layout.ensures.chart, c.setup.ensures.setup) at c.in_ok-room.ensures.room, λ q region none. absurd (omega (arith, none)))

pub fill-requires-clause-room : goal.fill-requires-clause-room
fill-requires-clause-room c = rw (c.layout-layout.ensures.chart, c.setup.ensures.setup) c.loop-r.invariant.0

pub fill-requires-clause-region : goal.fill-requires-clause-region
fill-requires-clause-region c =
    rw (c.layout-layout.ensures.chart, c.setup.ensures.setup, c.index-list-r.is, c.list-list.ensures)
    (c.setup.ensures.come.stand.each c.loop-r.r c.index-list-r.result (rw c.list-list.ensures at c.loop-r-test.true)).opened.one_of

pub loop-r-preserved : goal.loop-r-preserved
loop-r-preserved c =
    let regions : RegionsValue = c.args.regions.now in
    let setup : SetupValue = regions.setup in
    let chart : ChartLists = setup.chart in
    let come = c.setup.ensures.come in
    let r : ℕ = c.loop-r.r in
    let there = rw c.list-list.ensures at c.loop-r-test.true in
    let is = rw c.list-list.ensures at c.index-list-r.is in
    let filled : RegionValue = c.index-list-r.result in
    let room : RoomValue = c.fill.new.self in
    let for_all = rw (c.layout-layout.ensures.chart, c.setup.ensures.setup) at c.fill.ensures.room in
    let shows = rw (c.layout-layout.ensures.chart, c.setup.ensures.setup) at c.fill.ensures.shows in
    let others = rw (c.layout-layout.ensures.chart, c.setup.ensures.setup) at c.fill.ensures.others in
    let sound = rw (c.layout-layout.ensures.chart, c.setup.ensures.setup) at c.regions-regions.ensures.sound in
    let number : filled.state.number ≡ r =
    ap (λ region. region.state.number) is ∙ ap (λ state. state.number) (come.stand.each r filled there).state ∙ grid_state-number setup.net chart setup.start setup.every r (slice_index regions.steps r) in (
      for_all,
      λ q region before. elim (cases_eq q r) [
        | inl own ↦
            subst (λ p. ShowsRegion chart room (slice_index_or regions.list p region)) (sym own)
            (subst (ShowsRegion chart room) (is ∙ get_or_default regions.list r filled region there) shows)
        | inr other ↦
            shows-stays setup q (slice_index regions.steps q) filled.state.number (slice_index_or regions.list q region) c.loop-r.room room sound
            (omega (arith, before, there, come.stand.one_each)) (λ same. other (same ∙ number)) (come.stand.each q region (omega (arith, before, there)))
            (c.loop-r.invariant.1 q region (omega (arith, before, other))) others
      ],
    )

pub returns-clause-room : goal.returns-clause-room
returns-clause-room c = c.loop-r.invariant.0

pub returns-clause-shows : goal.returns-clause-shows
returns-clause-shows c = λ q region within. c.loop-r.invariant.1 q region (omega (arith, within, c.setup.ensures.come.stand.one_each, ap length c.list-list.ensures, c.loop-r-test.false, c.loop-r.auto.r-end))
