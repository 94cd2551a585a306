use Rattle.std.specs.Prelude.{replicate, slice_index, None, if◌then◌else◌}
use Rattle.std.proofs.Common.{◌≡◌, ◌≤◌, ℕ, List, [], length, get_or, arith, ap, refl, subst, sym, ◌∙◌}
use Rattle.std.proofs.lemmas.List.{get_or_default, length-map, length-replicate}
use Rattle.network_file.specs.Sound.{IsNetwork}
use Rattle.flow_model.specs.State.{row_at}
use Rattle.flow_model.specs.declared.row.Row.{Row}
use Rattle.region_step.specs.Ordered.{rows_in}
use Rattle.region_cut.specs.Chart.{list_at}
use Rattle.region_step.specs.Recording.{is_recorded}
use Rattle.region_step.specs.Noting.{notes_of}
use Rattle.region_step.proofs.Ground.{ground}
use Rattle.region_step.proofs.Grids.{are_the_recurrences, stay_in_bounds}
use Rattle.region_step.proofs.GridStates.{grid_state-put, grid_state-start}
use Rattle.region_step.specs.Advance.{HasRowsInBounds}
use Rattle.region_step.specs.Laws.{grid_state}
use Rattle.region_step.proofs.Steps.{grid_state-in_bounds}
use Rattle.region_step.proofs.region.Region.open.Goals as goal

pub border_places-requires-clause-inside : goal.border_places-requires-clause-inside
border_places-requires-clause-inside c =
    let here = ground c.args.layout.now.net c.args.layout.now.chart.cut c.args.layout.now.chart c.args.r (subst IsNetwork (c.net.view_is ∙ c.net-net.ensures.network) c.net.invariant) c.net-net.ensures.charted c.requires.there in
    rw (c.cells.ensures.list, c.border.ensures.list) here.inside

pub border_places-requires-clause-increasing : goal.border_places-requires-clause-increasing
border_places-requires-clause-increasing c =
    let here = ground c.args.layout.now.net c.args.layout.now.chart.cut c.args.layout.now.chart c.args.r (subst IsNetwork (c.net.view_is ∙ c.net-net.ensures.network) c.net.invariant) c.net-net.ensures.charted c.requires.there in
    rw c.cells.ensures.list here.apart.rising

pub border_places-requires-clause-few : goal.border_places-requires-clause-few
border_places-requires-clause-few c =
    let here = ground c.args.layout.now.net c.args.layout.now.chart.cut c.args.layout.now.chart c.args.r (subst IsNetwork (c.net.view_is ∙ c.net-net.ensures.network) c.net.invariant) c.net-net.ensures.charted c.requires.there in
    omega (arith, ap length c.cells.ensures.list, here.few)

pub first_notes-requires-clause-few : goal.first_notes-requires-clause-few
first_notes-requires-clause-few c =
    let here = ground c.args.layout.now.net c.args.layout.now.chart.cut c.args.layout.now.chart c.args.r (subst IsNetwork (c.net.view_is ∙ c.net-net.ensures.network) c.net.invariant) c.net-net.ensures.charted c.requires.there in
    omega (arith, c.in_ok-cells.ensures.ordered.order.place_each, here.few)

step-is : (c : goal.In_ok-trail) → c.index-step.result.now ≡ slice_index c.args.start.now.steps c.args.r
step-is c =
    c.index-step.ensures ∙ ap (λ start. get_or start.steps c.args.r c.index-step.result.now) c.start.view_is ∙
    get_or_default c.args.start.now.steps c.args.r c.index-step.result.now 0 (omega (arith, c.requires.fits.one_each, c.requires.there))

put-is : (c : goal.In_ok-trail) → c.in_ok-put.put.items ≡ replicate (length (list_at c.args.layout.now.chart.halo c.args.r)) None
put-is c = c.in_ok-put.ensures ∙ ap (λ n. replicate n None) (ap length c.halo.ensures.list)

notes-are : (c : goal.In_ok-trail) → c.in_ok-trail.trail.items ≡
    (if is_recorded c.args.layout.now.net.steps c.args.every (slice_index c.args.start.now.steps c.args.r) then notes_of (rows_in c.in_ok-cells.cells) else [])
notes-are c =
    let steps : c.net.inside.steps ≡ c.args.layout.now.net.steps = ap (λ net. net.steps) (c.net.view_is ∙ c.net-net.ensures.network) in
    let rows : List Row = rows_in c.in_ok-cells.cells in
    c.in_ok-trail.ensures.notes ∙
    ap (λ n. if is_recorded n c.args.every c.index-step.result.now then notes_of rows else []) steps ∙
    ap (λ s. if is_recorded c.args.layout.now.net.steps c.args.every s then notes_of rows else []) (step-is c)

pub returns-clause-opened : goal.returns-clause-opened
returns-clause-opened c =
    let cells : List ℕ = list_at c.args.layout.now.chart.cells c.args.r in
    let steps : c.net.inside.steps ≡ c.args.layout.now.net.steps = ap (λ net. net.steps) (c.net.view_is ∙ c.net-net.ensures.network) in
    let laid = c.in_ok-cells.ensures.ordered in
    let step_within : c.index-step.result.now ≤ c.args.layout.now.net.steps = omega (arith, step-is c, c.requires.fits.in_time c.args.r 0 (omega (arith, c.requires.fits.one_each, c.requires.there))) in
    record {
      charted = c.net-net.ensures.charted;
      one_of = record {
        there = c.requires.there;
        rows = ap length c.in_ok-cells.ensures.rows ∙ length-map cells (row_at c.args.start.now.rows);
        before = ap length c.in_ok-cells.ensures.before ∙ length-map cells (slice_index c.args.start.now.earlier);
        put = ap length (put-is c) ∙ length-replicate (length (list_at c.args.layout.now.chart.halo c.args.r)) None;
        border = rw (c.cells.ensures.list, c.border.ensures.list) at c.in_ok-border.ensures;
      };
      in_time = step_within;
      ordered = rw (step-is c) laid;
      row_each = refl;
      room = rw (steps, laid.order.place_each) at c.in_ok-trail.ensures.room;
    }

pub returns-clause-state : goal.returns-clause-state
returns-clause-state c =
    let steps : c.net.inside.steps ≡ c.args.layout.now.net.steps = ap (λ net. net.steps) (c.net.view_is ∙ c.net-net.ensures.network) in
    grid_state-start c.args.layout.now.net c.args.layout.now.chart c.args.start.now c.args.every c.args.r _ (subst IsNetwork (c.net.view_is ∙ c.net-net.ensures.network) c.net.invariant) c.net-net.ensures.charted c.requires.there
    refl (step-is c) refl (step-is c) c.in_ok-cells.ensures.rows c.in_ok-cells.ensures.before
    (notes-are c)
    (put-is c)

pub returns-clause-in_bounds : goal.returns-clause-in_bounds
unfolding grid_state
returns-clause-in_bounds c =
    let sound = subst IsNetwork (c.net.view_is ∙ c.net-net.ensures.network) c.net.invariant in
    let read = returns-clause-state c in
    subst (HasRowsInBounds c.args.layout.now.net c.args.layout.now.chart) (sym read)
    (subst (λ put. HasRowsInBounds c.args.layout.now.net c.args.layout.now.chart (record (grid_state c.args.layout.now.net c.args.layout.now.chart c.args.start.now c.args.every c.args.r (slice_index c.args.start.now.steps c.args.r)) { put = put }))
    (grid_state-put c.args.layout.now.net c.args.layout.now.chart c.args.start.now c.args.every c.args.r (slice_index c.args.start.now.steps c.args.r))
    (grid_state-in_bounds c.args.layout.now.net c.args.layout.now.chart c.args.start.now c.args.every c.args.r (slice_index c.args.start.now.steps c.args.r) _ sound c.net-net.ensures.charted c.requires.there c.requires.fits
    (omega arith) (omega (arith, c.requires.fits.in_time c.args.r 0 (omega (arith, c.requires.fits.one_each, c.requires.there))))))

pub returns-clause-bounds : goal.returns-clause-bounds
returns-clause-bounds c = stay_in_bounds c.args.layout.now.net c.args.layout.now.chart.cut c.args.start.now (subst IsNetwork (c.net.view_is ∙ c.net-net.ensures.network) c.net.invariant) c.requires.fits

pub returns-clause-recurrences : goal.returns-clause-recurrences
returns-clause-recurrences c = are_the_recurrences c.args.layout.now.net c.args.layout.now.chart.cut c.args.start.now (subst IsNetwork (c.net.view_is ∙ c.net-net.ensures.network) c.net.invariant)

pub returns-in_err-put-clause-bounds : goal.returns-in_err-put-clause-bounds
returns-in_err-put-clause-bounds c = stay_in_bounds c.args.layout.now.net c.args.layout.now.chart.cut c.args.start.now (subst IsNetwork (c.net.view_is ∙ c.net-net.ensures.network) c.net.invariant) c.requires.fits

pub returns-in_err-put-clause-recurrences : goal.returns-in_err-put-clause-recurrences
returns-in_err-put-clause-recurrences c = are_the_recurrences c.args.layout.now.net c.args.layout.now.chart.cut c.args.start.now (subst IsNetwork (c.net.view_is ∙ c.net-net.ensures.network) c.net.invariant)

pub returns-in_err-trail-clause-bounds : goal.returns-in_err-trail-clause-bounds
returns-in_err-trail-clause-bounds c = stay_in_bounds c.args.layout.now.net c.args.layout.now.chart.cut c.args.start.now (subst IsNetwork (c.net.view_is ∙ c.net-net.ensures.network) c.net.invariant) c.requires.fits

pub returns-in_err-trail-clause-recurrences : goal.returns-in_err-trail-clause-recurrences
returns-in_err-trail-clause-recurrences c = are_the_recurrences c.args.layout.now.net c.args.layout.now.chart.cut c.args.start.now (subst IsNetwork (c.net.view_is ∙ c.net-net.ensures.network) c.net.invariant)

pub returns-in_err-cells-clause-bounds : goal.returns-in_err-cells-clause-bounds
returns-in_err-cells-clause-bounds c = stay_in_bounds c.args.layout.now.net c.args.layout.now.chart.cut c.args.start.now (subst IsNetwork (c.net.view_is ∙ c.net-net.ensures.network) c.net.invariant) c.requires.fits

pub returns-in_err-cells-clause-recurrences : goal.returns-in_err-cells-clause-recurrences
returns-in_err-cells-clause-recurrences c = are_the_recurrences c.args.layout.now.net c.args.layout.now.chart.cut c.args.start.now (subst IsNetwork (c.net.view_is ∙ c.net-net.ensures.network) c.net.invariant)

pub returns-in_err-border-clause-bounds : goal.returns-in_err-border-clause-bounds
returns-in_err-border-clause-bounds c = stay_in_bounds c.args.layout.now.net c.args.layout.now.chart.cut c.args.start.now (subst IsNetwork (c.net.view_is ∙ c.net-net.ensures.network) c.net.invariant) c.requires.fits

pub returns-in_err-border-clause-recurrences : goal.returns-in_err-border-clause-recurrences
returns-in_err-border-clause-recurrences c = are_the_recurrences c.args.layout.now.net c.args.layout.now.chart.cut c.args.start.now (subst IsNetwork (c.net.view_is ∙ c.net-net.ensures.network) c.net.invariant)
