use Rattle.std.specs.Prelude.{map, replicate, slice_index, None, if◌then◌else◌}
use Rattle.std.proofs.Common.{◌≡◌, ◌≤◌, ℕ, List, [], length, get_or, arith, ap, refl, subst, sym, ◌∙◌}
use Rattle.std.proofs.lemmas.List.{get_or_default, length-map, length-replicate}
use Rattle.network_file.specs.Sound.{IsNetwork}
use Rattle.flow_model.specs.State.{row_at}
use Rattle.region_cut.specs.Chart.{list_at}
use Rattle.region_step.specs.Recording.{is_recorded}
use Rattle.region_step.specs.Noting.{notes_of}
use Rattle.region_step.proofs.Ground.{cells-within}
use Rattle.region_step.proofs.GridStates.{grid_state-put, grid_state-start}
use Rattle.region_step.specs.Advance.{HasRowsInBounds}
use Rattle.region_step.specs.Laws.{grid_state}
use Rattle.region_step.proofs.Steps.{grid_state-in_bounds}
use Rattle.plain_region.proofs.plain.PlainRegion.open.Goals as goal

pub new-requires-2-clause-there : goal.new-requires-2-clause-there
new-requires-2-clause-there c =
    cells-within c.args.layout.now.net c.args.layout.now.chart.cut c.args.layout.now.chart c.args.r c.cells-cells.result.now c.deref.result.now (subst IsNetwork (c.net.view_is ∙ c.net-net.ensures.network) c.net.invariant)
    c.net-net.ensures.charted c.requires.there c.cells-cells.ensures.list (ap length (c.deref.ensures.value ∙ ap (λ start. start.rows) c.start.view_is) ∙ c.requires.fits.rows)

pub new-requires-2-clause-there_earlier : goal.new-requires-2-clause-there_earlier
new-requires-2-clause-there_earlier c =
    cells-within c.args.layout.now.net c.args.layout.now.chart.cut c.args.layout.now.chart c.args.r c.cells-cells.result.now c.deref-2.result.now (subst IsNetwork (c.net.view_is ∙ c.net-net.ensures.network) c.net.invariant)
    c.net-net.ensures.charted c.requires.there c.cells-cells.ensures.list (ap length (c.deref-2.ensures.value ∙ ap (λ start. start.earlier) c.start.view_is) ∙ c.requires.fits.earlier)

step-is : (c : goal.In_ok-trail) → c.index-step.result.now ≡ slice_index c.args.start.now.steps c.args.r
step-is c =
    c.index-step.ensures ∙ ap (λ start. get_or start.steps c.args.r c.index-step.result.now) c.start.view_is ∙
    get_or_default c.args.start.now.steps c.args.r c.index-step.result.now 0 (omega (arith, c.requires.fits.one_each, c.requires.there))

rows-are : (c : goal.In_ok-trail) → c.in_ok-own.own.rows ≡ map (row_at c.args.start.now.rows) (list_at c.args.layout.now.chart.cells c.args.r)
rows-are c =
    let read = c.deref.ensures.value ∙ ap (λ start. start.rows) c.start.view_is in
    c.in_ok-own.ensures.rows ∙ ap (λ rows. map (row_at rows) c.cells-cells.result.now) read ∙ ap (map (row_at c.args.start.now.rows)) c.cells-cells.ensures.list

before-are : (c : goal.In_ok-trail) → c.in_ok-own.own.before ≡ map (slice_index c.args.start.now.earlier) (list_at c.args.layout.now.chart.cells c.args.r)
before-are c =
    let read = c.deref-2.ensures.value ∙ ap (λ start. start.earlier) c.start.view_is in
    c.in_ok-own.ensures.before ∙ ap (λ earlier. map (slice_index earlier) c.cells-cells.result.now) read ∙ ap (map (slice_index c.args.start.now.earlier)) c.cells-cells.ensures.list

put-is : (c : goal.In_ok-trail) → c.in_ok-put.put.items ≡ replicate (length (list_at c.args.layout.now.chart.halo c.args.r)) None
put-is c = c.in_ok-put.ensures ∙ ap (λ n. replicate n None) (ap length c.halo.ensures.list)

notes-are : (c : goal.In_ok-trail) → c.in_ok-trail.trail.items ≡
    (if is_recorded c.args.layout.now.net.steps c.args.every (slice_index c.args.start.now.steps c.args.r) then notes_of c.in_ok-own.own.rows else [])
notes-are c =
    let steps : c.net.inside.steps ≡ c.args.layout.now.net.steps = ap (λ net. net.steps) (c.net.view_is ∙ c.net-net.ensures.network) in
    c.in_ok-trail.ensures ∙ ap (λ b. if b then notes_of c.rows.result.now else []) c.is_recorded.ensures ∙
    ap (λ rows. if is_recorded c.net.inside.steps c.args.every c.index-step.result.now then notes_of rows else []) c.rows.ensures ∙
    ap (λ n. if is_recorded n c.args.every c.index-step.result.now then notes_of c.in_ok-own.own.rows else []) steps ∙
    ap (λ s. if is_recorded c.args.layout.now.net.steps c.args.every s then notes_of c.in_ok-own.own.rows else []) (step-is c)

pub returns-clause-opened : goal.returns-clause-opened
returns-clause-opened c =
    let cells : List ℕ = list_at c.args.layout.now.chart.cells c.args.r in
    let rows_long : length c.in_ok-own.own.rows ≡ length cells = ap length (rows-are c) ∙ length-map cells (row_at c.args.start.now.rows) in
    let step_within : c.index-step.result.now ≤ c.args.layout.now.net.steps = omega (arith, step-is c, c.requires.fits.in_time c.args.r 0 (omega (arith, c.requires.fits.one_each, c.requires.there))) in
    record {
      charted = c.net-net.ensures.charted;
      one_of = record {
        there = c.requires.there;
        rows = rows_long;
        before = ap length (before-are c) ∙ length-map cells (slice_index c.args.start.now.earlier);
        put = ap length (put-is c) ∙ length-replicate (length (list_at c.args.layout.now.chart.halo c.args.r)) None;
        border = c.in_ok-wiring.ensures.border;
      };
      in_time = step_within;
      connectors = c.in_ok-wiring.ensures.connectors;
    }

pub returns-clause-state : goal.returns-clause-state
returns-clause-state c =
    let steps : c.net.inside.steps ≡ c.args.layout.now.net.steps = ap (λ net. net.steps) (c.net.view_is ∙ c.net-net.ensures.network) in
    grid_state-start c.args.layout.now.net c.args.layout.now.chart c.args.start.now c.args.every c.args.r _ (subst IsNetwork (c.net.view_is ∙ c.net-net.ensures.network) c.net.invariant) c.net-net.ensures.charted c.requires.there
    refl (step-is c) refl (step-is c) (rows-are c) (before-are c)
    (notes-are c)
    (put-is c)

pub returns-clause-in_bounds : goal.returns-clause-in_bounds
unfolding grid_state
returns-clause-in_bounds c =
    let sound = subst IsNetwork (c.net.view_is ∙ c.net-net.ensures.network) c.net.invariant in
    let read = returns-clause-state c in
    subst (HasRowsInBounds c.args.layout.now.net c.args.layout.now.chart) (sym read)
    (subst (λ put. HasRowsInBounds c.args.layout.now.net c.args.layout.now.chart (record (grid_state c.args.layout.now.net c.args.layout.now.chart c.args.start.now c.args.every c.args.r (slice_index c.args.start.now.steps c.args.r)) { put = put }))
    (grid_state-put c.args.layout.now.net c.args.layout.now.chart c.args.start.now c.args.every c.args.r (slice_index c.args.start.now.steps c.args.r))
    (grid_state-in_bounds c.args.layout.now.net c.args.layout.now.chart c.args.start.now c.args.every c.args.r (slice_index c.args.start.now.steps c.args.r) _ sound c.net-net.ensures.charted c.requires.there c.requires.fits
    (omega arith) (omega (arith, c.requires.fits.in_time c.args.r 0 (omega (arith, c.requires.fits.one_each, c.requires.there))))))
