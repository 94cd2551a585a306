use Rattle.std.specs.Prelude.{Option, None, map, replicate, if◌then◌else◌}
use Rattle.std.proofs.Common.{◌≡◌, ℕ, ◌+◌, List, [], ◌++◌, length, ap, arith, subst, sym, ◌∙◌}
use Rattle.std.proofs.lemmas.List.{length-replicate, with_items_is}
use Rattle.network_file.specs.Sound.{IsNetwork}
use Rattle.flow_model.specs.declared.row.Row.{Row}
use Rattle.region_cut.specs.Chart.{list_at}
use Rattle.region_step.specs.Advance.{HasRowsInBounds, next_rows_of}
use Rattle.region_step.specs.Opened.{halo_cells}
use Rattle.region_step.specs.Recording.{is_recorded}
use Rattle.region_step.specs.Noting.{notes_of}
use Rattle.region_step.specs.Region.{RegionState}
use Rattle.region_step.proofs.Advancing.{advanced-built, advanced-in_bounds, length-next_rows_of}
use Rattle.plain_region.proofs.Advancing.{advanced-inside, next_rows-read, scene-read}
use Rattle.plain_region.proofs.plain.PlainRegion.advance.Goals.{After-rows}
use Rattle.plain_region.proofs.plain.PlainRegion.advance.Goals as goal

pub step-requires : goal.step-requires
step-requires c =
    rw c.net-net.ensures.network (scene-read c.args.layout.now.net c.args.layout.now.chart c.args.self.now c.self.inside.step c.cells-cells.result.now (map (λ halo. halo.cell) c.halo-halo.result.now) c.deref.result.now c.self.inside.cells.rows c.deref-2.result.now
    (subst IsNetwork (c.net.view_is ∙ c.net-net.ensures.network) c.net.invariant) c.requires.opened c.requires.in_time c.requires.in_bounds c.requires.halo
    (ap (λ region. region.state.step) c.self.view_is)
    (c.cells-cells.ensures.list ∙ ap (λ region. list_at c.args.layout.now.chart.cells region.state.number) c.self.view_is)
    (ap (map (λ halo. halo.cell)) c.halo-halo.ensures.list ∙ ap (λ region. halo_cells c.args.layout.now.chart region.state.number) c.self.view_is)
    (c.deref.ensures.value ∙ ap (λ region. region.body.connectors) c.self.view_is)
    (ap (λ region. region.state.rows) c.self.view_is)
    (c.deref-2.ensures.value ∙ ap (λ region. region.state.put) c.self.view_is))

rows-are : (c : After-rows) → c.step.new.self.rows ≡ next_rows_of c.args.layout.now.net c.args.layout.now.chart c.args.self.now.state
rows-are c =
    (rw c.net-net.ensures.network at c.step.ensures.rows) ∙
    next_rows-read c.args.layout.now.net c.args.layout.now.chart c.args.self.now c.self.inside.step c.cells-cells.result.now (map (λ halo. halo.cell) c.halo-halo.result.now) c.self.inside.cells.rows c.deref-2.result.now
    (ap (λ region. region.state.step) c.self.view_is)
    (c.cells-cells.ensures.list ∙ ap (λ region. list_at c.args.layout.now.chart.cells region.state.number) c.self.view_is)
    (ap (map (λ halo. halo.cell)) c.halo-halo.ensures.list ∙ ap (λ region. halo_cells c.args.layout.now.chart region.state.number) c.self.view_is)
    (ap (λ region. region.state.rows) c.self.view_is) (c.deref-2.ensures.value ∙ ap (λ region. region.state.put) c.self.view_is)

pub note_step-requires : goal.note_step-requires
note_step-requires c =
    let long : length c.rows.result.now ≡ length c.cells-cells.result.now =
    ap length (c.rows.ensures ∙ rows-are c) ∙ length-next_rows_of c.args.layout.now.net c.args.layout.now.chart c.args.self.now.state ∙
    sym (ap length (c.cells-cells.ensures.list ∙ ap (λ region. list_at c.args.layout.now.chart.cells region.state.number) c.self.view_is)) in
    record { room = λ recorded. omega (arith, c.in_ok-make_room.ensures.room recorded, long) }

pub returns-clause-state : goal.returns-clause-state
returns-clause-state c =
    let stepped = rows-are ((goal.at.returns-clause-state c).After-rows) in
    let old : RegionState = c.args.self.now.state in
    let rows : List Row = next_rows_of c.args.layout.now.net c.args.layout.now.chart old in
    let steps : c.net.inside.steps ≡ c.args.layout.now.net.steps = ap (λ net. net.steps) (c.net.view_is ∙ c.net-net.ensures.network) in
    let recorded : c.is_recorded-recorded.result ≡ is_recorded c.args.layout.now.net.steps old.every (old.step + 1) =
    c.is_recorded-recorded.ensures ∙ ap (λ n. is_recorded n c.self.inside.every (c.self.inside.step + 1)) steps ∙
    ap (λ region. is_recorded c.args.layout.now.net.steps region.state.every (region.state.step + 1)) c.self.view_is in
    let trail = c.note_step.ensures ∙ ap (λ front. front ++ (if c.is_recorded-recorded.result then notes_of c.rows.result.now else [])) c.make_room.ensures.unchanged ∙
    ap (λ notes. c.self.inside.trail.items ++ (if c.is_recorded-recorded.result then notes_of notes else [])) (c.rows.ensures ∙ stepped) ∙
    ap (λ b. c.self.inside.trail.items ++ (if b then notes_of rows else [])) recorded ∙
    ap (λ region. region.state.trail ++ (if is_recorded c.args.layout.now.net.steps old.every (old.step + 1) then notes_of rows else [])) c.self.view_is in
    let cleared : c.clear.new.put ≡ replicate (length c.self.inside.put.items) None = c.clear.ensures ∙ ap (λ put. replicate (length put) None) c.deref_mut.ensures.value in
    let long : length c.clear.new.put ≡ c.self.inside.put.len = omega (arith, ap length cleared, length-replicate {A = Option ℕ} (length c.self.inside.put.items) None, c.self.inside.put.ok.0) in
    let put = with_items_is c.self.inside.put c.clear.new.put long ∙ cleared ∙ ap (λ region. replicate (length region.state.put) None) c.self.view_is in
    advanced-built c.args.layout.now.net c.args.layout.now.chart old _ (ap (λ region. region.state.number) c.self.view_is) (ap (λ region. region.state.started) c.self.view_is)
    (ap (λ region. region.state.every) c.self.view_is) (ap (λ region. region.state.step + 1) c.self.view_is) stepped
    (c.step.ensures.before ∙ ap (λ region. map (λ row. row.n) region.state.rows) c.self.view_is) trail put

pub returns-clause-opened : goal.returns-clause-opened
returns-clause-opened c =
    advanced-inside c.args.layout.now.net c.args.layout.now.chart c.args.self.now _ c.requires.opened c.requires.in_time (returns-clause-state c)
    (ap (λ region. region.body.connectors) c.self.view_is) (ap (λ region. region.body.border) c.self.view_is)

pub returns-clause-bounds : goal.returns-clause-bounds
returns-clause-bounds c =
    subst (HasRowsInBounds c.args.layout.now.net c.args.layout.now.chart) (sym (returns-clause-state c))
    (advanced-in_bounds c.args.layout.now.net c.args.layout.now.chart c.args.self.now.state (subst IsNetwork (c.net.view_is ∙ c.net-net.ensures.network) c.net.invariant) c.requires.opened.charted c.requires.opened.one_of.there c.requires.in_time c.requires.in_bounds)
