use Rattle.std.specs.Prelude.{Option, None, replicate, if◌then◌else◌}
use Rattle.std.proofs.Common.{◌≡◌, ℕ, ◌+◌, ◌<◌, true, [], ◌++◌, length, ap, arith, refl, subst, sym, ◌∙◌}
use Rattle.std.proofs.lemmas.List.{length-replicate, with_items_is}
use Rattle.network_file.specs.Sound.{IsNetwork}
use Rattle.region_cut.specs.Cuttings.{region_count}
use Rattle.region_step.specs.Advance.{HasRowsInBounds, advanced, next_rows_of}
use Rattle.region_step.specs.Recording.{is_recorded}
use Rattle.region_step.specs.Noting.{notes_of}
use Rattle.region_step.specs.Region.{RegionState}
use Rattle.region_step.proofs.Advancing.{advanced-built, advanced-in_bounds, advanced-inside, can_advance-read, length-next_rows_of, notes-fit, stepped-read}
use Rattle.region_step.proofs.Ground.{ground}
use Rattle.region_step.proofs.GridStates.{grid_state-next, grid_state-number}
use Rattle.region_step.proofs.region.Region.advance.Goals as goal

pub step-requires-clause-can : goal.step-requires-clause-can
step-requires-clause-can c =
    rw c.net-net.ensures.network (can_advance-read c.args.layout.now.net c.args.layout.now.chart _ c.args.self.now _ _ c.self.view_is (subst IsNetwork (c.net.view_is ∙ c.net-net.ensures.network) c.net.invariant)
    c.requires.opened c.requires.in_bounds c.requires.halo c.cells-cells.ensures.list c.deref.ensures.value)

pub note_step-requires : goal.note_step-requires
note_step-requires c =
    let done = stepped-read c.args.layout.now.net c.args.layout.now.chart _ c.args.self.now _ _ c.step.new.self c.self.view_is (subst IsNetwork (c.net.view_is ∙ c.net-net.ensures.network) c.net.invariant)
    c.requires.opened c.requires.in_bounds c.requires.halo c.cells-cells.ensures.list c.deref.ensures.value (rw c.net-net.ensures.network at c.step.ensures.rows) (rw c.net-net.ensures.network at c.step.ensures.ordered) (rw c.net-net.ensures.network at c.step.ensures.before) in
    let sound = subst IsNetwork (c.net.view_is ∙ c.net-net.ensures.network) c.net.invariant in
    let here = ground c.args.layout.now.net c.args.layout.now.chart.cut c.args.layout.now.chart c.args.self.now.state.number sound c.requires.opened.charted c.requires.opened.one_of.there in
    let long = done.ordered.order.place_each in
    let steps : c.net.inside.steps ≡ c.args.layout.now.net.steps = ap (λ net. net.steps) (c.net.view_is ∙ c.net-net.ensures.network) in
    record {
      few = omega (arith, long, here.few);
      room = λ recorded.
          let here : is_recorded c.args.layout.now.net.steps c.args.self.now.state.every (c.args.self.now.state.step + 1) ≡ true =
          sym (c.is_recorded-recorded.ensures ∙ ap (λ n. is_recorded n c.self.inside.every (c.self.inside.step + 1)) steps ∙
          ap (λ region. is_recorded c.args.layout.now.net.steps region.state.every (region.state.step + 1)) c.self.view_is) ∙ recorded in
          let fit = notes-fit c.args.layout.now.net c.args.layout.now.chart c.args.self.now (next_rows_of c.args.layout.now.net c.args.layout.now.chart c.args.self.now.state) c.requires.opened c.requires.in_time
          (length-next_rows_of c.args.layout.now.net c.args.layout.now.chart c.args.self.now.state) here in
          let trail = ap (λ region. length region.state.trail) c.self.view_is in
          let room = ap (λ region. region.body.room) c.self.view_is in
          omega (arith, fit, trail, room, long, length-next_rows_of c.args.layout.now.net c.args.layout.now.chart c.args.self.now.state);
    }

pub returns-clause-state : goal.returns-clause-state
returns-clause-state c =
    let done = stepped-read c.args.layout.now.net c.args.layout.now.chart _ c.args.self.now _ _ c.step.new.self c.self.view_is (subst IsNetwork (c.net.view_is ∙ c.net-net.ensures.network) c.net.invariant)
    c.requires.opened c.requires.in_bounds c.requires.halo c.cells-cells.ensures.list c.deref.ensures.value (rw c.net-net.ensures.network at c.step.ensures.rows) (rw c.net-net.ensures.network at c.step.ensures.ordered) (rw c.net-net.ensures.network at c.step.ensures.before) in
    let old : RegionState = c.args.self.now.state in
    let steps : c.net.inside.steps ≡ c.args.layout.now.net.steps = ap (λ net. net.steps) (c.net.view_is ∙ c.net-net.ensures.network) in
    let recorded : c.is_recorded-recorded.result ≡ is_recorded c.args.layout.now.net.steps old.every (old.step + 1) =
    c.is_recorded-recorded.ensures ∙ ap (λ n. is_recorded n c.self.inside.every (c.self.inside.step + 1)) steps ∙
    ap (λ region. is_recorded c.args.layout.now.net.steps region.state.every (region.state.step + 1)) c.self.view_is in
    let trail = c.note_step.ensures.notes ∙ ap (λ notes. c.self.inside.trail.items ++ (if c.is_recorded-recorded.result then notes_of notes else [])) done.rows ∙
    ap (λ b. c.self.inside.trail.items ++ (if b then notes_of (next_rows_of c.args.layout.now.net c.args.layout.now.chart old) else [])) recorded ∙
    ap (λ region. region.state.trail ++ (if is_recorded c.args.layout.now.net.steps old.every (old.step + 1) then notes_of (next_rows_of c.args.layout.now.net c.args.layout.now.chart old) else [])) c.self.view_is in
    let cleared : c.clear.new.put ≡ replicate (length c.self.inside.put.items) None = c.clear.ensures ∙ ap (λ put. replicate (length put) None) c.deref_mut.ensures.value in
    let long : length c.clear.new.put ≡ c.self.inside.put.len = omega (arith, ap length cleared, length-replicate {A = Option ℕ} (length c.self.inside.put.items) None, c.self.inside.put.ok.0) in
    let put = with_items_is c.self.inside.put c.clear.new.put long ∙ cleared ∙ ap (λ region. replicate (length region.state.put) None) c.self.view_is in
    advanced-built c.args.layout.now.net c.args.layout.now.chart old _ (ap (λ region. region.state.number) c.self.view_is) (ap (λ region. region.state.started) c.self.view_is)
    (ap (λ region. region.state.every) c.self.view_is) (ap (λ region. region.state.step + 1) c.self.view_is) done.rows done.before trail put

pub returns-clause-opened : goal.returns-clause-opened
returns-clause-opened c =
    let done = stepped-read c.args.layout.now.net c.args.layout.now.chart _ c.args.self.now _ _ c.step.new.self c.self.view_is (subst IsNetwork (c.net.view_is ∙ c.net-net.ensures.network) c.net.invariant)
    c.requires.opened c.requires.in_bounds c.requires.halo c.cells-cells.ensures.list c.deref.ensures.value (rw c.net-net.ensures.network at c.step.ensures.rows) (rw c.net-net.ensures.network at c.step.ensures.ordered) (rw c.net-net.ensures.network at c.step.ensures.before) in
    advanced-inside c.args.layout.now.net c.args.layout.now.chart c.args.self.now _ c.requires.opened c.requires.in_time (returns-clause-state c)
    done.ordered refl (ap (λ region. region.body.border) c.self.view_is)
    (rw (ap (λ region. region.body.room) c.self.view_is) at c.note_step.ensures.room)

pub returns-clause-bounds : goal.returns-clause-bounds
returns-clause-bounds c =
    subst (HasRowsInBounds c.args.layout.now.net c.args.layout.now.chart) (sym (returns-clause-state c))
    (advanced-in_bounds c.args.layout.now.net c.args.layout.now.chart c.args.self.now.state (subst IsNetwork (c.net.view_is ∙ c.net-net.ensures.network) c.net.invariant) c.requires.opened.charted c.requires.opened.one_of.there c.requires.in_time c.requires.in_bounds)

pub returns-clause-grid : goal.returns-clause-grid
returns-clause-grid c = λ start every r t started is.
    let number : c.args.self.now.state.number ≡ r = ap (λ state. state.number) is ∙ grid_state-number c.args.layout.now.net c.args.layout.now.chart start every r t in
    returns-clause-state c ∙ ap (advanced c.args.layout.now.net c.args.layout.now.chart) is ∙
    grid_state-next c.args.layout.now.net c.args.layout.now.chart start every r t (subst IsNetwork (c.net.view_is ∙ c.net-net.ensures.network) c.net.invariant) c.requires.opened.charted
    (subst (λ q. q < region_count c.args.layout.now.chart.cut) number c.requires.opened.one_of.there) started
