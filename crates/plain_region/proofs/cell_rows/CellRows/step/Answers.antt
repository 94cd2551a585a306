use Rattle.std.specs.Prelude.{map, slice_index}
use Rattle.std.proofs.Common.{◌≡◌, ℕ, ◌<◌, List, length, ap, arith, subst, sym, ◌∙◌}
use Rattle.std.proofs.lemmas.List.{with_items_is}
use Rattle.flow_model.specs.Stepping.{rows_after}
use Rattle.region_step.specs.Advance.{known}
use Rattle.plain_region.specs.Carrying.{CanChangeAt, IsChangeOf, change_at, rows_changed}
use Rattle.region_body.proofs.Whole.{length-rows_after}
use Rattle.plain_region.proofs.Advancing.{can_change, rows_changed-is}
use Rattle.plain_region.proofs.cell_rows.CellRows.step.Goals as goal

rows-are : (c : goal.After-deref_mut-2) → c.self.inside.rows.items ≡ c.args.self.now.rows
rows-are c = ap (λ cells. cells.rows) c.self.view_is

one_each : (c : goal.After-deref_mut-2) → length c.self.inside.rows.items ≡ length c.args.cells.now
one_each c = ap length (rows-are c) ∙ c.requires.row_each

changes-are : (c : goal.After-deref_mut-2) → c.deref-3.result.now ≡ c.carry_all.new.changes
changes-are c =
    c.deref-3.ensures.value ∙
    with_items_is c.self.inside.changes c.carry_all.new.changes (omega (arith, c.carry_all.ensures.one_each, c.self.inside.changes.ok.0, c.self.invariant.1, one_each c))

each-is : (c : goal.After-deref_mut-2) (p : ℕ) → p < length c.args.cells.now →
    IsChangeOf c.args.net.now c.args.t (known c.args.cells.now (map (λ halo. halo.cell) c.args.halo.now) c.args.self.now.rows c.args.put.now) (slice_index c.args.cells.now p) (change_at c.carry_all.new.changes p)
each-is c p within =
    subst (λ rows. IsChangeOf c.args.net.now c.args.t (known c.args.cells.now (map (λ halo. halo.cell) c.args.halo.now) rows c.args.put.now) (slice_index c.args.cells.now p) (change_at c.carry_all.new.changes p))
    (c.deref.ensures.value ∙ rows-are c) (c.carry_all.ensures.changes p within)

pub change_rows-requires-clause-there : goal.change_rows-requires-clause-there
change_rows-requires-clause-there c = λ p within.
    subst (λ changes. CanChangeAt c.args.net.now c.args.t c.args.cells.now c.deref-2.result.now changes p) (sym (changes-are c))
    (subst (λ rows. CanChangeAt c.args.net.now c.args.t c.args.cells.now rows c.carry_all.new.changes p) (sym (c.deref-2.ensures.value ∙ rows-are c))
    (can_change c.args.net.now c.args.t c.args.cells.now (map (λ halo. halo.cell) c.args.halo.now) c.args.connectors.now c.args.self.now.rows c.args.put.now c.carry_all.new.changes p c.requires within (each-is c p within)))

pub returns-clause-rows : goal.returns-clause-rows
returns-clause-rows c =
    let halo : List ℕ = map (λ halo. halo.cell) c.args.halo.now in
    let same : c.self.inside.rows.items ≡ c.args.self.now.rows = ap (λ cells. cells.rows) c.self.view_is in
    let each : length c.self.inside.rows.items ≡ length c.args.cells.now = ap length same ∙ c.requires.row_each in
    let changes : c.deref-3.result.now ≡ c.carry_all.new.changes =
    c.deref-3.ensures.value ∙
    with_items_is c.self.inside.changes c.carry_all.new.changes (omega (arith, c.carry_all.ensures.one_each, c.self.inside.changes.ok.0, c.self.invariant.1, each)) in
    let after : c.change_rows.new.next ≡ rows_after c.args.net.now c.args.t (known c.args.cells.now halo c.args.self.now.rows c.args.put.now) c.args.cells.now c.args.self.now.rows =
    c.change_rows.ensures ∙ ap (λ rows. rows_changed c.args.net.now c.args.t c.args.cells.now rows c.deref-3.result.now) (c.deref-2.ensures.value ∙ same) ∙
    ap (rows_changed c.args.net.now c.args.t c.args.cells.now c.args.self.now.rows) changes ∙
    rows_changed-is c.args.net.now c.args.t c.args.cells.now c.args.self.now.rows c.carry_all.new.changes (known c.args.cells.now halo c.args.self.now.rows c.args.put.now)
    (λ p within.
    subst (λ rows. IsChangeOf c.args.net.now c.args.t (known c.args.cells.now halo rows c.args.put.now) (slice_index c.args.cells.now p) (change_at c.carry_all.new.changes p))
    (c.deref.ensures.value ∙ same) (c.carry_all.ensures.changes p within)) in
    let long : length c.change_rows.new.next ≡ c.self.inside.last.len =
    omega (arith, ap length after, length-rows_after c.args.net.now c.args.t (known c.args.cells.now halo c.args.self.now.rows c.args.put.now) c.args.cells.now c.args.self.now.rows, each, c.self.inside.last.ok.0, c.self.invariant.0) in
    ap (λ vec. vec.items) c.swap.ensures.x_after ∙ with_items_is c.self.inside.last c.change_rows.new.next long ∙ after
