use Rattle.std.specs.Prelude.{slice_set}
use Rattle.std.proofs.Common.{◌≡◌, refl}
use Rattle.step_plan.specs.Adding.{with_own, with_record}
use Rattle.step_plan.proofs.Planned.{with_records-read}
use Rattle.step_plan.proofs.Sound.{IsCounted-with_record}
use Rattle.step_plan.proofs.network_plan.Plan.put.Goals as goal

-- the cells with that one changed
cells_are : (c : goal.After-counts-2-1) →
    slice_set c.self.inside.cells.items c.args.cell c.put.new.self ≡ (with_record (record { cells = c.self.inside.cells.items }) c.args.cell c.args.one).cells
cells_are c =
    let has = rw (← c.self.view_is) at c.requires.has_cell in
    with_records-read (record { cells = c.self.inside.cells.items }) c.args.cell (λ own. with_own own c.args.one) _ c.put.new.self has
    c.index_mut-own.ensures.value c.in_ok-put.ensures.added

pub invariant_of-self-2 : goal.invariant_of-self-2
invariant_of-self-2 c =
    let has = rw (← c.self.view_is) at c.requires.has_cell in
    let room = rw (← c.self.view_is) at c.requires.room in
    rw (cells_are c) (
    IsCounted-with_record _ c.args.cell c.args.one _ _ has c.requires.sound room c.in_ok-counts.ensures c.self.invariant
    )

pub returns-clause-added : goal.returns-clause-added
returns-clause-added c = rw (cells_are c, ← c.self.view_is) refl
