-- The most that a link carries, by what it is made of.
use Rattle.std.specs.Prelude.{true, false, min}
use Rattle.std.proofs.Common.{◌≡◌, ℕ, refl}
use Rattle.step_plan.specs.Records.{PlanRecords}
use Rattle.timelines.specs.Cells.{CellValues, cell_most, most_by}
use Rattle.timelines.specs.Links.{LinkValues, most_at, most_between}

pub most-same : (link : LinkValues) (s t : ℕ) → cell_most link.up s ≡ cell_most link.up t → cell_most link.down s ≡ cell_most link.down t →
    most_at link s ≡ most_at link t
unfolding most_at
most-same link s t up down = rw (up, down) refl

pub most-is : (link : LinkValues) (t up down : ℕ) → up ≡ cell_most link.up t → down ≡ cell_most link.down t → min up down ≡ most_at link t
unfolding most_at
most-is link t up down of_up of_down = rw (of_up, of_down) refl

pub most-planned : (link : LinkValues) (plan : PlanRecords) (up down t : ℕ) → cell_most link.up t ≡ most_by plan up true t →
    cell_most link.down t ≡ most_by plan down false t → most_at link t ≡ most_between plan up down t
unfolding most_at most_between
most-planned link plan up down t of_up of_down = rw (of_up, of_down) refl

-- it does not depend on the step to which its cells were followed
pub same-moved : (link : LinkValues) (up down : CellValues) (step s : ℕ) → cell_most up s ≡ cell_most link.up s → cell_most down s ≡ cell_most link.down s →
    most_at (record { up = up; down = down; step = step }) s ≡ most_at link s
unfolding most_at
same-moved link up down step s of_up of_down = rw (of_up, of_down) refl
