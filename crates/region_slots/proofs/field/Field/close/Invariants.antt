use Rattle.std.specs.Prelude.{slice_index_or, vec_capacity}
use Rattle.std.specs.List.{range_with_len}
use Rattle.std.specs.Mem.Slots.{slots_filled, slots_items, slots_len}
use Rattle.std.specs.Mem.Slots.Ownership.{Filled}
use Rattle.std.proofs.Common.{◌≡◌, ◌<◌, ◌≤◌, ℕ, false, map, ◌-◌, take}
use Rattle.region_cut.specs.Cuttings.{region_count}
use Rattle.border_rows.specs.Words.{step_of}
use Rattle.region_slots.proofs.field.Field.close.Given as goal

abbrev pub invariant-loop-r : goal.invariant-loop-r
invariant-loop-r l =
    (l.r ≤ region_count l.layout.chart.cut) × (l.steps.items ≡ map (step_of l.layout.chart (slots_items l.initial.closed.words)) (range_with_len 0 l.r)) ×
    (l.regions.items ≡ take l.r (slots_items l.initial.closed.slots)) × (region_count l.layout.chart.cut ≤ vec_capacity l.steps) × (region_count l.layout.chart.cut ≤ vec_capacity l.regions) ×
    (l.closed.words ≡ l.initial.closed.words) × (slots_items l.closed.slots ≡ slots_items l.initial.closed.slots) × (slots_len l.closed.slots ≡ slots_len l.initial.closed.slots) ×
    Filled (slots_filled l.closed.slots) l.r (slots_len l.closed.slots) × ((k : ℕ) → k < l.r → slice_index_or (slots_filled l.closed.slots) k false ≡ false)

abbrev pub decreases-loop-r : goal.decreases-loop-r
decreases-loop-r l = region_count l.layout.chart.cut - l.r
