use Rattle.std.specs.Prelude.{All}
use Rattle.std.specs.Vec.Iter.{into_iter_items, into_iter_len}
use Rattle.std.proofs.Common.{◌≡◌, ℕ, ◌+◌, length}
use Rattle.region_cut.specs.Chart.{list_at}
use Rattle.snapshot.specs.Shots.{goal_of}
use Rattle.saved_modes.specs.Recutting.{IsLastPart, step_of}
use Rattle.saved_modes.proofs.RecutParts.{HasToldFirst}
use Rattle.saved_modes.proofs.recutting.recut_report.Given as goal

-- so many parts were run or passed over, the last of their goals was reached, and what was told of them
abbrev pub invariant-loop-cut : goal.invariant-loop-cut
invariant-loop-cut g l =
    (l.i + into_iter_len l.cut-iterator ≡ l.parts) × All (λ cut. length cut ≡ length l.net.cells) (into_iter_items l.cut-iterator) × IsLastPart l.net l.last ×
    (step_of l.last ≡ goal_of l.net.steps l.parts l.i) × ((j : ℕ) → list_at (into_iter_items l.cut-iterator) j ≡ list_at l.fn.cuts.items (l.i + j)) ×
    HasToldFirst (g.W.Observer.told_held l.observer) (g.W.Observer.told_freed l.observer) l.net l.parts l.fn.cuts.items l.i
