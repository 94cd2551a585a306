use Rattle.std.proofs.Common.{◌≡◌}
use Rattle.snapshot.proofs.Filling.{Fills}
use Rattle.snapshot.proofs.room.ShotRoom.fill.Given as goal

-- so many cells are shown
abbrev pub invariant-loop-p : goal.invariant-loop-p
invariant-loop-p l = (l.self-inside.steps ≡ l.initial.self-inside.steps) × Fills l.layout.chart l.region l.fn.self l.self-inside.rows.items l.self-inside.earlier.items l.p
