use Rattle.std.specs.Prelude.{All, true}
use Rattle.std.proofs.Common.{◌≡◌, ◌<◌, ℕ}
use Rattle.cell_sweep.specs.Speeds.{is_slow}
use Rattle.region_body.specs.FollowedSpeeds.{IsSpeedOpened, is_listed}
use Rattle.region_body.proofs.speeds.timelines_of.Given as goal

abbrev pub invariant-loop-p : goal.invariant-loop-p
invariant-loop-p l = record {
  opened : All (IsSpeedOpened l.net l.cells) l.timelines.items;
  whole : (q : ℕ) → q < l.p → is_slow l.net l.cells q ≡ true → is_listed l.timelines.items q ≡ true;
}
