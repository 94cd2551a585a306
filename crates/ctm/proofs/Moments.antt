-- A moment of a run from step 0.
use Rattle.std.proofs.Common.{◌≡◌, List, Ok, ℕ, length}
use Rattle.network_file.specs.Cutting.{IsCutting}
use Rattle.network_file.specs.Network.{Network}
use Rattle.network_file.specs.Sound.{IsNetwork}
use Rattle.network_file.specs.Reading.{network_of}
use Rattle.region_step.specs.Start.{zero_start}
use Rattle.region_step.proofs.StartLaws.{zero_start-fits, zero_start-lawful, zero_start-true}
use Rattle.snapshot.specs.Snapshots.{IsSnapshot}
use Rattle.saved_run.specs.Laws.{HasTrueStart, IsTrueShot}
use Rattle.saved_run.specs.Shown.{content_shown}
use Rattle.saved_run.proofs.Futures.{edited-has_true_start, shown-moment}
use Rattle.saved_run.proofs.Starts.{shot-has_true_start}
use Rattle.ctm.specs.Moment.{IsFutureOf, MomentValue}

-- what always holds of one
pub record IsMomentOf (moment : MomentValue) : Type 0 where
  pub sound : IsNetwork moment.net
  pub cutting : IsCutting (length moment.net.cells) moment.chart.cut
  pub snapshot : IsSnapshot moment.net moment.chart.cut (zero_start moment.net moment.chart.cut) moment.room

-- it is a snapshot of the run of its file
pub moment-shot : (moment : MomentValue) (own : List ℕ) → IsMomentOf moment → network_of own ≡ Ok moment.net →
    IsTrueShot own moment.net moment.chart.cut (zero_start moment.net moment.chart.cut) moment.room
moment-shot moment own is reads = record {
  network = reads;
  sound = is.sound;
  cutting = is.cutting;
  fits = zero_start-fits moment.net moment.chart.cut is.sound;
  from = zero_start-lawful moment.net moment.chart.cut;
  true_start = zero_start-true moment.net moment.chart.cut;
  snapshot = is.snapshot;
}

-- so another network goes on from it
pub future-true : (moment : MomentValue) (own file : List ℕ) (other : Network) (u : ℕ) → IsMomentOf moment → network_of file ≡ Ok other → IsFutureOf moment own other u →
    HasTrueStart (content_shown moment.chart.cut moment.room file) other moment.chart.cut
future-true moment own file other u is reads future =
    let shot = moment-shot moment own is future.reads in
    edited-has_true_start (content_shown moment.chart.cut moment.room own) moment.net other u moment.chart.cut file (record {
      cutting = (shot-has_true_start own moment.net moment.chart.cut (zero_start moment.net moment.chart.cut) moment.room shot).cut_so.cutting;
      moment = shown-moment own moment.net moment.chart.cut moment.room shot;
      by_then = future.by_then;
      agree = future.agree;
      sound = future.sound;
      reads = reads;
      in_time = future.in_time;
    })
