-- The rounds of a crew: how many there may be, and how often its members try regions in them.
use Rattle.std.specs.Prelude.{◌≡◌, ℕ, ◌+◌, ◌*◌, ◌<◌, ◌≤◌, false, List, length, slice_index_or, sum_by}
use Rattle.region_cut.specs.Cuttings.{region_count}
use Rattle.region_slots.specs.FieldView.{FieldValue}
use Rattle.worker_claim.specs.Driving.{tries_of}
use Rattle.worker_claim.specs.declared.member.Member.{Member}
use Rattle.network_run.specs.Enlisted.{is_some_done}

-- a member makes as many turns in a round as so many sweeps have, at most
abbrev pub round_sweeps : ℕ
round_sweeps = 4096

-- the watcher has so many tries at each region beside the crew
abbrev pub watcher_tries : ℕ
watcher_tries = 64

-- how many steps were published through these members
abbrev pub moves_of : List Member → ℕ
moves_of members = sum_by (λ member. length member.pass.knows.log) members

-- and how many of them in their last round
abbrev pub last_moves : List Member → ℕ
last_moves members = sum_by (λ member. member.driven.moved) members

-- none has found all regions at the goal, and one has moved a region: there is another round
pub record AreGoing (members : List Member) : Type 0 where
  pub none_done : is_some_done members ≡ false
  pub moved : 1 ≤ last_moves members

-- so many rounds, each of which has moved a region but for so many in vain. No member has tried regions more often than
-- fits into them.
pub record AreRounds (field : FieldValue) (rounds vain : ℕ) (old new : List Member) : Type 0 where
  pub moved : rounds + moves_of old ≤ moves_of new + vain
  pub tried : (k : ℕ) (d : Member) → k < length old →
      tries_of (slice_index_or new k d).pass.knows ≤ tries_of (slice_index_or old k d).pass.knows + rounds * (round_sweeps * region_count field.terms.setup.now.chart.cut)
