-- Rounds one after the other, and what a round leaves of the members of helpers.
use Rattle.std.specs.Prelude.{All}
use Rattle.std.proofs.Common.{◌≡◌, ℕ, ◌+◌, ◌<◌, ◌≤◌, suc, inl, inr, List, [], ◌∷◌, length, get_or, refl, arith}
use Rattle.std.proofs.lemmas.Bool.{cases_lt}
use Rattle.std.proofs.lemmas.List.{get_or-map, length-map}
use Rattle.std.proofs.lemmas.List.Sums.{get_or-le-sum_by, sum_by-cons}
use Rattle.region_slots.specs.FieldView.{FieldValue}
use Rattle.worker_claim.specs.Helping.{AreHelped}
use Rattle.worker_claim.specs.declared.helper.Helper.{Helper}
use Rattle.worker_claim.specs.declared.member.Member.{Member}
use Rattle.network_run.proofs.Crewing.{members_of}
use Rattle.network_run.specs.Rounds.{AreRounds, last_moves, moves_of, round_sweeps, watcher_tries}
use Rattle.network_run.specs.declared.rounds.TheConstants.{SWEEPS, TRIES}

-- none yet
pub no-rounds : (field : FieldValue) (members : List Member) → AreRounds field 0 0 members members
no-rounds field members = record { moved = omega arith; tried = λ k d within. omega arith }

-- some rounds, and then others
pub rounds-then : (field : FieldValue) (n v m w : ℕ) (old between new : List Member) → length between ≡ length old →
    AreRounds field n v old between → AreRounds field m w between new → AreRounds field (n + m) (v + w) old new
rounds-then field n v m w old between new long first later = record {
  moved = omega (arith, first.moved, later.moved);
  tried = λ k d within. omega (arith, first.tried k d within, later.tried k d (omega (arith, within, long)));
}

-- rounds that have moved a region more than is told
pub rounds-moved : (field : FieldValue) (n v w : ℕ) (old new : List Member) → n + moves_of old ≤ moves_of new + w → AreRounds field n v old new → AreRounds field n w old new
rounds-moved field n v w old new moved rounds = record { moved = moved; tried = rounds.tried }

-- members of whom one has moved a region have moved one together
pub some-moved : (members : List Member) → (All (λ (member : Member). member.driven.moved ≡ 0) members → ⊥) → 1 ≤ last_moves members
some-moved members not_none = elim (cases_lt 0 (last_moves members)) [
  | inl some ↦ some
  | inr none ↦ absurd (not_none (λ k d within. omega (arith, none, get_or-le-sum_by (λ (member : Member). member.driven.moved) members k d within)))
]

-- what helpers have published in their turns adds up
moves-added : (old new : List Helper) → length new ≡ length old →
    ((k : ℕ) (d : Helper) → k < length old → length (get_or new k d).member.pass.knows.log ≡ length (get_or old k d).member.pass.knows.log + (get_or new k d).member.driven.moved) →
    moves_of (members_of new) ≡ moves_of (members_of old) + last_moves (members_of new)
moves-added [] [] long each = refl
moves-added [] (y ∷ ys) long each = absurd (omega (arith, long))
moves-added (x ∷ xs) [] long each = absurd (omega (arith, long))
moves-added (x ∷ xs) (y ∷ ys) long each =
    let moves : Member → ℕ = λ member. length member.pass.knows.log in
    let moved : Member → ℕ = λ member. member.driven.moved in
    omega (
      arith,
      sum_by-cons moves x.member (members_of xs),
      sum_by-cons moves y.member (members_of ys),
      sum_by-cons moved y.member (members_of ys),
      each 0 x (omega arith),
      moves-added xs ys (omega (arith, long)) (λ k d within. each (suc k) d (omega (arith, within))),
    )

pub moves-helped : (field : FieldValue) (goal sweeps : ℕ) (old new : List Helper) → AreHelped field goal sweeps old new →
    moves_of (members_of new) ≡ moves_of (members_of old) + last_moves (members_of new)
moves-helped field goal sweeps old new helped = moves-added old new helped.one_each (λ k d within. (helped.each k d within).helped.moved)

-- a round of helpers
pub round-helped : (field : FieldValue) (goal : ℕ) (old new : List Helper) → AreHelped field goal round_sweeps old new → AreRounds field 1 1 (members_of old) (members_of new)
round-helped field goal [] new helped = record { moved = omega (arith, moves-helped field goal round_sweeps [] new helped); tried = λ k d within. absurd (omega (arith, within)) }
round-helped field goal (x ∷ xs) new helped = record {
  moved = omega (arith, moves-helped field goal round_sweeps (x ∷ xs) new helped);
  tried = λ k d within.
      let member : Helper → Member = λ helper. helper.member in
      let inside : k < length (x ∷ xs) = omega (arith, within, length-map (x ∷ xs) member) in
      let is = (helped.each k x inside).helped in
      rw (get_or-map member new k x d (omega (arith, inside, helped.one_each)), get_or-map member (x ∷ xs) k x d inside) (omega (arith, is.tried, is.within));
}

-- the constants of the code are those of the definitions
pub sweeps-are : SWEEPS ≡ round_sweeps
sweeps-are = refl

pub tries-are : TRIES ≡ watcher_tries
tries-are = refl
