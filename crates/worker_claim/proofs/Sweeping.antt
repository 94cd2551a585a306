-- Sweeps, one after the other.
use Rattle.std.specs.Prelude.{IsTrue}
use Rattle.std.proofs.Common.{◌≡◌, ◌≢◌, ℕ, ◌+◌, ◌<◌, ◌≤◌, inl, inr, false, nat_eq, refl, sym, ◌∙◌, arith}
use Rattle.std.proofs.lemmas.Bool.{cases_lt, eqb-false, eqb-true}
use Rattle.region_cut.specs.Cuttings.{region_count}
use Rattle.border_rows.specs.declared.view.Terms.{Terms}
use Rattle.border_rows.specs.declared.view.View.{View}
use Rattle.worker_claim.specs.Driving.{HasSwept}
use Rattle.worker_claim.specs.Turns.{HasTurned, IsCounted, turns_of}
use Rattle.worker_claim.specs.declared.driven.Driven.{Driven}
use Rattle.worker_claim.proofs.Turning.{AreAdded, Came, came-later, came-more, counted-more}

-- turns on the regions from one on, and then on those before it
pub record IsSweep (terms : Terms) (old new : View) (goal : ℕ) (driven : Driven) : Type 0 where
  pub counted : IsCounted terms old new goal driven
  pub turns : turns_of driven ≡ region_count terms.setup.now.chart.cut
  pub each : (r : ℕ) → r < region_count terms.setup.now.chart.cut → Came terms old new goal r driven
  pub all : IsTrue driven.all → driven.ended ≡ region_count terms.setup.now.chart.cut
  pub not_all : driven.all ≡ false → driven.ended ≢ region_count terms.setup.now.chart.cut

pub round-sweep : (terms : Terms) (old view new : View) (first goal : ℕ) (one other both : Driven) → first ≤ region_count terms.setup.now.chart.cut → AreAdded one other both →
    HasTurned terms old view first (region_count terms.setup.now.chart.cut) goal one → HasTurned terms view new 0 first goal other →
    (IsTrue both.all → both.ended ≡ region_count terms.setup.now.chart.cut) → (both.all ≡ false → both.ended ≢ region_count terms.setup.now.chart.cut) → IsSweep terms old new goal both
round-sweep terms old view new first goal one other both there added before after all not_all = record {
  counted = counted-more terms old view new goal one other both added before.counted after.counted;
  turns = omega (arith, before.turns, after.turns, added.moved, added.held, added.behind, added.ended);
  each = λ r within. elim (cases_lt r first) [
    | inl early ↦ came-later terms old view new goal r one other both added before.counted.keeps (after.each r (omega arith) early)
    | inr late ↦ came-more terms old view new goal r one other both added after.counted.keeps (before.each r (omega (arith, late)) within)
  ];
  all = all;
  not_all = not_all;
}

-- and both counts added up
abbrev pub both : (regions : ℕ) (one other : Driven) → Driven
both regions one other = record {
  moved = one.moved + other.moved;
  held = one.held + other.held;
  behind = one.behind + other.behind;
  ended = one.ended + other.ended;
  all = nat_eq (one.ended + other.ended) regions;
}

pub added-up : (terms : Terms) (old view new : View) (first goal regions : ℕ) (one other : Driven) → first ≤ region_count terms.setup.now.chart.cut → regions ≡ region_count terms.setup.now.chart.cut →
    HasTurned terms old view first (region_count terms.setup.now.chart.cut) goal one → HasTurned terms view new 0 first goal other → IsSweep terms old new goal (both regions one other)
added-up terms old view new first goal regions one other there is before after =
    round-sweep terms old view new first goal one other (both regions one other) there record { moved = refl; held = refl; behind = refl; ended = refl } before after
    (λ all. eqb-true (one.ended + other.ended) regions all ∙ is) (λ not_all same. eqb-false (one.ended + other.ended) regions not_all (same ∙ sym is))

pub round-swept : (terms : Terms) (old view new : View) (first goal : ℕ) (one other both : Driven) → HasTurned terms old view first (region_count terms.setup.now.chart.cut) goal one → HasTurned terms view new 0 first goal other →
    IsSweep terms old new goal both → HasSwept (region_count terms.setup.now.chart.cut) goal 1 old new both
round-swept terms old view new first goal one other both before after sweep = record {
  keeps = sweep.counted.keeps;
  tried = λ r within. elim (cases_lt r first) [
    | inl early ↦ omega (arith, before.others r (inl early), after.tried r (omega arith) early)
    | inr late ↦ omega (arith, before.tried r (omega (arith, late)) within, after.others r (inr (omega (arith, late))))
  ];
  turns = omega (arith, sweep.turns);
  moved = sweep.counted.moved;
  held = sweep.counted.held;
  behind = sweep.counted.behind;
  ended = sweep.counted.ended;
  all = λ is.
      let whole = sweep.all is in (
        omega (arith, whole),
        λ r within. elim (sweep.each r within) [
          | inl reached ↦ reached
          | inr rest ↦ elim rest [
            | inl some ↦ absurd (some (omega (arith, whole, sweep.turns)))
            | inr short ↦ absurd (short.0 (omega (arith, whole, sweep.turns)))
          ]
        ],
      );
  not_all = λ is nothing. absurd (sweep.not_all is (omega (arith, nothing, sweep.turns)));
}
