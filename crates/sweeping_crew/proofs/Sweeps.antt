-- Sweeps, one after the other.
use Rattle.std.proofs.Common.{◌≡◌, ℕ, ◌+◌, inl, inr, false, refl, sym, ◌∙◌, arith}
use Rattle.std.proofs.lemmas.Bool.{cases_eq}
use Rattle.border_rows.specs.declared.view.View.{View}
use Rattle.worker_claim.specs.Driving.{HasSwept}
use Rattle.worker_claim.specs.Turns.{none}
use Rattle.worker_claim.specs.declared.driven.Driven.{Driven}
use Rattle.region_slots.proofs.Tries.{within-more, within-none}
use Rattle.worker_claim.proofs.Turning.{AreAdded}

-- no sweep yet
pub swept-none : (view : View) (count goal : ℕ) → HasSwept count goal 0 view view none
swept-none view count goal = record {
  keeps = within-none view goal;
  tried = λ r within. omega arith;
  turns = omega arith;
  moved = omega arith;
  held = omega arith;
  behind = omega arith;
  ended = λ some. absurd (some refl);
  all = λ is. absurd cc;
  not_all = λ is nothing. refl;
}

-- one sweep more
pub swept-more : (old view new : View) (count goal made : ℕ) (one other both : Driven) → AreAdded one other both → one.all ≡ false → both.all ≡ other.all →
    HasSwept count goal made old view one → HasSwept count goal 1 view new other → HasSwept count goal (made + 1) old new both
swept-more old view new count goal made one other both added going last before after = record {
  keeps = within-more old view new goal before.keeps after.keeps;
  tried = λ r within. omega (arith, before.tried r within, after.tried r within);
  turns = omega (arith, before.turns, after.turns, added.moved, added.held, added.behind, added.ended);
  moved = omega (arith, before.moved, after.moved, added.moved);
  held = omega (arith, before.held, after.held, added.held);
  behind = omega (arith, before.behind, after.behind, added.behind);
  ended = λ some. elim (cases_eq one.ended 0) [
    | inl none ↦ after.ended (λ also. some (omega (arith, none, also, added.ended)))
    | inr first ↦ let is = before.ended first in (is.0, is.1, omega (arith, is.2, after.keeps.seen.later is.0))
  ];
  all = λ is. let whole = after.all (rw last at is) in (omega (arith, whole.0, added.ended), whole.1);
  not_all = λ is nothing.
      let first : one.ended ≡ 0 = before.not_all going (omega (arith, nothing, added.moved, added.held, added.behind)) in
      let then : other.ended ≡ 0 = after.not_all (sym last ∙ is) (omega (arith, nothing, added.moved, added.held, added.behind)) in
      omega (arith, first, then, added.ended);
}
