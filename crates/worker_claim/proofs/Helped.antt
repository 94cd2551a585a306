-- The turns of a helper, one part after the other.
use Rattle.std.proofs.Common.{◌≡◌, ℕ, ◌+◌, ◌≤◌, false, true≢false, refl, sym, ◌∙◌, arith}
use Rattle.border_rows.specs.declared.view.Terms.{Terms}
use Rattle.border_rows.specs.declared.view.View.{View}
use Rattle.worker_claim.specs.Turns.{HasWorked, IsCounted, added, turns_of}
use Rattle.worker_claim.specs.declared.driven.Driven.{Driven}
use Rattle.worker_claim.proofs.Turning.{counted-more}

-- turns of which none tells of all regions
pub worked-going : (terms : Terms) (old new : View) (goal most : ℕ) (driven : Driven) → IsCounted terms old new goal driven → turns_of driven ≤ most → driven.all ≡ false → HasWorked terms old new goal most driven
worked-going terms old new goal most driven counted within going = record { counted = counted; within = within; all = λ is. absurd (true≢false (sym is ∙ going)) }

-- the turns of one, and then those of another
pub counted-then : (terms : Terms) (old view new : View) (goal : ℕ) (one later : Driven) → IsCounted terms old view goal one → IsCounted terms view new goal later → IsCounted terms old new goal (added one later)
counted-then terms old view new goal one later before after = counted-more terms old view new goal one later (added one later) record { moved = refl; held = refl; behind = refl; ended = refl } before after

-- and as long as a budget allows both
pub worked-more : (terms : Terms) (old view new : View) (goal budget left : ℕ) (one later : Driven) → HasWorked terms old view goal budget one → HasWorked terms view new goal left later →
    turns_of one + left ≤ budget → HasWorked terms old new goal budget (added one later)
worked-more terms old view new goal budget left one later before after fits = record {
  counted = counted-then terms old view new goal one later before.counted after.counted;
  within = omega (arith, fits, after.within);
  all = λ is. let whole = after.all is in (omega (arith, whole.0), whole.1);
}
