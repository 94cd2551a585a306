-- A view that has written some words of its row.
use Rattle.std.proofs.Common.{◌≡◌, ℕ, ◌+◌, List, [], ◌∷◌, refl, sym, ap, ◌∙◌}
use Rattle.border_rows.specs.Kinds.{with_first, wrote}
use Rattle.border_rows.specs.declared.view.Hold.{Hold}
use Rattle.border_rows.specs.declared.view.View.{View}
use Rattle.region_slots.specs.FieldView.{IsWorkingAt}
use Rattle.region_slots.specs.Turning.{wrote_many}

-- the hold with so many words written
abbrev pub written_to : ℕ → Hold → Hold
written_to n hold = record hold { written = n }

-- none yet
pub wrote_many-none : (view : View) (hold : Hold) → IsWorkingAt view hold → hold.written ≡ 0 → view ≡ wrote_many view 0
wrote_many-none view hold works none =
    let first : hold ∷ works.later ≡ written_to 0 hold ∷ works.later = ap (λ n. written_to n hold ∷ works.later) none in
    let same : view.holds ≡ with_first (written_to 0) view.holds = works.holds ∙ first ∙ sym (ap (with_first (written_to 0)) works.holds) in
    ap (λ holds. record view { holds = holds }) same

-- one more
pub wrote_many-more : (view : View) (n : ℕ) → wrote (wrote_many view n) ≡ wrote_many view (n + 1)
wrote_many-more view n = ap (λ holds. record view { holds = holds }) (more view.holds)
  where
    more : (all : List Hold) → with_first (λ hold. record hold { written = hold.written + 1 }) (with_first (written_to n) all) ≡ with_first (written_to (n + 1)) all
    more [] = refl
    more (hold ∷ holds) = refl

-- the view works at the same region
pub wrote_many-works : (view : View) (hold : Hold) (n : ℕ) → IsWorkingAt view hold → IsWorkingAt (wrote_many view n) (written_to n hold)
wrote_many-works view hold n works = record { later = works.later; holds = ap (with_first (written_to n)) works.holds; known = works.known; early = works.early }
