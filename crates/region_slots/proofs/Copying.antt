-- The regions that a seat holds are copied to a room, the last one first, while those that are copied go behind the others.
use Rattle.std.specs.Prelude.{slice_index}
use Rattle.std.proofs.Common.{◌≡◌, ℕ, suc, ◌+◌, ◌<◌, ◌≤◌, inl, inr, List, [], ◌∷◌, ◌++◌, append-nil, refl, sym, ap, subst, ◌∙◌, arith}
use Rattle.std.proofs.lemmas.Bool.{cases_eq}
use Rattle.std.proofs.lemmas.List.{append_assoc}
use Rattle.region_cut.specs.Chart.{IsChart}
use Rattle.region_cut.specs.Cuttings.{region_count}
use Rattle.region_step.specs.Region.{RegionValue}
use Rattle.region_step.specs.Standing.{Stands}
use Rattle.snapshot.specs.Rooms.{RoomValue, ShowsRegion, StaysBeside}
use Rattle.snapshot.proofs.Showing.{shows-stays}
use Rattle.border_rows.specs.declared.view.Terms.{Terms}
use Rattle.region_slots.specs.Gathering.{AreCarried}

-- those before `left` stand in front, and those that are copied behind them
pub record IsTurning (terms : Terms) (seen : List ℕ) (left : ℕ) (old carried : List (ℕ × RegionValue)) : Type 0 where
  pub front : List (ℕ × RegionValue)
  pub back : List (ℕ × RegionValue)
  pub now : carried ≡ front ++ back
  pub was : old ≡ back ++ front
  pub are : AreCarried terms seen left front

pub turning-first : (terms : Terms) (seen : List ℕ) (count : ℕ) (carried : List (ℕ × RegionValue)) → AreCarried terms seen count carried → IsTurning terms seen count carried carried
turning-first terms seen count carried are = record { front = carried; back = []; now = sym (append-nil carried); was = refl; are = are }

-- once all are copied they stand as they stood
pub turning-last : (terms : Terms) (seen : List ℕ) (old carried : List (ℕ × RegionValue)) → IsTurning terms seen 0 old carried → carried ≡ old
turning-last terms seen old carried is =
    is.now ∙ ap (λ front. front ++ is.back) is.are ∙ sym (append-nil is.back) ∙ ap (λ front. is.back ++ front) (sym is.are) ∙ sym is.was

-- the last of those in front
pub record IsOnTop (terms : Terms) (seen : List ℕ) (r : ℕ) (old carried : List (ℕ × RegionValue)) : Type 0 where
  pub state : RegionValue
  pub others : List (ℕ × RegionValue)
  pub top : carried ≡ (r, state) ∷ others
  pub stands : Stands terms.setup.now r (slice_index seen r) state
  pub turned : IsTurning terms seen r old (others ++ (r, state) ∷ [])

pub turning-top : (terms : Terms) (seen : List ℕ) (r : ℕ) (old carried : List (ℕ × RegionValue)) → IsTurning terms seen (suc r) old carried → IsOnTop terms seen r old carried
turning-top terms seen r old carried is =
    let (state, others, front, stands, are) = is.are in
    let one : ℕ × RegionValue = (r, state) in
    record {
      state = state;
      others = others ++ is.back;
      top = is.now ∙ ap (λ l. l ++ is.back) front;
      stands = stands;
      turned = record {
        front = others;
        back = is.back ++ one ∷ [];
        now = append_assoc others is.back (one ∷ []);
        was = is.was ∙ ap (λ l. is.back ++ l) front ∙ sym (append_assoc is.back (one ∷ []) others);
        are = are;
      };
    }

-- region r is shown at the step that was seen of it
abbrev pub IsShown : Terms → (seen : List ℕ) → RoomValue → (r : ℕ) → Type 0
IsShown terms seen room r =
    (state : RegionValue) × Stands terms.setup.now r (slice_index seen r) state × ShowsRegion terms.setup.now.chart room state

-- and so is each region from `left` on
abbrev pub AreShown : Terms → (seen : List ℕ) → (left : ℕ) → RoomValue → Type 0
AreShown terms seen left room = (r : ℕ) → left ≤ r → r < region_count terms.setup.now.chart.cut → IsShown terms seen room r

pub shown-more : (terms : Terms) (seen : List ℕ) (left : ℕ) (old new : RoomValue) (state : RegionValue) → IsChart terms.setup.now.chart → AreShown terms seen (left + 1) old →
    Stands terms.setup.now left (slice_index seen left) state → ShowsRegion terms.setup.now.chart new state → StaysBeside terms.setup.now.chart old new left →
    AreShown terms seen left new
shown-more terms seen left old new state chart shown stands shows stays = λ r low there. elim (cases_eq r left) [
  | inl own ↦ (state, subst (λ q. Stands terms.setup.now q (slice_index seen q) state) (sym own) stands, shows)
  | inr other ↦ let (was, stood, showed) = shown r (omega (arith, low, other)) there in
      (was, stood, shows-stays terms.setup.now r (slice_index seen r) left was old new chart there other stood showed stays)
]
