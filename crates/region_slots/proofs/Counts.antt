-- What a view has seen and found is kept of each region.
use Rattle.std.specs.Prelude.{max, slice_index, slice_set}
use Rattle.std.specs.List.{range_with_len}
use Rattle.std.proofs.Common.{◌≡◌, ℕ, ◌+◌, ◌≤◌, inl, inr, List, length, refl, sym, ap, subst, ◌∙◌, arith}
use Rattle.std.proofs.lemmas.Bool.{cases_eq, cases_lt}
use Rattle.std.proofs.lemmas.List.{get_or-set_other, get_or-set_same, get_or_past, length-map, length-set}
use Rattle.std.proofs.lemmas.List.FromFn.{get_or-map-range_with_len, length-range_with_len}
use Rattle.region_cut.specs.Cuttings.{region_count}
use Rattle.border_rows.specs.Kinds.{found_taken, kept, looked, shared_off, together, united}
use Rattle.border_rows.specs.declared.view.Terms.{Terms}
use Rattle.border_rows.specs.declared.view.View.{View}
use Rattle.region_slots.specs.FieldView.{HasCounts, HasSeenInTime}
use Rattle.region_slots.specs.Opening.{first_view}
use Rattle.region_slots.specs.Turning.{IsBehind, IsMoved, took_at}
use Rattle.region_slots.specs.declared.turn.Turn.{Turn}
use Rattle.region_slots.specs.declared.turn.Turn.TheVariants.{Behind, Ended, Held, Moved}

pub counts-first : (terms : Terms) (count : ℕ) → length terms.setup.now.start.steps ≡ count → HasCounts count (first_view terms)
counts-first terms count each = record {
  seen = each;
  held_found = length-map terms.setup.now.start.steps (λ s. 0) ∙ each;
  looks = length-map terms.setup.now.start.steps (λ s. 0) ∙ each;
  takes = length-map terms.setup.now.start.steps (λ s. 0) ∙ each;
}

pub counts-kept : (count : ℕ) (view : View) → HasCounts count view → HasCounts count (kept view)
counts-kept count view has = assumption

pub counts-shared_off : (count : ℕ) (view : View) → HasCounts count view → HasCounts count (shared_off view)
counts-shared_off count view has = record {
  seen = has.seen;
  held_found = length-map view.held_found (λ n. 0) ∙ has.held_found;
  looks = length-map view.looks (λ n. 0) ∙ has.looks;
  takes = length-map view.takes (λ n. 0) ∙ has.takes;
}

length-together : (f : ℕ → ℕ → ℕ) (xs ys : List ℕ) → length (together f xs ys) ≡ length xs
length-together f xs ys = length-map (range_with_len 0 (length xs)) (λ r. f (slice_index xs r) (slice_index ys r)) ∙ length-range_with_len 0 (length xs)

pub counts-united : (count : ℕ) (view other : View) → HasCounts count view → HasCounts count (united view other)
counts-united count view other has = record {
  seen = length-together max view.seen other.seen ∙ has.seen;
  held_found = length-together (λ a b. a + b) view.held_found other.held_found ∙ has.held_found;
  looks = length-together (λ a b. a + b) view.looks other.looks ∙ has.looks;
  takes = length-together (λ a b. a + b) view.takes other.takes ∙ has.takes;
}

-- what two views have seen lies within the field's steps, and so does the greater of both
pub united-in-time : (terms : Terms) (view other : View) → HasCounts (region_count terms.setup.now.chart.cut) view → HasSeenInTime terms view → HasSeenInTime terms other → HasSeenInTime terms (united view other)
united-in-time terms view other has seen also = λ r there.
    let is : slice_index (united view other).seen r ≡ max (slice_index view.seen r) (slice_index other.seen r) =
    get_or-map-range_with_len (λ q. max (slice_index view.seen q) (slice_index other.seen q)) 0 (length view.seen) r r 0 (omega (arith, there, has.seen)) (omega arith) in
    omega (arith, is, seen r there, also r there)

-- what was looked at does too
pub looked-in-time : (terms : Terms) (view : View) (r s : ℕ) → HasSeenInTime terms view → s ≤ terms.setup.now.net.steps → HasSeenInTime terms (looked view r s)
looked-in-time terms view r s seen now = λ q there. elim (cases_eq q r) [
  | inl same ↦ elim (cases_lt r (length view.seen)) [
    | inl within ↦ omega (arith, ap (slice_index (looked view r s).seen) same, get_or-set_same view.seen r s 0 within, now)
    | inr past ↦ omega (arith, ap (slice_index (looked view r s).seen) same, get_or_past (slice_set view.seen r s) r 0 (omega (arith, past, length-set view.seen r s)))
  ]
  | inr other ↦ omega (arith, get_or-set_other view.seen r q s 0 other, seen q there)
]

pub counts-looked : (count r s : ℕ) (view : View) → HasCounts count view → HasCounts count (looked view r s)
counts-looked count r s view has = record {
  seen = length-set view.seen r s ∙ has.seen;
  held_found = has.held_found;
  looks = length-set view.looks r (slice_index view.looks r + 1) ∙ has.looks;
  takes = has.takes;
}

counts-took : (count r s : ℕ) (view : View) → HasCounts count view → HasCounts count (took_at view r s)
counts-took count r s view has = record {
  seen = length-set view.seen r s ∙ has.seen;
  held_found = has.held_found;
  looks = length-set view.looks r (slice_index view.looks r + 1) ∙ has.looks;
  takes = length-set view.takes r (slice_index view.takes r + 1) ∙ has.takes;
}

counts-found_taken : (count r : ℕ) (view : View) → HasCounts count view → HasCounts count (found_taken view r)
counts-found_taken count r view has = record {
  seen = has.seen;
  held_found = length-set view.held_found r (slice_index view.held_found r + 1) ∙ has.held_found;
  looks = has.looks;
  takes = has.takes;
}

-- whatever came of a turn
pub turned-counts : (terms : Terms) (count : ℕ) (old new : View) (goal r : ℕ) (answer : Turn) → (answer ≡ Held → new ≡ found_taken old r) →
    ((s : ℕ) → answer ≡ Ended s → (goal ≤ s) × (new ≡ took_at old r s) × (slice_index new.seen r ≡ s) × (slice_index old.seen r ≤ s)) →
    ((q s : ℕ) → answer ≡ Behind q s → IsBehind terms old new goal r q s) → ((s : ℕ) → answer ≡ Moved s → IsMoved terms old new goal r s) → HasCounts count old → HasCounts count new
turned-counts terms count old new goal r Held held ended behind moved has = subst (HasCounts count) (sym (held refl)) (counts-found_taken count r old has)
turned-counts terms count old new goal r (Ended s) held ended behind moved has = subst (HasCounts count) (sym (ended s refl).1) (counts-took count r s old has)
turned-counts terms count old new goal r (Behind q s) held ended behind moved has =
    let is = behind q s refl in record {
      seen = is.still.alike.seen.long ∙ has.seen;
      held_found = ap length is.still.alike.held_found ∙ has.held_found;
      looks = ap length is.looks ∙ length-set old.looks r (slice_index old.looks r + 1) ∙ has.looks;
      takes = ap length is.takes ∙ length-set old.takes r (slice_index old.takes r + 1) ∙ has.takes;
    }
turned-counts terms count old new goal r (Moved s) held ended behind moved has =
    let is = moved s refl in record {
      seen = is.alike.seen.long ∙ has.seen;
      held_found = ap length is.alike.held_found ∙ has.held_found;
      looks = ap length is.looks ∙ length-set old.looks r (slice_index old.looks r + 1) ∙ has.looks;
      takes = ap length is.takes ∙ length-set old.takes r (slice_index old.takes r + 1) ∙ has.takes;
    }
