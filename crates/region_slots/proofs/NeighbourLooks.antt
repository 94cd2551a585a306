-- A view that looks at neighbours.
use Rattle.std.specs.Prelude.{Option, Some, max, slice_index, slice_set}
use Rattle.std.specs.List.{Contains}
use Rattle.std.proofs.Common.{◌≡◌, ℕ, suc, ◌+◌, ◌<◌, ◌≤◌, inl, inr, true, List, [], ◌∷◌, ◌++◌, length, refl, sym, ap, subst, ◌∙◌, arith, rules}
use Rattle.std.proofs.lemmas.Bool.{cases_eq, cases_lt}
use Rattle.std.proofs.lemmas.List.{get_or-set_other, get_or-set_same, get_or_past, length-set}
use Rattle.region_cut.specs.Cuttings.{region_count}
use Rattle.region_cut.specs.Neighbours.{are_neighbours}
use Rattle.border_rows.specs.Kinds.{cleared, found_at, found_short, found_taken, freed, later_of, published, raised, taken, with_first}
use Rattle.border_rows.specs.declared.view.Hold.{Hold}
use Rattle.border_rows.specs.declared.view.PublishedStep.{PublishedStep}
use Rattle.border_rows.specs.declared.view.Terms.{Terms}
use Rattle.border_rows.specs.declared.view.View.{View}
use Rattle.region_slots.specs.FieldView.{IsWorkingAt}
use Rattle.region_slots.specs.Turning.{HasFallenShort, HasLooked, IsAlike, IsBehind, IsLater, IsMoved, IsWithin, took_at, wrote_many}
use Rattle.region_slots.specs.declared.turn.Turn.{Turn}
use Rattle.region_slots.specs.declared.turn.Turn.TheVariants.{Behind, Ended, Held, Moved}
use Rattle.region_slots.proofs.Comparing.{same-hold}

-- what was seen last is no less than what was seen before
pub later-set : (seen : List ℕ) (q s p : ℕ) → slice_index seen q ≤ s → slice_index seen p ≤ slice_index (slice_set seen q s) p
later-set seen q s p past = elim (cases_eq p q) [
  | inl same ↦ subst (λ i. slice_index seen i ≤ slice_index (slice_set seen q s) i) (sym same) own
  | inr other ↦ omega (arith, get_or-set_other seen q p s 0 other)
]
  where
    own : slice_index seen q ≤ slice_index (slice_set seen q s) q
    own = elim (cases_lt q (length seen)) [
      | inl within ↦ omega (arith, past, get_or-set_same seen q s 0 within)
      | inr behind ↦ omega (arith, get_or_past seen q 0 behind)
    ]

pub seen-later : (seen : List ℕ) (old view : View) (q s : ℕ) → IsLater old view → view.seen ≡ seen → slice_index view.seen q ≤ s → (new : View) → new.seen ≡ slice_set view.seen q s → IsLater old new
seen-later seen old view q s was is past new saw = record {
  long = ap length saw ∙ length-set view.seen q s ∙ was.long;
  later = λ p. subst (λ l. slice_index old.seen p ≤ slice_index l p) (sym saw) (omega (arith, was.later p, later-set view.seen q s p past));
}

-- no neighbour is looked at yet
pub looked-none : (view : View) (hold : Hold) → IsWorkingAt view hold → HasLooked view view hold
looked-none view hold works = search rules

-- the hold with one more cleared
abbrev pub clear_one : ℕ → Hold → Hold
clear_one q hold = record hold { cleared = q ∷ hold.cleared }

pub cleared-works : (view : View) (hold : Hold) (q s : ℕ) → IsWorkingAt view hold → IsWorkingAt (cleared view q s) (clear_one q hold)
cleared-works view hold q s works = record { later = works.later; holds = ap (with_first (clear_one q)) works.holds; known = works.known; early = works.early }

-- one more is looked at
pub looked-more : (old view : View) (hold : Hold) (q s : ℕ) → HasLooked old view hold → slice_index view.seen q ≤ s → HasLooked old (cleared view q s) hold
looked-more old view hold q s has past =
    let seen : IsLater old (cleared view q s) = seen-later view.seen old view q s has.still.alike.seen refl past (cleared view q s) refl in
    record {
      still = assumption;
      found = assumption;
      looks = has.looks;
      takes = has.takes;
      tried = has.tried;
      later = ap (λ l. later_of (with_first (clear_one q) l)) has.works.holds ∙ sym (ap later_of has.works.holds) ∙ has.later;
      now = clear_one q has.now;
      works = cleared-works view has.now q s has.works;
      region = has.region;
      step = has.step;
      written = has.written;
    }

-- what was cleared stays so, and so is the neighbour
pub cleared-more : (view : View) (hold now : Hold) (q s p : ℕ) → IsWorkingAt view now → IsWorkingAt (cleared view q s) hold → Contains now.cleared p → Contains hold.cleared p
cleared-more view hold now q s p was works has =
    let also = cleared-works view now q s was in
    let is : hold ≡ clear_one q now = same-hold (cleared view q s).holds (clear_one q now) hold also.later works.later also.holds works.holds in
    subst (λ (h : Hold). Contains h.cleared p) (sym is) (suc has.0, omega (arith, has.1), has.2)

pub cleared-own : (view : View) (hold now : Hold) (q s : ℕ) → IsWorkingAt view now → IsWorkingAt (cleared view q s) hold → Contains hold.cleared q
cleared-own view hold now q s was works =
    let also = cleared-works view now q s was in
    let is : hold ≡ clear_one q now = same-hold (cleared view q s).holds (clear_one q now) hold also.later works.later also.holds works.holds in
    subst (λ (h : Hold). Contains h.cleared q) (sym is) (0, omega arith, refl)

-- a neighbour is found a step lower
pub falls-short : (old view : View) (hold : Hold) (r q s : ℕ) → HasLooked old view hold → slice_index view.seen q ≤ s → q < length view.seen → HasFallenShort old (found_short view r q s) r q s
falls-short old view hold r q s has past there =
    let alike = has.still.alike in
    let seen : IsLater old (found_short view r q s) = seen-later view.seen old view q s alike.seen refl past (found_short view r q s) refl in
    record {
      still = assumption;
      looks = has.looks;
      takes = has.takes;
      tried = has.tried;
      later = has.later;
      one_more = ap (λ n. n + 1) has.found.short_found;
      last = refl;
      before = omega (arith, alike.seen.later q, past);
      after = get_or-set_same view.seen q s 0 there;
      now = has.now;
      works = record { later = has.works.later; holds = has.works.holds; known = has.works.known; early = has.works.early };
    }

-- what is given says of which neighbour and step
pub pair-same : (q s p t : ℕ) → ◌≡◌ {A = Option (ℕ × ℕ)} (Some (q, s)) (Some (p, t)) → (q ≡ p) × (s ≡ t)
pair-same q s p t same =
    let pairs : ◌≡◌ {A = ℕ × ℕ} (q, s) (p, t) = cc in
    (ap {A = ℕ × ℕ} (λ x. x.0) pairs, ap {A = ℕ × ℕ} (λ x. x.1) pairs)

-- a turn that ends behind a neighbour
pub turned-behind : (terms : Terms) (old view : View) (r q s step goal : ℕ) → HasFallenShort (found_at (taken old r) r step) view r q s → s + 1 ≡ step → step < goal → slice_index old.seen r ≤ step →
    r < length old.seen → are_neighbours terms.setup.now.net.connectors terms.setup.now.chart.cut r q ≡ true → IsBehind terms old (freed view) goal r q s
turned-behind terms old view r q s step goal short by_one below past there beside =
    let alike = short.still.alike in
    let seen : IsLater old (freed view) = record { long = alike.seen.long ∙ length-set old.seen r step; later = λ p. omega (arith, alike.seen.later p, later-set old.seen r step p past) } in
    record {
      beside = beside;
      still = assumption;
      looks = short.looks;
      takes = short.takes;
      tried = short.tried;
      one_more = short.one_more;
      last = short.last;
      below = omega (arith, by_one, below);
      own = (omega (arith, by_one, past), omega (arith, by_one, get_or-set_same old.seen r step 0 there, alike.seen.later r));
      other = (omega (arith, short.before, later-set old.seen r step q past), omega (arith, short.after));
    }

-- a turn that takes its region through a step
pub turned-moved : (terms : Terms) (old view : View) (hold : Hold) (r step goal width : ℕ) → HasLooked (found_at (taken old r) r step) view hold →
    slice_index old.seen r ≤ step → step < goal → slice_index view.seen r ≤ step + 1 → length old.seen ≡ region_count terms.setup.now.chart.cut → r < region_count terms.setup.now.chart.cut →
    ((q : ℕ) → are_neighbours terms.setup.now.net.connectors terms.setup.now.chart.cut r q ≡ true → step ≤ slice_index view.seen q) →
    IsMoved terms old (freed (published (wrote_many view width) r (step + 1))) goal r (step + 1)
turned-moved terms old view hold r step goal width has past below rise long there near =
    let alike = has.still.alike in
    let same_long : length view.seen ≡ length old.seen = alike.seen.long ∙ length-set old.seen r step in
    let seen : IsLater old (freed (published (wrote_many view width) r (step + 1))) = record {
      long = length-set view.seen r (step + 1) ∙ same_long;
      later = λ p. omega (arith, alike.seen.later p, later-set old.seen r step p past, later-set view.seen r (step + 1) p rise);
    } in
    record {
      alike = assumption;
      found = assumption;
      looks = has.looks;
      takes = has.takes;
      tried = has.tried;
      log = ap (λ (log : List PublishedStep). record { region = r; step = step + 1 } ∷ log) has.still.log;
      reach = ap (λ n. max n (step + 1)) has.still.reach;
      below = omega (arith, below);
      own = omega (arith, past);
      seen = get_or-set_same view.seen r (step + 1) 0 (omega (arith, there, long, same_long));
      around = λ q beside. omega (arith, near q beside, later-set view.seen r (step + 1) q rise);
    }

-- one more of region r lowers no count
later-raised : (counts : List ℕ) (r q : ℕ) → slice_index counts q ≤ slice_index (raised counts r) q
later-raised counts r q = later-set counts r (slice_index counts r + 1) q (omega arith)

-- a turn that was alike but for its look keeps what every turn keeps
alike-within : (old new : View) (goal r : ℕ) → IsAlike old new → new.looks ≡ raised old.looks r → length old.log ≤ length new.log → old.reach ≤ new.reach → new.reach ≤ max old.reach goal →
    old.short_found ≤ new.short_found → IsWithin old new goal
alike-within old new goal r alike looks moves risen reach short =
    let found : (q : ℕ) → slice_index old.held_found q ≤ slice_index new.held_found q = λ q. omega (arith, ap (λ counts. slice_index counts q) alike.held_found) in
    let looked : (q : ℕ) → slice_index old.looks q ≤ slice_index new.looks q = λ q. omega (arith, ap (λ counts. slice_index counts q) looks, later-raised old.looks r q) in
    assumption

-- whatever came of a turn
pub turned-within : (terms : Terms) (old new : View) (goal r : ℕ) (answer : Turn) → (answer ≡ Held → new ≡ found_taken old r) →
    ((s : ℕ) → answer ≡ Ended s → (goal ≤ s) × (new ≡ took_at old r s) × (slice_index new.seen r ≡ s) × (slice_index old.seen r ≤ s)) →
    ((q s : ℕ) → answer ≡ Behind q s → IsBehind terms old new goal r q s) → ((s : ℕ) → answer ≡ Moved s → IsMoved terms old new goal r s) → IsWithin old new goal
turned-within terms old new goal r Held held ended behind moved = subst (λ v. IsWithin old v goal) (sym (held refl)) (search (rules, later-raised old.held_found r))
turned-within terms old new goal r (Ended s) held ended behind moved =
    let at = ended s refl in
    let seen : IsLater old (took_at old r s) = record { long = length-set old.seen r s; later = λ q. later-set old.seen r s q at.3 } in
    subst (λ v. IsWithin old v goal) (sym at.1) (alike-within old (took_at old r s) goal r (assumption) refl (omega arith) (omega arith) (omega arith) (omega arith))
turned-within terms old new goal r (Behind q s) held ended behind moved =
    let is = behind q s refl in
    alike-within old new goal r is.still.alike is.looks (omega (arith, ap length is.still.log)) (omega (arith, is.still.reach)) (omega (arith, is.still.reach)) (omega (arith, is.one_more))
turned-within terms old new goal r (Moved s) held ended behind moved =
    let is = moved s refl in
    alike-within old new goal r is.alike is.looks (omega (arith, ap length is.log)) (omega (arith, is.reach)) (omega (arith, is.reach, is.below)) (omega (arith, is.found.short_found))

-- whatever came of a turn, its region was tried
pub turned-tried : (terms : Terms) (old new : View) (goal r : ℕ) (answer : Turn) → (answer ≡ Held → new ≡ found_taken old r) →
    ((s : ℕ) → answer ≡ Ended s → (goal ≤ s) × (new ≡ took_at old r s) × (slice_index new.seen r ≡ s) × (slice_index old.seen r ≤ s)) →
    ((q s : ℕ) → answer ≡ Behind q s → IsBehind terms old new goal r q s) → ((s : ℕ) → answer ≡ Moved s → IsMoved terms old new goal r s) → new.tried ≡ old.tried ++ r ∷ []
turned-tried terms old new goal r Held held ended behind moved = ap (λ (v : View). v.tried) (held refl)
turned-tried terms old new goal r (Ended s) held ended behind moved = ap (λ (v : View). v.tried) (ended s refl).1
turned-tried terms old new goal r (Behind q s) held ended behind moved = (behind q s refl).tried
turned-tried terms old new goal r (Moved s) held ended behind moved = (moved s refl).tried
