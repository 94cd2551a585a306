-- The turns of a sweep, one after the other.
use Rattle.std.specs.Prelude.{slice_index}
use Rattle.std.specs.List.{sum}
use Rattle.std.proofs.Common.{◌≡◌, ◌≢◌, ℕ, ◌+◌, ◌<◌, ◌≤◌, inl, inr, List, length, refl, sym, ap, subst, ◌∙◌, arith}
use Rattle.std.proofs.lemmas.Bool.{cases_eq, cases_lt}
use Rattle.std.proofs.lemmas.List.{get_or-set_other, get_or-set_same}
use Rattle.std.proofs.lemmas.List.Sums.{sum_by-set}
use Rattle.region_cut.specs.Cuttings.{region_count}
use Rattle.border_rows.specs.Kinds.{found_taken, raised}
use Rattle.border_rows.specs.declared.view.Terms.{Terms}
use Rattle.border_rows.specs.declared.view.View.{View}
use Rattle.region_slots.specs.FieldView.{HasCounts}
use Rattle.region_slots.specs.Turning.{IsBehind, IsMoved, IsWithin, took_at}
use Rattle.region_slots.specs.declared.turn.Turn.{Turn}
use Rattle.region_slots.specs.declared.turn.Turn.TheVariants.{Behind, Ended, Held, Moved}
use Rattle.parked_crew.specs.Sweeping.{HasSwept, counted, none, tries_at}
use Rattle.parked_crew.specs.declared.swept.Swept.{Swept}

-- what no turn has changed is kept
pub within-none : (view : View) (goal : ℕ) → IsWithin view view goal
within-none view goal = record {
  share = refl;
  splits = refl;
  seen = record { long = refl; later = λ q. omega arith };
  moves = omega arith;
  risen = omega arith;
  reach = omega arith;
  held_found = λ q. omega arith;
  short_found = omega arith;
  looks = λ q. omega arith;
}

-- and what turns keep one after the other
pub within-more : (old view new : View) (goal : ℕ) → IsWithin old view goal → IsWithin view new goal → IsWithin old new goal
within-more old view new goal before after = record {
  share = after.share ∙ before.share;
  splits = after.splits ∙ before.splits;
  seen = record { long = after.seen.long ∙ before.seen.long; later = λ q. omega (arith, before.seen.later q, after.seen.later q) };
  moves = omega (arith, before.moves, after.moves);
  risen = omega (arith, before.risen, after.risen);
  reach = omega (arith, before.reach, after.reach);
  held_found = λ q. omega (arith, before.held_found q, after.held_found q);
  short_found = omega (arith, before.short_found, after.short_found);
  looks = λ q. omega (arith, before.looks q, after.looks q);
}

-- no turn yet
pub swept-none : (view : View) (goal : ℕ) → HasSwept 0 goal view view none
swept-none view goal = record {
  keeps = within-none view goal;
  tried = λ r within. absurd (omega (arith, within));
  others = λ r past. refl;
  turns = refl;
  moved = omega arith;
  held = omega arith;
  behind = omega arith;
  ended = λ none r within. absurd (omega (arith, within));
}

raised-sum : (counts : List ℕ) (r : ℕ) → r < length counts → sum (raised counts r) ≡ sum counts + 1
raised-sum counts r there = omega (arith, sum_by-set (λ n. n) counts r (slice_index counts r + 1) 0 there)

-- one region was tried
record IsTried (old new : View) (r : ℕ) : Type 0 where
  pub own : tries_at new r ≡ tries_at old r + 1
  pub others : (p : ℕ) → p ≢ r → tries_at new p ≡ tries_at old p

raised-own : (counts : List ℕ) (r : ℕ) → r < length counts → slice_index (raised counts r) r ≡ slice_index counts r + 1
raised-own counts r there = get_or-set_same counts r (slice_index counts r + 1) 0 there

raised-other : (counts : List ℕ) (r p : ℕ) → p ≢ r → slice_index (raised counts r) p ≡ slice_index counts p
raised-other counts r p other = get_or-set_other counts r p (slice_index counts r + 1) 0 other

tried-looked : (old new : View) (r : ℕ) → new.held_found ≡ old.held_found → new.looks ≡ raised old.looks r → r < length old.looks → IsTried old new r
tried-looked old new r held looks there = record {
  own = omega (arith, ap (λ l. slice_index l r) held, ap (λ l. slice_index l r) looks, raised-own old.looks r there);
  others = λ p other. omega (arith, ap (λ l. slice_index l p) held, ap (λ l. slice_index l p) looks, raised-other old.looks r p other);
}

tried-held : (old new : View) (r : ℕ) → new.held_found ≡ raised old.held_found r → new.looks ≡ old.looks → r < length old.held_found → IsTried old new r
tried-held old new r held looks there = record {
  own = omega (arith, ap (λ l. slice_index l r) looks, ap (λ l. slice_index l r) held, raised-own old.held_found r there);
  others = λ p other. omega (arith, ap (λ l. slice_index l p) looks, ap (λ l. slice_index l p) held, raised-other old.held_found r p other);
}

-- and with it each of those up to it, and none behind it
more-tried : (old view new : View) (r goal : ℕ) (swept : Swept) → HasSwept r goal old view swept → IsTried view new r → (p : ℕ) → p < r + 1 → tries_at new p ≡ tries_at old p + 1
more-tried old view new r goal swept before one p within = elim (cases_eq p r) [
  | inl is ↦ subst (λ k. tries_at new k ≡ tries_at old k + 1) (sym is) (omega (arith, one.own, before.others r (omega arith)))
  | inr other ↦ omega (arith, one.others p other, before.tried p (omega (arith, within, other)))
]

more-others : (old view new : View) (r goal : ℕ) (swept : Swept) → HasSwept r goal old view swept → IsTried view new r → (p : ℕ) → r + 1 ≤ p → tries_at new p ≡ tries_at old p
more-others old view new r goal swept before one p past =
    omega (arith, one.others p (λ is. absurd (omega (arith, is, past))), before.others p (omega (arith, past)))

-- Of the turns before, and of one more, all found their region at goal or past it only where each did.
more-ended : (old view new : View) (r goal : ℕ) (swept : Swept) (one : ℕ) → HasSwept r goal old view swept → IsWithin view new goal → (one ≢ 0 → (one ≡ 1) × (goal ≤ slice_index new.seen r)) →
    swept.ended + one ≡ r + 1 → (p : ℕ) → p < r + 1 → goal ≤ slice_index new.seen p
more-ended old view new r goal swept one before after own all p within =
    let some : one ≢ 0 = λ none. absurd (omega (arith, none, all, before.turns)) in
    elim (cases_lt p r) [
      | inl early ↦ omega (arith, before.ended (omega (arith, all, own some)) p early, after.seen.later p)
      | inr late ↦ let is : p ≡ r = omega (arith, late, within) in subst (λ k. goal ≤ slice_index new.seen k) (sym is) (own some).1
    ]

-- one turn more
pub swept-more : (terms : Terms) (old view new : View) (goal r : ℕ) (swept : Swept) (answer : Turn) → r < region_count terms.setup.now.chart.cut → HasCounts (region_count terms.setup.now.chart.cut) view →
    HasSwept r goal old view swept → IsWithin view new goal → (answer ≡ Held → new ≡ found_taken view r) →
    ((s : ℕ) → answer ≡ Ended s → (goal ≤ s) × (new ≡ took_at view r s) × (slice_index new.seen r ≡ s) × (slice_index view.seen r ≤ s)) →
    ((q s : ℕ) → answer ≡ Behind q s → IsBehind terms view new goal r q s) → ((s : ℕ) → answer ≡ Moved s → IsMoved terms view new goal r s) →
    HasSwept (r + 1) goal old new (counted swept answer)
unfolding counted
swept-more terms old view new goal r swept Held there has before after held ended behind moved =
    let is = held refl in
    let within : r < length view.held_found = omega (arith, there, has.held_found) in
    let one = tried-held view new r (ap (λ (v : View). v.held_found) is) (ap (λ (v : View). v.looks) is) within in
    record {
      keeps = within-more old view new goal before.keeps after;
      tried = more-tried old view new r goal swept before one;
      others = more-others old view new r goal swept before one;
      turns = omega (arith, before.turns);
      moved = omega (arith, before.moved, ap (λ (v : View). length v.log) is);
      held = omega (arith, before.held, ap (λ (v : View). sum v.held_found) is, raised-sum view.held_found r within);
      behind = omega (arith, before.behind, ap (λ (v : View). v.short_found) is);
      ended = λ all. more-ended old view new r goal swept 0 before after (λ some. absurd (some refl)) (omega (arith, all));
    }
swept-more terms old view new goal r swept (Ended s) there has before after held ended behind moved =
    let is = ended s refl in
    let within : r < length view.looks = omega (arith, there, has.looks) in
    let one = tried-looked view new r (ap (λ (v : View). v.held_found) is.1) (ap (λ (v : View). v.looks) is.1) within in
    record {
      keeps = within-more old view new goal before.keeps after;
      tried = more-tried old view new r goal swept before one;
      others = more-others old view new r goal swept before one;
      turns = omega (arith, before.turns);
      moved = omega (arith, before.moved, ap (λ (v : View). length v.log) is.1);
      held = omega (arith, before.held, ap (λ (v : View). sum v.held_found) is.1);
      behind = omega (arith, before.behind, ap (λ (v : View). v.short_found) is.1);
      ended = λ all. more-ended old view new r goal swept 1 before after (λ some. (refl, omega (arith, is.0, is.2))) (omega (arith, all));
    }
swept-more terms old view new goal r swept (Behind q s) there has before after held ended behind moved =
    let is = behind q s refl in
    let within : r < length view.looks = omega (arith, there, has.looks) in
    let one = tried-looked view new r is.still.alike.held_found is.looks within in
    record {
      keeps = within-more old view new goal before.keeps after;
      tried = more-tried old view new r goal swept before one;
      others = more-others old view new r goal swept before one;
      turns = omega (arith, before.turns);
      moved = omega (arith, before.moved, ap length is.still.log);
      held = omega (arith, before.held, ap sum is.still.alike.held_found);
      behind = omega (arith, before.behind, is.one_more);
      ended = λ all. more-ended old view new r goal swept 0 before after (λ some. absurd (some refl)) (omega (arith, all));
    }
swept-more terms old view new goal r swept (Moved s) there has before after held ended behind moved =
    let is = moved s refl in
    let within : r < length view.looks = omega (arith, there, has.looks) in
    let one = tried-looked view new r is.alike.held_found is.looks within in
    record {
      keeps = within-more old view new goal before.keeps after;
      tried = more-tried old view new r goal swept before one;
      others = more-others old view new r goal swept before one;
      turns = omega (arith, before.turns);
      moved = omega (arith, before.moved, ap length is.log);
      held = omega (arith, before.held, ap sum is.alike.held_found);
      behind = omega (arith, before.behind, is.found.short_found);
      ended = λ all. more-ended old view new r goal swept 0 before after (λ some. absurd (some refl)) (omega (arith, all));
    }
