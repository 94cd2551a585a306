-- Turns on the regions of a range, one after the other.
use Rattle.std.specs.Prelude.{slice_index}
use Rattle.std.specs.List.{sum}
use Rattle.std.proofs.Common.{◌≡◌, ◌≢◌, ◌⊎◌, ℕ, ◌+◌, ◌<◌, ◌≤◌, inl, inr, length, refl, sym, ap, subst, ◌∙◌, arith}
use Rattle.std.proofs.lemmas.Bool.{cases_eq, cases_lt}
use Rattle.region_cut.specs.Cuttings.{region_count}
use Rattle.border_rows.specs.Kinds.{found_taken, raised}
use Rattle.border_rows.specs.declared.view.Terms.{Terms}
use Rattle.border_rows.specs.declared.view.View.{View}
use Rattle.border_rows.proofs.Keeping.{neighbours-there}
use Rattle.region_slots.specs.FieldView.{HasCounts}
use Rattle.region_slots.specs.Turning.{IsBehind, IsMoved, IsWithin, took_at}
use Rattle.region_slots.specs.declared.turn.Turn.{Turn}
use Rattle.region_slots.specs.declared.turn.Turn.TheVariants.{Behind, Ended, Held, Moved}
use Rattle.region_slots.proofs.Tries.{IsTried, raised-sum, tried-held, tried-looked, within-more, within-none}
use Rattle.worker_claim.specs.Driving.{tries_at}
use Rattle.worker_claim.specs.Turns.{HasTurned, IsCounted, IsShort, counted, none, turns_of}
use Rattle.worker_claim.specs.declared.driven.Driven.{Driven}

-- where a turn leaves its region
abbrev pub Came : (terms : Terms) (old new : View) (goal r : ℕ) → Driven → Type 0
Came terms old new goal r driven = (goal ≤ slice_index new.seen r) ⊎ ((driven.moved + driven.held ≢ 0) ⊎ ((driven.behind ≢ 0) × IsShort terms old new goal r))

-- no turn yet
pub turned-none : (terms : Terms) (view : View) (from goal : ℕ) → HasTurned terms view view from from goal none
turned-none terms view from goal = record {
  counted = record {
    keeps = within-none view goal;
    tried = omega arith;
    moved = omega arith;
    held = omega arith;
    behind = omega arith;
    ended = λ some. absurd (some refl);
    short = λ some. absurd (some refl);
    never_held = λ whole. refl;
    risen = λ some. absurd (some refl);
  };
  turns = omega arith;
  tried = λ r low high. absurd (omega (arith, low, high));
  others = λ r out. refl;
  each = λ r low high. absurd (omega (arith, low, high));
}

-- a turn on one region
turned-at : (terms : Terms) (old new : View) (goal r : ℕ) (driven : Driven) → r < region_count terms.setup.now.chart.cut → IsWithin old new goal → IsTried old new r → turns_of driven ≡ 1 →
    length new.log ≡ length old.log + driven.moved → sum new.held_found ≡ sum old.held_found + driven.held → new.short_found ≡ old.short_found + driven.behind → (driven.ended ≢ 0 → goal ≤ slice_index new.seen r) →
    (driven.behind ≢ 0 → IsShort terms old new goal r) → (old.share ≡ terms.seats → driven.held ≡ 0) → (driven.moved ≢ 0 → (slice_index old.seen r < goal) × (slice_index old.seen r < slice_index new.seen r)) → Came terms old new goal r driven →
    HasTurned terms old new r (r + 1) goal driven
turned-at terms old new goal r driven there keeps tried one moved held behind ended short never risen came = record {
  counted = record {
    keeps = keeps;
    tried = omega (arith, tried.in_all, one);
    moved = moved;
    held = held;
    behind = behind;
    ended = λ some. (r, there, ended some);
    short = λ some. (r, there, short some);
    never_held = never;
    risen = λ some. (r, there, (risen some).0, (risen some).1);
  };
  turns = omega (arith, one);
  tried = λ p low high. let is : p ≡ r = omega (arith, low, high) in subst (λ k. tries_at new k ≡ tries_at old k + 1) (sym is) tried.own;
  others = λ p out. tried.others p (λ same. elim out [
    | inl below ↦ absurd (omega (arith, below, same))
    | inr above ↦ absurd (omega (arith, above, same))
  ]);
  each = λ p low high. let is : p ≡ r = omega (arith, low, high) in subst (λ k. Came terms old new goal k driven) (sym is) came;
}

pub turned-one : (terms : Terms) (old new : View) (goal r : ℕ) (answer : Turn) → r < region_count terms.setup.now.chart.cut → HasCounts (region_count terms.setup.now.chart.cut) old → IsWithin old new goal →
    (answer ≡ Held → new ≡ found_taken old r) → (old.share ≡ terms.seats → answer ≢ Held) →
    ((s : ℕ) → answer ≡ Ended s → (goal ≤ s) × (new ≡ took_at old r s) × (slice_index new.seen r ≡ s) × (slice_index old.seen r ≤ s)) →
    ((q s : ℕ) → answer ≡ Behind q s → IsBehind terms old new goal r q s) → ((s : ℕ) → answer ≡ Moved s → IsMoved terms old new goal r s) →
    HasTurned terms old new r (r + 1) goal (counted none answer)
unfolding counted
turned-one terms old new goal r Held there has keeps held never ended behind moved =
    let is = held refl in
    let found : new.held_found ≡ raised old.held_found r = ap (λ (v : View). v.held_found) is in
    let within : r < length old.held_found = omega (arith, there, has.held_found) in
    turned-at terms old new goal r (counted none Held) there keeps (tried-held old new r found (ap (λ (v : View). v.looks) is) within) refl
    (omega (arith, ap (λ (v : View). length v.log) is)) (ap sum found ∙ raised-sum old.held_found r within) (omega (arith, ap (λ (v : View). v.short_found) is))
    (λ some. absurd (some refl)) (λ some. absurd (some refl)) (λ whole. absurd (never whole refl)) (λ some. absurd (some refl)) (inr (inl (λ none. absurd (omega (arith, none)))))
turned-one terms old new goal r (Ended s) there has keeps held never ended behind moved =
    let is = ended s refl in
    let within : r < length old.looks = omega (arith, there, has.looks) in
    let reached : goal ≤ slice_index new.seen r = omega (arith, is.0, is.2) in
    turned-at terms old new goal r (counted none (Ended s)) there keeps (tried-looked old new r (ap (λ (v : View). v.held_found) is.1) (ap (λ (v : View). v.looks) is.1) within) refl
    (omega (arith, ap (λ (v : View). length v.log) is.1)) (omega (arith, ap (λ (v : View). sum v.held_found) is.1)) (omega (arith, ap (λ (v : View). v.short_found) is.1))
    (λ some. reached) (λ some. absurd (some refl)) (λ whole. refl) (λ some. absurd (some refl)) (inl reached)
turned-one terms old new goal r (Behind q s) there has keeps held never ended behind moved =
    let is = behind q s refl in
    let within : r < length old.looks = omega (arith, there, has.looks) in
    let short : IsShort terms old new goal r = record {
      q = q;
      s = s;
      there = (neighbours-there terms.setup.now.net terms.setup.now.chart r q is.beside).1;
      below = is.below;
      own = is.own;
      other = is.other;
    } in
    turned-at terms old new goal r (counted none (Behind q s)) there keeps (tried-looked old new r is.still.alike.held_found is.looks within) refl
    (omega (arith, ap length is.still.log)) (omega (arith, ap sum is.still.alike.held_found)) is.one_more
    (λ some. absurd (some refl)) (λ some. short) (λ whole. refl) (λ some. absurd (some refl))
    (inr (inr ((λ none. absurd (omega (arith, none))), short)))
turned-one terms old new goal r (Moved s) there has keeps held never ended behind moved =
    let is = moved s refl in
    let within : r < length old.looks = omega (arith, there, has.looks) in
    turned-at terms old new goal r (counted none (Moved s)) there keeps (tried-looked old new r is.alike.held_found is.looks within) refl
    (omega (arith, ap length is.log)) (omega (arith, ap sum is.alike.held_found)) (omega (arith, is.found.short_found))
    (λ some. absurd (some refl)) (λ some. absurd (some refl)) (λ whole. refl) (λ some. (omega (arith, is.own, is.below), omega (arith, is.own, is.seen))) (inr (inl (λ none. absurd (omega (arith, none)))))

-- the counts of two turns or more are added up
pub record AreAdded (one other both : Driven) : Type 0 where
  pub moved : both.moved ≡ one.moved + other.moved
  pub held : both.held ≡ one.held + other.held
  pub behind : both.behind ≡ one.behind + other.behind
  pub ended : both.ended ≡ one.ended + other.ended

pub counted-added : (driven : Driven) (answer : Turn) → AreAdded driven (counted none answer) (counted driven answer)
unfolding counted
counted-added driven (Moved s) = record { moved = refl; held = omega arith; behind = omega arith; ended = omega arith }
counted-added driven Held = record { moved = omega arith; held = refl; behind = omega arith; ended = omega arith }
counted-added driven (Behind q s) = record { moved = omega arith; held = omega arith; behind = refl; ended = omega arith }
counted-added driven (Ended s) = record { moved = omega arith; held = omega arith; behind = omega arith; ended = refl }

-- and no turn tells of the others
pub counted-all : (driven : Driven) (answer : Turn) → (counted driven answer).all ≡ driven.all
unfolding counted
counted-all driven (Moved s) = refl
counted-all driven Held = refl
counted-all driven (Behind q s) = refl
counted-all driven (Ended s) = refl

-- a region found short is so of a longer while
short-more : (terms : Terms) (old view new : View) (goal r : ℕ) → IsWithin view new goal → IsShort terms old view goal r → IsShort terms old new goal r
short-more terms old view new goal r after short = record {
  q = short.q;
  s = short.s;
  there = short.there;
  below = short.below;
  own = (short.own.0, omega (arith, short.own.1, after.seen.later r));
  other = (short.other.0, omega (arith, short.other.1, after.seen.later short.q));
}

short-later : (terms : Terms) (old view new : View) (goal r : ℕ) → IsWithin old view goal → IsShort terms view new goal r → IsShort terms old new goal r
short-later terms old view new goal r before short = record {
  q = short.q;
  s = short.s;
  there = short.there;
  below = short.below;
  own = (omega (arith, short.own.0, before.seen.later r), short.own.1);
  other = (omega (arith, short.other.0, before.seen.later short.q), short.other.1);
}

-- what one part of some turns left stays so, with more counted
pub came-more : (terms : Terms) (old view new : View) (goal r : ℕ) (one other both : Driven) → AreAdded one other both → IsWithin view new goal → Came terms old view goal r one → Came terms old new goal r both
came-more terms old view new goal r one other both added after came = elim came [
  | inl reached ↦ inl (omega (arith, reached, after.seen.later r))
  | inr rest ↦ elim rest [
    | inl some ↦ inr (inl (λ none. some (omega (arith, none, added.moved, added.held))))
    | inr short ↦ inr (inr ((λ none. short.0 (omega (arith, none, added.behind))), short-more terms old view new goal r after short.1))
  ]
]

pub came-later : (terms : Terms) (old view new : View) (goal r : ℕ) (one other both : Driven) → AreAdded one other both → IsWithin old view goal → Came terms view new goal r other → Came terms old new goal r both
came-later terms old view new goal r one other both added before came = elim came [
  | inl reached ↦ inl reached
  | inr rest ↦ elim rest [
    | inl some ↦ inr (inl (λ none. some (omega (arith, none, added.moved, added.held))))
    | inr short ↦ inr (inr ((λ none. short.0 (omega (arith, none, added.behind))), short-later terms old view new goal r before short.1))
  ]
]

pub counted-more : (terms : Terms) (old view new : View) (goal : ℕ) (one other both : Driven) → AreAdded one other both → IsCounted terms old view goal one → IsCounted terms view new goal other → IsCounted terms old new goal both
counted-more terms old view new goal one other both added before after = record {
  keeps = within-more old view new goal before.keeps after.keeps;
  tried = omega (arith, before.tried, after.tried, added.moved, added.held, added.behind, added.ended);
  moved = omega (arith, before.moved, after.moved, added.moved);
  held = omega (arith, before.held, after.held, added.held);
  behind = omega (arith, before.behind, after.behind, added.behind);
  ended = λ some. elim (cases_eq one.ended 0) [
    | inl none ↦ after.ended (λ also. some (omega (arith, none, also, added.ended)))
    | inr first ↦ let is = before.ended first in (is.0, is.1, omega (arith, is.2, after.keeps.seen.later is.0))
  ];
  short = λ some. elim (cases_eq one.behind 0) [
    | inl none ↦ let is = after.short (λ also. some (omega (arith, none, also, added.behind))) in (is.0, is.1, short-later terms old view new goal is.0 before.keeps is.2)
    | inr first ↦ let is = before.short first in (is.0, is.1, short-more terms old view new goal is.0 after.keeps is.2)
  ];
  never_held = λ whole. omega (arith, before.never_held whole, after.never_held (before.keeps.share ∙ whole), added.held);
  risen = λ some. elim (cases_eq one.moved 0) [
    | inl none ↦
        let is = after.risen (λ also. some (omega (arith, none, also, added.moved))) in
        (is.0, is.1, omega (arith, is.2, before.keeps.seen.later is.0), omega (arith, is.3, before.keeps.seen.later is.0))
    | inr first ↦ let is = before.risen first in (is.0, is.1, is.2, omega (arith, is.3, after.keeps.seen.later is.0))
  ];
}

-- the regions of a range, and the next ones
pub turned-more : (terms : Terms) (old view new : View) (from at to goal : ℕ) (one other both : Driven) → AreAdded one other both → HasTurned terms old view from at goal one → HasTurned terms view new at to goal other →
    HasTurned terms old new from to goal both
turned-more terms old view new from at to goal one other both added before after = record {
  counted = counted-more terms old view new goal one other both added before.counted after.counted;
  turns = omega (arith, before.turns, after.turns, added.moved, added.held, added.behind, added.ended);
  tried = λ r low high. elim (cases_lt r at) [
    | inl early ↦ omega (arith, before.tried r low early, after.others r (inl early))
    | inr late ↦ omega (arith, before.others r (inr (omega (arith, late))), after.tried r (omega (arith, late)) high)
  ];
  others = λ r out. elim out [
    | inl below ↦ omega (arith, before.others r (inl below), after.others r (inl (omega (arith, below, before.turns))))
    | inr above ↦ omega (arith, before.others r (inr (omega (arith, above, after.turns))), after.others r (inr above))
  ];
  each = λ r low high. elim (cases_lt r at) [
    | inl early ↦ came-more terms old view new goal r one other both added after.counted.keeps (before.each r low early)
    | inr late ↦ came-later terms old view new goal r one other both added before.counted.keeps (after.each r (omega (arith, late)) high)
  ];
}
