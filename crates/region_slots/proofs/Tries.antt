-- What turns keep one after the other, and how often they try a region.
use Rattle.std.specs.Prelude.{slice_index}
use Rattle.std.specs.List.{sum}
use Rattle.std.proofs.Common.{◌≡◌, ◌≢◌, ℕ, ◌+◌, ◌<◌, List, length, ◌∙◌, ap, arith, rules}
use Rattle.std.proofs.lemmas.List.{get_or-set_other, get_or-set_same}
use Rattle.std.proofs.lemmas.List.Sums.{sum_by-set}
use Rattle.border_rows.specs.Kinds.{raised}
use Rattle.border_rows.specs.declared.view.View.{View}
use Rattle.region_slots.specs.Turning.{IsWithin}

-- what no turn has changed is kept
pub within-none : (view : View) (goal : ℕ) → IsWithin view view goal
within-none view goal = search rules

-- and what turns keep one after the other
pub within-more : (old view new : View) (goal : ℕ) → IsWithin old view goal → IsWithin view new goal → IsWithin old new goal
within-more old view new goal before after = record {
  share = after.share ∙ before.share;
  splits = after.splits ∙ before.splits;
  seen = record { long = after.seen.long ∙ before.seen.long; later = λ q. omega (arith, before.seen.later q, after.seen.later q) };
  moves = omega (arith, before.moves, after.moves);
  risen = omega (arith, before.risen, after.risen);
  reach = omega (arith, before.reach, after.reach);
  held_found = λ q. omega (arith, before.held_found q, after.held_found q);
  short_found = omega (arith, before.short_found, after.short_found);
  looks = λ q. omega (arith, before.looks q, after.looks q);
}

-- a count of region r is one higher, and so are all together; the others are as they were
raised-own : (counts : List ℕ) (r : ℕ) → r < length counts → slice_index (raised counts r) r ≡ slice_index counts r + 1
raised-own counts r there = get_or-set_same counts r (slice_index counts r + 1) 0 there

raised-other : (counts : List ℕ) (r p : ℕ) → p ≢ r → slice_index (raised counts r) p ≡ slice_index counts p
raised-other counts r p other = get_or-set_other counts r p (slice_index counts r + 1) 0 other

pub raised-sum : (counts : List ℕ) (r : ℕ) → r < length counts → sum (raised counts r) ≡ sum counts + 1
raised-sum counts r there = omega (arith, sum_by-set (λ n. n) counts r (slice_index counts r + 1) 0 there)

-- one region was tried
pub record IsTried (old new : View) (r : ℕ) : Type 0 where
  pub own : slice_index new.held_found r + slice_index new.looks r ≡ slice_index old.held_found r + slice_index old.looks r + 1
  pub others : (p : ℕ) → p ≢ r → slice_index new.held_found p + slice_index new.looks p ≡ slice_index old.held_found p + slice_index old.looks p
  pub in_all : sum new.held_found + sum new.looks ≡ sum old.held_found + sum old.looks + 1

pub tried-looked : (old new : View) (r : ℕ) → new.held_found ≡ old.held_found → new.looks ≡ raised old.looks r → r < length old.looks → IsTried old new r
tried-looked old new r held looks there = record {
  own = omega (arith, ap (λ l. slice_index l r) held, ap (λ l. slice_index l r) looks, raised-own old.looks r there);
  others = λ p other. omega (arith, ap (λ l. slice_index l p) held, ap (λ l. slice_index l p) looks, raised-other old.looks r p other);
  in_all = omega (arith, ap sum held, ap sum looks, raised-sum old.looks r there);
}

pub tried-held : (old new : View) (r : ℕ) → new.held_found ≡ raised old.held_found r → new.looks ≡ old.looks → r < length old.held_found → IsTried old new r
tried-held old new r held looks there = record {
  own = omega (arith, ap (λ l. slice_index l r) looks, ap (λ l. slice_index l r) held, raised-own old.held_found r there);
  others = λ p other. omega (arith, ap (λ l. slice_index l p) looks, ap (λ l. slice_index l p) held, raised-other old.held_found r p other);
  in_all = omega (arith, ap sum looks, ap sum held, raised-sum old.held_found r there);
}
