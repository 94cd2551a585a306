-- Each move keeps the rule of a deque.
use Rattle.std.proofs.Common.{◌≡◌, ◌≢◌, ℕ, zero, suc, ◌+◌, ◌<◌, All, List, [], ◌∷◌, ◌++◌, length, set, refl, sym, subst, ⊎_elim, arith}
use mathlib.Core.Option.{some, some-ne-none}
use lib.ListN.{get_elem?}
use lib.Seq.{take-append_seam, drop-append_seam}
use Rattle.std.proofs.lemmas.List.Elements.{All-append, All-cons, All-drop, All-nil, All-take, All-weaker}
use Rattle.std.proofs.lemmas.List.{length-set}
use Rattle.crossbeam_deque.specs.Tasks.{Forks, Pushes, Takes}
use Rattle.crossbeam_deque.proofs.Lists.{at_set, at_snoc}
use Rattle.number_deques.specs.Nests.{AreBelow}

-- a pass that is there has a number below theirs
within : (l : List ℕ) (j a : ℕ) → get_elem? l j ≡ some a → j < length l
within [] j a e = absurd (some-ne-none a (sym e))
within (x ∷ l) zero a e = omega arith
within (x ∷ l) (suc j) a e = let low = within l j a e in omega (arith, low)

-- the first push
pub opens : (port r : ℕ) → Pushes AreBelow port 0 (r ∷ []) (λ w. All (λ q. w ≡ q + 1) (r ∷ []))
opens port r items views holds at = (
  r + 1,
  record {
    limit = r + 1;
    below = All-append (λ q. q < r + 1) items (r ∷ []) (All-weaker (λ q. q < holds.limit) (λ q. q < r + 1) (λ q low. omega (arith, low, none)) items holds.below) (All-cons (λ q. q < r + 1) r [] (omega arith) (All-nil (λ q. q < r + 1)));
    known = λ other v e. ⊎_elim (λ (x : (other ≡ port) × (r + 1 ≡ v)). sym x.1)
        (λ (x : (other ≢ port) × (get_elem? views other ≡ some v)). absurd (x.0 (omega (arith, holds.alone (sym none), within views port 0 at, within views other v x.1))))
        (at_set views port other (r + 1) v e);
    alone = λ is. absurd (omega (arith, is));
  },
  All-cons (λ q. r + 1 ≡ q + 1) r [] refl (All-nil (λ q. r + 1 ≡ q + 1)),
)
  where
    none : 0 ≡ holds.limit
    none = holds.known port 0 at

-- what a pass knows stays
same : (views : List ℕ) (port v limit : ℕ) → ((other w : ℕ) → get_elem? views other ≡ some w → w ≡ limit) → v ≡ limit → (other w : ℕ) → get_elem? (set views port v) other ≡ some w → w ≡ limit
same views port v limit known is other w e = ⊎_elim (λ (x : (other ≡ port) × (v ≡ w)). omega (arith, x.1, is))
    (λ (x : (other ≢ port) × (get_elem? views other ≡ some w)). known other w x.1) (at_set views port other v w e)

pub pushes : (port limit r : ℕ) → r < limit → Pushes AreBelow port limit (r ∷ []) (λ w. (w ≡ limit) × All (λ q. q < limit) (r ∷ []))
pushes port limit r low items views holds at = (
  limit,
  record {
    limit = holds.limit;
    below = All-append (λ q. q < holds.limit) items (r ∷ []) holds.below (All-cons (λ q. q < holds.limit) r [] (omega (arith, low, holds.known port limit at)) (All-nil (λ q. q < holds.limit)));
    known = same views port limit holds.limit holds.known (holds.known port limit at);
    alone = λ is. omega (arith, holds.alone is, length-set views port limit);
  },
  (refl, All-cons (λ q. q < limit) r [] low (All-nil (λ q. q < limit))),
)

pub takes : (port limit : ℕ) → Takes AreBelow port limit 1 (λ xs w. (w ≡ limit) × All (λ q. q < limit) xs)
takes port limit xs items views _ _ holds at = (
  limit,
  record {
    limit = holds.limit;
    below = subst (All (λ q. q < holds.limit)) (drop-append_seam xs items) (All-drop (λ q. q < holds.limit) (length xs) (xs ++ items) holds.below);
    known = same views port limit holds.limit holds.known (holds.known port limit at);
    alone = λ is. omega (arith, holds.alone is, length-set views port limit);
  },
  (
    refl,
    All-weaker (λ q. q < holds.limit) (λ q. q < limit) (λ q low. omega (arith, low, holds.known port limit at)) xs
        (subst (All (λ q. q < holds.limit)) (take-append_seam xs items) (All-take (λ q. q < holds.limit) (length xs) (xs ++ items) holds.below)),
  ),
)

-- another pass comes once there is a limit
pub forks : (port limit : ℕ) → limit ≢ 0 → Forks AreBelow port limit limit limit
forks port limit told items views holds at = record {
  limit = holds.limit;
  below = holds.below;
  known = λ other v e. ⊎_elim (λ x. same views port limit holds.limit holds.known (holds.known port limit at) other v x) (λ (x : limit ≡ v). omega (arith, x, holds.known port limit at))
      (at_snoc (set views port limit) limit v other e);
  alone = λ is. absurd (told (omega (arith, is, holds.known port limit at)));
}
