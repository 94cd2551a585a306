-- The greatest number of a list, and how many regions a cutting has.
use Rattle.std.specs.Prelude.{All}
use Rattle.std.proofs.Common.{◌≢◌, ℕ, suc, zero, inl, inr, ◌<◌, ◌≤◌, ◌+◌, List, [], ◌∷◌, ap, get_or, length, subst, sym, arith}
use Rattle.std.proofs.lemmas.List.Elements.{All-head, All-tail}
use Rattle.network_file.specs.Cutting.{IsCutting, greatest}
use Rattle.network_file.specs.Network.{Network}
use Rattle.network_file.specs.Sound.{IsNetwork}
use Rattle.network_file.specs.Limits.{most_regions}
use Rattle.region_cut.specs.Cuttings.{region_count}

pub at-le-greatest : (xs : List ℕ) (i : ℕ) → get_or xs i 0 ≤ greatest xs
at-le-greatest [] i = omega arith
at-le-greatest (x ∷ xs) zero = omega arith
at-le-greatest (x ∷ xs) (suc i) = omega (arith, at-le-greatest xs i)

pub greatest-below : (xs : List ℕ) (n : ℕ) → 1 ≤ n → All (λ x. x < n) xs → greatest xs + 1 ≤ n
greatest-below [] n some below = some
greatest-below (x ∷ xs) n some below =
    omega (arith, greatest-below xs n some (All-tail (λ x. x < n) x xs below), All-head (λ x. x < n) x xs below)

-- there are few regions
pub region_count-few : (cells : ℕ) (cut : List ℕ) → IsCutting cells cut → region_count cut ≤ most_regions
region_count-few cells cut cutting = greatest-below cut most_regions (omega arith) cutting.few

-- the regions of a network's file
pub own-cutting : (net : Network) → IsNetwork net → length net.regions ≢ 0 → IsCutting (length net.cells) net.regions
own-cutting net sound some = elim sound.regions [
  | inl none ↦ absurd (some (ap length none))
  | inr is ↦ is
]

pub cutting-alone : {cells : ℕ} {list : List ℕ} → IsCutting cells list → IsCutting (length list) list
cutting-alone {list} cutting = subst (λ n. IsCutting n list) (sym cutting.one_each) cutting
