-- The first fault of a list, from the tests that are made of it.
use Rattle.std.specs.Prelude.{◌==◌, nat_lt, Ok, Err}
use Rattle.std.specs.List.{list_all}
use Rattle.std.proofs.Common.{◌≡◌, ◌≢◌, ℕ, true, false, List, get_or, length, refl}
use Rattle.std.proofs.lemmas.Bool.{eq-eqb, lt-ltb}
use Rattle.network_file.specs.Cutting.{IsCutting, has_no_gap}
use Rattle.network_file.specs.Network.{Network}
use Rattle.network_file.specs.Limits.{most_regions}
use Rattle.region_cut.specs.CutFaults.{cut_of}
use Rattle.region_cut.specs.declared.fault.CutFault.TheVariants.{Length, Gap, Many}
use Rattle.region_cut.proofs.Anys.{apart}
use Rattle.region_cut.proofs.EvenCutting.{all_pass}

pub cut_of-Length : (net : Network) (list : List ℕ) → length list ≢ length net.cells → cut_of net list ≡ Err Length
unfolding cut_of
cut_of-Length net list differ = let other : (length list == length net.cells) ≡ false = apart _ _ differ in rw other refl

pub cut_of-Many : (net : Network) (list : List ℕ) → length list ≡ length net.cells → list_all (λ region. nat_lt region most_regions) list ≡ false → cut_of net list ≡ Err Many
unfolding cut_of
cut_of-Many net list same many = let long : (length list == length net.cells) ≡ true = eq-eqb _ _ same in rw (long, many) refl

pub cut_of-Gap : (net : Network) (list : List ℕ) → length list ≡ length net.cells → list_all (λ region. nat_lt region most_regions) list ≡ true → has_no_gap list ≡ false → cut_of net list ≡ Err Gap
unfolding cut_of
cut_of-Gap net list same few gap = let long : (length list == length net.cells) ≡ true = eq-eqb _ _ same in rw (long, few, gap) refl

pub cut_of-Ok : (net : Network) (list : List ℕ) → length list ≡ length net.cells → list_all (λ region. nat_lt region most_regions) list ≡ true → has_no_gap list ≡ true → cut_of net list ≡ Ok list
unfolding cut_of
cut_of-Ok net list same few whole = let long : (length list == length net.cells) ≡ true = eq-eqb _ _ same in rw (long, few, whole) refl

-- a cutting of its cells, as a file's own is
pub cut_of-IsCutting : (net : Network) (list : List ℕ) → IsCutting (length net.cells) list → cut_of net list ≡ Ok list
cut_of-IsCutting net list cutting =
    cut_of-Ok net list cutting.one_each
    (all_pass (λ region. nat_lt region most_regions) list (λ k d within. lt-ltb (get_or list k d) most_regions (cutting.few k d within)))
    cutting.no_gap
