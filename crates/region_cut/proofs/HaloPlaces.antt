-- The places of a halo's cells, and the regions that a halo names.
use Rattle.std.specs.Prelude.{All, ◌==◌}
use Rattle.std.specs.List.{Contains, list_any}
use Rattle.std.specs.List.Sorted.{IsStrictlyIncreasing}
use Rattle.std.proofs.Common.{◌≡◌, ℕ, ◌<◌, Bool, true, List, length, map, get_or, refl, sym, ◌∙◌, arith, subst}
use Rattle.std.proofs.lemmas.Bool.{eq-eqb, eqb-true}
use Rattle.std.proofs.lemmas.List.{get_or_default}
use Rattle.std.proofs.lemmas.List.Elements.{All-contains}
use Rattle.region_cut.specs.Gathered.{halo_regions}
use Rattle.region_cut.specs.declared.halo.Halo.{Halo}
use Rattle.region_cut.proofs.Anys.{found, finds, list_any-map}
use Rattle.region_cut.proofs.Ranges.{filter_range_is}

-- a number that is listed stands somewhere
pub not_missing : (xs : List ℕ) (x : ℕ) → ((p : ℕ) → p < length xs → get_or xs p 0 ≡ x → ⊥) → list_any (λ j. j == x) xs ≡ true → ⊥
not_missing xs x none listed =
    let here = found (λ j. j == x) xs listed in
    let k : ℕ = here.1.0 in
    let same : here.0 ≡ x = eqb-true here.0 x here.2 in
    none k here.1.1 (get_or_default xs k 0 here.0 here.1.1 ∙ here.1.2 ∙ same)

-- an increasing list of the regions that a halo names
pub halo_regions-is : (count : ℕ) (halo : List Halo) (regions : List ℕ) → IsStrictlyIncreasing regions →
    ((test : ℕ → Bool) → list_any test regions ≡ list_any test (map (λ other. other.region) halo)) →
    All (λ other. other.region < count) halo → regions ≡ halo_regions count halo
unfolding halo_regions
halo_regions-is count halo regions up same there =
    let named : (q : ℕ) → list_any (λ p. p == q) regions ≡ list_any (λ other. other.region == q) halo =
    λ q. same (λ p. p == q) ∙ list_any-map (λ p. p == q) (λ other. other.region) halo in
    filter_range_is (λ q. list_any (λ other. other.region == q) halo) count regions up
    (λ q has.
    let any : list_any (λ other. other.region == q) halo ≡ true = sym (named q) ∙ finds (λ p. p == q) regions q has (eq-eqb q q refl) in
    let here = found (λ other. other.region == q) halo any in
    let below : here.0.region < count = All-contains (λ other. other.region < count) halo here.0 there here.1 in
    (omega (arith, eqb-true here.0.region q here.2), any))
    (λ q below any.
    let here = found (λ p. p == q) regions (named q ∙ any) in
    subst (Contains regions) (eqb-true here.0 q here.2) here.1)
