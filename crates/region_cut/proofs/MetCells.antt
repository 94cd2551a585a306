-- The cells of the connectors that touch a region and another.
use Rattle.std.specs.Prelude.{eqb, ◌&&◌, ◌||◌}
use Rattle.std.specs.List.{Contains, filter, list_any, range_with_len}
use Rattle.std.specs.List.Sorted.{IsStrictlyIncreasing}
use Rattle.std.proofs.Common.{◌≡◌, ℕ, ◌<◌, ◌+◌, Bool, true, false, List, ◌++◌, length, get_or, take, refl, sym, ap, subst, ◌∙◌}
use Rattle.std.proofs.lemmas.List.{get_or_default}
use Rattle.std.proofs.lemmas.List.Elements.{Contains-get_or}
use Rattle.std.proofs.lemmas.List.Folds.{list_any-append, list_any_more}
use Rattle.network_file.specs.Connectors.{cells_of, touches}
use Rattle.network_file.specs.Numbered.{connector_at}
use Rattle.network_file.specs.Network.{Network}
use Rattle.network_file.specs.Sound.{IsNetwork}
use Rattle.network_file.specs.declared.connector.Connector.{Connector}
use Rattle.network_file.specs.declared.connector.Connector.TheVariants.{Link}
use Rattle.region_cut.specs.Chart.{connectors_of}
use Rattle.region_cut.specs.Gathered.{is_met, leaves_region, met_by}
use Rattle.region_cut.specs.Neighbours.{touches_region}
use Rattle.region_cut.proofs.Anys.{Contains-from_test, both, finds, first_of_both, found, same_tests, second_of_both, test_from_Contains}
use Rattle.region_cut.proofs.ConnectorCells.{touches-there}
use Rattle.region_cut.proofs.Ranges.{Contains-filter_range, filter_range-Contains, filter_range_is}

-- a connector of this number is one of the list
connector-Contains : (connectors : List Connector) (k : ℕ) → k < length connectors → Contains connectors (connector_at connectors k)
connector-Contains connectors k there = Contains-get_or connectors k (Link 0 0) there

-- a test of the connectors that pass another, by their numbers
any_numbered : (F G : Connector → Bool) (connectors : List Connector) →
    list_any (λ k. G (connector_at connectors k)) (filter (λ k. F (connector_at connectors k)) (range_with_len 0 (length connectors))) ≡
    list_any (λ connector. F connector && G connector) connectors
any_numbered F G connectors =
    let numbers : List ℕ = filter (λ k. F (connector_at connectors k)) (range_with_len 0 (length connectors)) in
    same_tests (list_any (λ k. G (connector_at connectors k)) numbers) (list_any (λ connector. F connector && G connector) connectors)
    (λ any.
    let here = found (λ k. G (connector_at connectors k)) numbers any in
    let passed = Contains-filter_range (λ k. F (connector_at connectors k)) (length connectors) here.0 here.1 in
    finds (λ connector. F connector && G connector) connectors (connector_at connectors here.0) (connector-Contains connectors here.0 passed.0)
    (both (F (connector_at connectors here.0)) (G (connector_at connectors here.0)) passed.1 here.2))
    (λ any.
    let here = found (λ connector. F connector && G connector) connectors any in
    let k : ℕ = here.1.0 in
    let is : connector_at connectors k ≡ here.0 = get_or_default connectors k (Link 0 0) here.0 here.1.1 ∙ here.1.2 in
    finds (λ j. G (connector_at connectors j)) numbers k
    (filter_range-Contains (λ j. F (connector_at connectors j)) (length connectors) k here.1.1 (ap F is ∙ first_of_both (F here.0) (G here.0) here.2))
    (ap G is ∙ second_of_both (F here.0) (G here.0) here.2))

-- a number of the connectors that touch a region
pub connectors_of-at : (net : Network) (cut : List ℕ) (r : ℕ) (numbers : List ℕ) (j : ℕ) → numbers ≡ connectors_of net cut r → j < length numbers →
    get_or numbers j 0 < length net.connectors
unfolding connectors_of
connectors_of-at net cut r numbers j is within =
    (Contains-filter_range (λ k. touches_region cut r (connector_at net.connectors k)) (length net.connectors) (get_or numbers j 0)
    (subst (λ ks. Contains ks (get_or numbers j 0)) is (Contains-get_or numbers j 0 within))).0

-- what a test finds among the cells of those of these connectors that leave the region
abbrev pub found_leaving : Network → (cut : List ℕ) → (r : ℕ) → (test : ℕ → Bool) → (k : ℕ) → Bool
found_leaving net cut r test k = leaves_region cut r (connector_at net.connectors k) && list_any test (cells_of (connector_at net.connectors k))

pub found_leaving-more : (net : Network) (cut : List ℕ) (r : ℕ) (numbers cells three : List ℕ) (j : ℕ) (test : ℕ → Bool) → j < length numbers →
    list_any test cells ≡ list_any (found_leaving net cut r test) (take j numbers) →
    leaves_region cut r (connector_at net.connectors (get_or numbers j 0)) ≡ true →
    list_any test three ≡ list_any test (cells_of (connector_at net.connectors (get_or numbers j 0))) →
    list_any test (cells ++ three) ≡ list_any (found_leaving net cut r test) (take (j + 1) numbers)
found_leaving-more net cut r numbers cells three j test within before leaves same =
    let here : found_leaving net cut r test (get_or numbers j 0) ≡ list_any test three = rw leaves (sym same) in
    list_any-append test cells three ∙ ap (λ any. any || list_any test three) before ∙
    ap (λ any. list_any (found_leaving net cut r test) (take j numbers) || any) (sym here) ∙
    sym (list_any_more (found_leaving net cut r test) numbers j 0 within)

pub found_leaving-none : (net : Network) (cut : List ℕ) (r : ℕ) (numbers cells : List ℕ) (j : ℕ) (test : ℕ → Bool) → j < length numbers →
    list_any test cells ≡ list_any (found_leaving net cut r test) (take j numbers) →
    leaves_region cut r (connector_at net.connectors (get_or numbers j 0)) ≡ false →
    list_any test cells ≡ list_any (found_leaving net cut r test) (take (j + 1) numbers)
found_leaving-none net cut r numbers cells j test within before stays =
    let here : found_leaving net cut r test (get_or numbers j 0) ≡ false = rw stays refl in
    before ∙ sym (or_false (list_any (found_leaving net cut r test) (take j numbers))) ∙
    ap (λ any. list_any (found_leaving net cut r test) (take j numbers) || any) (sym here) ∙
    sym (list_any_more (found_leaving net cut r test) numbers j 0 within)
  where
    or_false : (a : Bool) → (a || false) ≡ a
    or_false true = refl
    or_false false = refl

-- an increasing list of these cells
pub met_by-is : (net : Network) (cut : List ℕ) (r : ℕ) (numbers cells : List ℕ) → IsNetwork net → numbers ≡ connectors_of net cut r → IsStrictlyIncreasing cells →
    ((test : ℕ → Bool) → list_any test cells ≡ list_any (found_leaving net cut r test) numbers) → cells ≡ met_by net cut r
unfolding met_by connectors_of
met_by-is net cut r numbers cells sound is up same =
    let met : (i : ℕ) → list_any (eqb i) cells ≡ is_met net.connectors cut r i =
    λ i. same (eqb i) ∙ ap (list_any (found_leaving net cut r (eqb i))) is ∙
    any_numbered (touches_region cut r) (λ connector. leaves_region cut r connector && touches i connector) net.connectors in
    filter_range_is (is_met net.connectors cut r) (length net.cells) cells up
    (λ i has.
    let passes : is_met net.connectors cut r i ≡ true = sym (met i) ∙ test_from_Contains cells i has in
    let here = found (λ connector. touches_region cut r connector && (leaves_region cut r connector && touches i connector)) net.connectors passes in
    let touched : touches i here.0 ≡ true =
    second_of_both (leaves_region cut r here.0) (touches i here.0) (second_of_both (touches_region cut r here.0) (leaves_region cut r here.0 && touches i here.0) here.2) in
    (touches-there net here.0 i sound here.1 touched, passes))
    (λ i within passes. Contains-from_test cells i (met i ∙ passes))
