-- The region of each of so many cells, by one cell more and by one record more.
use Rattle.std.specs.Prelude.{is_some, unwrap_or, map, ◌&&◌, ◌==◌, if◌then◌else◌}
use Rattle.std.specs.Option.{option_map, option_or}
use Rattle.std.specs.List.{find, list_all, range_with_len}
use Rattle.std.proofs.Common.{◌≡◌, ℕ, ◌+◌, Bool, true, false, List, [], ◌∷◌, ◌++◌, Option, Some, None, ◌<◌, inl, inr, get_or, zero-add, arith, refl, sym, ap, ◌∙◌}
use Rattle.std.proofs.Math.Bool.{and-true}
use Rattle.std.proofs.lemmas.Bool.{cases_eq, eq-eqb, ne_eqb}
use Rattle.std.proofs.lemmas.List.Folds.{find-append, list_all-append, list_all-map, list_all_at}
use Rattle.std.proofs.lemmas.List.FromFn.{length-range_with_len, get_or-range_with_len, map-range_with_len_more}
use Rattle.record_fields.specs.Regions.{all_have_regions, region_in, region_numbers}
use Rattle.record_fields.specs.declared.region_record.RegionRecord.{RegionRecord}

-- whether each of one cell more has a region, and its number
pub all_have_regions-more : (cells : ℕ) (regions : List RegionRecord) →
    all_have_regions (cells + 1) regions ≡ (all_have_regions cells regions && is_some (region_in regions cells))
all_have_regions-more cells regions =
    let has : ℕ → Bool = λ cell. is_some (region_in regions cell) in
    let same : ℕ → ℕ = λ cell. cell in
    sym (list_all-map has same (range_with_len 0 (cells + 1))) ∙
    ap (list_all has) (map-range_with_len_more same 0 cells cells (zero-add cells)) ∙
    list_all-append has (map same (range_with_len 0 cells)) (cells ∷ []) ∙
    (rw (list_all-map has same (range_with_len 0 cells), and-true (has cells)) refl)

pub region_numbers-more : (cells number : ℕ) (regions : List RegionRecord) → region_in regions cells ≡ Some number →
    region_numbers (cells + 1) regions ≡ region_numbers cells regions ++ number ∷ []
region_numbers-more cells number regions here =
    map-range_with_len_more (λ cell. unwrap_or (region_in regions cell) 0) 0 cells cells (zero-add cells) ∙
    ap (λ o. region_numbers cells regions ++ unwrap_or o 0 ∷ []) here

-- one cell without a region settles it
pub all_have_regions-not : (cell cells : ℕ) (regions : List RegionRecord) → cell < cells → region_in regions cell ≡ None →
    all_have_regions cells regions ≡ false
all_have_regions-not cell cells regions within none =
    let has : ℕ → Bool = λ i. is_some (region_in regions i) in
    let place : get_or (range_with_len 0 cells) cell 0 ≡ cell = get_or-range_with_len 0 cells cell 0 within ∙ zero-add cell in
    list_all_at has (range_with_len 0 cells) cell 0 (omega (arith, length-range_with_len 0 cells))
    (rw place (rw none refl))

-- the region of a cell after one record more
pub region_in-push : (regions : List RegionRecord) (cell number i : ℕ) → region_in regions cell ≡ None →
    (if i == cell then Some number else region_in regions i) ≡ region_in (regions ++ record { cell = cell; number = number } ∷ []) i
region_in-push regions cell number i none = elim (cases_eq i cell) [
  | inl same ↦
      let here : (cell == cell) ≡ true = eq-eqb cell cell refl in
      let missing = no_number (find (λ region. region.cell == cell) regions) none in
      rw (same, here, find-append, missing, here) refl
  | inr other ↦
      let apart : (i == cell) ≡ false = ne_eqb i cell other in
      let apart_back : (cell == i) ≡ false = ne_eqb cell i (λ same. other (sym same)) in
      rw (apart, find-append, apart_back) (last_none (find (λ region. region.cell == i) regions))
]
  where
    no_number : (o : Option RegionRecord) → option_map (λ region. region.number) o ≡ None → o ≡ None
    no_number None none = refl
    no_number (Some region) none = cc

    last_none : (o : Option RegionRecord) → option_map (λ region. region.number) o ≡ option_map (λ region. region.number) (option_or o None)
    last_none None = refl
    last_none (Some region) = refl
