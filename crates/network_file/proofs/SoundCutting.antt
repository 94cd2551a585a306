-- The cutting that the region records of a sound draft make.
use Rattle.std.specs.Prelude.{All, not, unwrap_or, ◌==◌, if◌then◌else◌}
use Rattle.std.proofs.Common.{◌≡◌, ℕ, Bool, true, false, List, [], ◌∷◌, ◌<◌, inl, inr, ◌⊎◌, Ok, Err, length, zero-add, arith, refl}
use Rattle.std.proofs.lemmas.Bool.{cases_Bool}
use Rattle.std.proofs.lemmas.List.Elements.{All-head, All-tail, All-weaker}
use Rattle.std.proofs.lemmas.List.FromFn.{length-map-range_with_len, get_or-map-range_with_len}
use Rattle.record_fields.specs.Regions.{all_have_regions, region_in, region_numbers}
use Rattle.record_fields.specs.declared.code.Code.TheVariants.{NoRegion, RegionGap}
use Rattle.record_fields.specs.declared.region_record.RegionRecord.{RegionRecord}
use Rattle.network_file.specs.Cutting.{has_no_gap, IsCutting}
use Rattle.network_file.specs.Draft.{Draft}
use Rattle.network_file.specs.Limits.{most_regions}
use Rattle.network_file.specs.Reading.{cutting_of_draft}

region_in-few : (regions : List RegionRecord) (cell : ℕ) → All (λ region. region.number < most_regions) regions →
    unwrap_or (region_in regions cell) 0 < most_regions
region_in-few [] cell few = omega arith
region_in-few (region ∷ regions) cell few = elim (cases_Bool (region.cell == cell)) [
  | inl own ↦ rw own (All-head (λ r. r.number < most_regions) region regions few)
  | inr other ↦ rw other (region_in-few regions cell (All-tail (λ r. r.number < most_regions) region regions few))
]

region_numbers-few : (cells : ℕ) (regions : List RegionRecord) → All (λ region. region.number < most_regions) regions →
    All (λ number. number < most_regions) (region_numbers cells regions)
region_numbers-few cells regions few = λ k d within.
    let number : ℕ → ℕ = λ cell. unwrap_or (region_in regions cell) 0 in
    let inside : k < cells = omega (arith, length-map-range_with_len number 0 cells) in
    rw (get_or-map-range_with_len number 0 cells k k d inside (zero-add k)) (region_in-few regions k few)

-- the three tests of a draft's region records, in order
chosen : (none all whole : Bool) (numbers regions : List ℕ) →
    (if none then Ok [] else if not all then Err NoRegion else if not whole then Err RegionGap else Ok numbers) ≡ Ok regions →
    (regions ≡ []) ⊎ ((whole ≡ true) × (numbers ≡ regions))
chosen true all whole numbers regions is = inl cc
chosen false false whole numbers regions is = cc
chosen false true false numbers regions is = cc
chosen false true true numbers regions is = inr (refl, cc)

pub draft-cutting : (draft : Draft) (regions : List ℕ) →
    All (λ region. (region.cell < length draft.cells) × (region.number < most_regions)) draft.regions →
    cutting_of_draft draft ≡ Ok regions → (regions ≡ []) ⊎ IsCutting (length draft.cells) regions
unfolding cutting_of_draft
draft-cutting draft regions sound is =
    let cells : ℕ = length draft.cells in
    let numbers : List ℕ = region_numbers cells draft.regions in
    let few = All-weaker (λ (region : RegionRecord). (region.cell < cells) × (region.number < most_regions)) (λ region. region.number < most_regions)
    (λ region both. both.1) draft.regions sound in
    elim (chosen (length draft.regions == 0) (all_have_regions cells draft.regions) (has_no_gap numbers) numbers regions is) [
      | inl none ↦ inl none
      | inr made ↦ inr (rw (← made.1) (record {
        one_each = length-map-range_with_len (λ cell. unwrap_or (region_in draft.regions cell) 0) 0 cells;
        few = region_numbers-few cells draft.regions few;
        no_gap = made.0;
      }))
    ]

-- without region records there are no regions
pub draft-uncut : (draft : Draft) (regions : List ℕ) → draft.regions ≡ [] → cutting_of_draft draft ≡ Ok regions → regions ≡ []
unfolding cutting_of_draft
draft-uncut draft regions none is = cc (rw none at is)
