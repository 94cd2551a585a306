-- The cutting that row lines give, from the tests that are made of them.
use Rattle.std.specs.Prelude.{Ok, Err, map, nat_lt, option_and_then}
use Rattle.std.specs.List.{list_all}
use Rattle.std.specs.Result.{result_ok}
use Rattle.std.proofs.Common.{◌≡◌, ◌≢◌, ◌<◌, ◌≤◌, ◌==◌, ℕ, arith, get_or, cond, false, inl, inr, List, length, Option, Some, None, ap, ◌∙◌}
use Rattle.std.proofs.lemmas.Bool.{cases_eq, eq-eqb, ne_eqb}
use Rattle.std.proofs.lemmas.Bool.Decides.{nat_tests}
use Rattle.std.proofs.lemmas.List.{get_or-map, length-map}
use Rattle.std.proofs.lemmas.List.Folds.{list_all_at}
use Rattle.network_file.specs.Limits.{most_regions}
use Rattle.network_file.specs.Network.{Network}
use Rattle.region_cut.specs.CutFaults.{cut_of}
use Rattle.region_cut.specs.Cuttings.{region_count}
use Rattle.region_cut.specs.declared.fault.CutFault.{CutFault}
use Rattle.region_cut.proofs.CutFaults.{cut_of-Length, cut_of-Many}
use Rattle.saved_run.specs.Content.{Content}
use Rattle.saved_run.specs.Loading.{cutting_in}
use Rattle.saved_run.specs.declared.row_line.RowLine.{RowLine}

-- the region of each cell
abbrev pub regions_in : List RowLine → List ℕ
regions_in rows = map (λ line. line.region) rows

-- a cutting, where it has so many regions
abbrev of_regions : (count : ℕ) → Option (List ℕ) → Option (List ℕ)
of_regions count found = option_and_then (λ cut. cond (region_count cut == count) (Some cut) None) found

pub cutting_in-Err : (net : Network) (content : Content) (fault : CutFault) → cut_of net (regions_in content.rows) ≡ Err fault → cutting_in net content ≡ None
unfolding cutting_in
cutting_in-Err net content fault none = ap (λ found. of_regions (length content.steps) (result_ok found)) none

pub cutting_in-other : (net : Network) (content : Content) → list_all (λ region. nat_lt region most_regions) (regions_in content.rows) ≡ false → cutting_in net content ≡ None
cutting_in-other net content other = elim (cases_eq (length (regions_in content.rows)) (length net.cells)) [
  | inl same ↦ cutting_in-Err net content _ (cut_of-Many net (regions_in content.rows) same other)
  | inr differ ↦ cutting_in-Err net content _ (cut_of-Length net (regions_in content.rows) differ)
]

pub cutting_in-Ok : (net : Network) (content : Content) (cut : List ℕ) → cut_of net (regions_in content.rows) ≡ Ok cut → region_count cut ≡ length content.steps → cutting_in net content ≡ Some cut
unfolding cutting_in
cutting_in-Ok net content cut is same =
    ap (λ found. of_regions (length content.steps) (result_ok found)) is ∙ ap (λ t. cond t (Some cut) None) (eq-eqb (region_count cut) (length content.steps) same)

pub cutting_in-few : (net : Network) (content : Content) (cut : List ℕ) → cut_of net (regions_in content.rows) ≡ Ok cut → region_count cut ≢ length content.steps → cutting_in net content ≡ None
unfolding cutting_in
cutting_in-few net content cut is differ =
    ap (λ found. of_regions (length content.steps) (result_ok found)) is ∙ ap (λ t. cond t (Some cut) None) (ne_eqb (region_count cut) (length content.steps) differ)

-- a number that no region has
pub no_region : (rows : List RowLine) (i : ℕ) (d : RowLine) → i < length rows → most_regions ≤ (get_or rows i d).region → list_all (λ region. nat_lt region most_regions) (regions_in rows) ≡ false
no_region rows i d within great =
    let here : get_or (regions_in rows) i 0 ≡ (get_or rows i d).region = get_or-map (λ line. line.region) rows i d 0 within in
    let test : nat_lt (get_or (regions_in rows) i 0) most_regions ≡ false = grind (arith, nat_tests, here, great) in
    list_all_at (λ region. nat_lt region most_regions) (regions_in rows) i 0 (omega (arith, within, length-map rows (λ line. line.region))) test
