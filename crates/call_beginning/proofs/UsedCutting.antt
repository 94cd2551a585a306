-- The cutting of a request that is in range cuts the cells of its network.
use Rattle.std.specs.Prelude.{if◌then◌else◌, min, nat_le, nat_lt, ◌||◌}
use Rattle.std.proofs.Common.{◌≡◌, ℕ, ◌*◌, ◌/◌, ◌≤◌, Bool, true, false, inl, inr, List, length, refl, subst, sym, arith}
use Rattle.std.proofs.lemmas.Bool.{cases_eq, ltb-false, or_parts}
use Rattle.std.proofs.lemmas.Nat.{le-div}
use Rattle.command_words.specs.Values.{AreRegions}
use Rattle.command_words.specs.Words.{IsInRange}
use Rattle.command_words.specs.declared.cut_kind.CutKind.{CutKind}
use Rattle.command_words.specs.declared.cut_kind.CutKind.TheVariants.{Even, Grown}
use Rattle.command_words.specs.declared.region_choice.RegionChoice.{RegionChoice}
use Rattle.command_words.specs.declared.region_choice.RegionChoice.TheVariants.{Auto, Count}
use Rattle.command_words.specs.declared.request.Request.{Request}
use Rattle.network_file.specs.Cutting.{IsCutting}
use Rattle.network_file.specs.Limits.{most_regions}
use Rattle.network_file.specs.Network.{Network}
use Rattle.network_file.specs.Sound.{IsNetwork}
use Rattle.region_cut.specs.Cuttings.{even_cutting}
use Rattle.region_cut.proofs.Cuttings.{own-cutting}
use Rattle.region_cut.proofs.EvenCutting.{even_cutting-IsCutting, length-even_cutting}
use Rattle.call_beginning.specs.UsedCutting.{IsCuttingBy, IsCuttingOf, regions_asked}
use Rattle.call_beginning.specs.UsedRegions.{regions_by}

-- a number of regions that a cutting may have
abbrev pub IsSome : (regions : ℕ) → Type 0
IsSome regions = (1 ≤ regions) × (regions ≤ most_regions)

chosen-some : (cells workers : ℕ) → (1 ≤ workers) × (workers ≤ 16) → IsSome (regions_by cells workers Auto)
chosen-some cells workers few = by (nat_le workers 1 || nat_lt cells 10_000) refl
  where
    by : (one : Bool) → (nat_le workers 1 || nat_lt cells 10_000) ≡ one → IsSome (if one then 1 else min (8 * workers) (cells / 128))
    by true is = (omega arith, omega arith)
    by false is =
        let many : 10_000 ≤ cells = omega (arith, ltb-false cells 10_000 (or_parts (nat_le workers 1) (nat_lt cells 10_000) is).1) in
        let part : 1 ≤ cells / 128 = le-div 1 cells 128 (omega arith) (omega (arith, many)) in
        (omega (arith, part, few.0), omega (arith, few.1))

wanted-some : (cells workers : ℕ) (choice : RegionChoice) → (1 ≤ workers) × (workers ≤ 16) → AreRegions choice → IsSome (regions_by cells workers choice)
wanted-some cells workers Auto few in_range = chosen-some cells workers few
wanted-some cells workers (Count regions) few in_range = in_range

cutting-by : (kind : CutKind) (net : Network) (k : ℕ) (cut : List ℕ) → IsSome k → k ≤ length net.cells → IsCuttingBy kind net k cut → IsCutting (length net.cells) cut
cutting-by Even net k cut some enough is =
    subst (IsCutting (length net.cells)) (sym is)
    (subst (λ cells. IsCutting cells (even_cutting (length net.cells) k)) (length-even_cutting (length net.cells) k)
    (even_cutting-IsCutting (length net.cells) k some.0 some.1 enough))
cutting-by Grown net k cut some enough is = elim is.candidate [ inl in_file ↦ in_file.cutting | inr in_walk ↦ in_walk.cutting ]

-- how many regions a request asks for that is in range
pub asked-some : (net : Network) (request : Request) → IsNetwork net → IsInRange request → IsSome (regions_asked net request)
asked-some net request sound in_range =
    let wanted = wanted-some (length net.cells) request.workers request.regions in_range.workers in_range.regions in
    (omega (arith, wanted.0, sound.some_cells), omega (arith, wanted.1))

pub cutting-used : (net : Network) (request : Request) (cut : List ℕ) → IsNetwork net → IsInRange request → IsCuttingOf net request cut → IsCutting (length net.cells) cut
cutting-used net request cut sound in_range used = elim (cases_eq (length net.regions) 0) [
  | inl none ↦ cutting-by request.cut net (regions_asked net request) cut (asked-some net request sound in_range) (omega arith) (used.asked none)
  | inr own ↦ subst (IsCutting (length net.cells)) (sym (used.own own)) (own-cutting net sound own)
]
