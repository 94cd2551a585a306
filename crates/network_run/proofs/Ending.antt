-- Regions that are all at one step.
use Rattle.std.specs.Prelude.{replicate, slice_index}
use Rattle.std.proofs.Common.{◌≡◌, ℕ, ◌<◌, ◌≤◌, List, length, sym, ◌∙◌, arith}
use Rattle.std.proofs.lemmas.List.{ext_get_or, get_or-replicate, length-replicate}
use Rattle.region_cut.specs.Cuttings.{region_count}

-- steps of all regions, none below this one and none past it
pub all-at : (cut : List ℕ) (steps : List ℕ) (goal : ℕ) → length steps ≡ region_count cut → ((r : ℕ) → r < region_count cut → goal ≤ slice_index steps r) →
    ((r : ℕ) → r < region_count cut → slice_index steps r ≤ goal) → steps ≡ replicate (region_count cut) goal
all-at cut steps goal one_each low high =
    ext_get_or 0 steps (replicate (region_count cut) goal) (one_each ∙ sym (length-replicate {A = ℕ} (region_count cut) goal))
    (λ r within. let inside : r < region_count cut = omega (arith, within, one_each) in
    omega (arith, low r inside, high r inside, get_or-replicate (region_count cut) r goal 0 inside))
