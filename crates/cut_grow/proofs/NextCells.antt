-- The next cell of a walk: beside the first open cell, or the least that is missing.
use Rattle.std.specs.Prelude.{find, slice_get}
use Rattle.std.specs.List.{list_any, position_or_len}
use Rattle.std.specs.Option.{option_map_or}
use Rattle.std.proofs.Common.{◌≡◌, ℕ, ◌<◌, Bool, true, false, List, Some, None, Option, length, get_or, sym, ap, subst, ◌∙◌, arith}
use Rattle.std.proofs.lemmas.List.{get_or_default}
use Rattle.std.proofs.lemmas.List.FromFn.{length-range_with_len}
use Rattle.std.proofs.lemmas.List.Folds.{find_at, list_any_none}
use Rattle.std.proofs.lemmas.List.Sums.{position_or_len_is}
use Rattle.std.proofs.lemmas.Option.{slice_get-get_or, slice_get_past}
use Rattle.network_file.specs.Network.{Network}
use Rattle.region_cut.proofs.Anys.{finds}
use Rattle.region_cut.proofs.Ranges.{range-Contains}
use Rattle.cut_grow.specs.Least.{IsLeast}
use Rattle.cut_grow.specs.Walk.{file_order, is_missing, is_missing_beside, next_of}
use Rattle.cut_grow.proofs.Leasts.{least-position, range-at}

-- the least cell that passes a test, or the number of cells where none does
abbrev least_cell : Network → (test : ℕ → Bool) → ℕ
least_cell net test = position_or_len test (file_order net)

-- cell x shares a connector with a missing cell
abbrev pub is_open : Network → (walk : List ℕ) → (x : ℕ) → Bool
is_open net walk x = list_any (is_missing_beside net walk x) (file_order net)

-- whether a cell is open, by the cells below the number of cells
pub closed-from : (net : Network) (walk : List ℕ) (x : ℕ) → ((i : ℕ) → i < length net.cells → is_missing_beside net walk x i ≡ false) → is_open net walk x ≡ false
closed-from net walk x none =
    list_any_none (is_missing_beside net walk x) (file_order net) (λ k d within.
    let below : k < length net.cells = omega (arith, length-range_with_len 0 (length net.cells)) in
    let is : get_or (file_order net) k d ≡ k = get_or_default (file_order net) k d 0 within ∙ range-at (length net.cells) k below in
    subst (λ i. is_missing_beside net walk x i ≡ false) (sym is) (none k below))

pub open-from : (net : Network) (walk : List ℕ) (x i : ℕ) → i < length net.cells → is_missing_beside net walk x i ≡ true → is_open net walk x ≡ true
open-from net walk x i within passes = finds (is_missing_beside net walk x) (file_order net) i (range-Contains (length net.cells) i within) passes

-- the next cell, by the first open cell
next-by : (net : Network) (walk : List ℕ) (first : Option ℕ) → find (is_open net walk) walk ≡ first →
    next_of net walk ≡ option_map_or (λ x. least_cell net (is_missing_beside net walk x)) first (least_cell net (is_missing walk))
unfolding next_of
next-by net walk first is = ap (λ o. option_map_or (λ x. least_cell net (is_missing_beside net walk x)) o (least_cell net (is_missing walk))) is

pub next-beside : (net : Network) (walk : List ℕ) (place next : ℕ) → place < length walk →
    ((k : ℕ) → k < place → is_open net walk (get_or walk k 0) ≡ false) → is_open net walk (get_or walk place 0) ≡ true →
    IsLeast (length net.cells) (is_missing_beside net walk (get_or walk place 0)) next → next_of net walk ≡ next
next-beside net walk place next within closed opens least =
    let first : position_or_len (is_open net walk) walk ≡ place = position_or_len_is (is_open net walk) walk place 0 (omega arith) closed (λ _. opens) in
    let here : find (is_open net walk) walk ≡ Some (get_or walk place 0) =
    find_at (is_open net walk) walk ∙ ap (slice_get walk) first ∙ slice_get-get_or walk place 0 within in
    next-by net walk (Some (get_or walk place 0)) here ∙ least-position (length net.cells) (is_missing_beside net walk (get_or walk place 0)) next least

pub next-lowest : (net : Network) (walk : List ℕ) (next : ℕ) → ((k : ℕ) → k < length walk → is_open net walk (get_or walk k 0) ≡ false) →
    IsLeast (length net.cells) (is_missing walk) next → next_of net walk ≡ next
next-lowest net walk next closed least =
    let none : position_or_len (is_open net walk) walk ≡ length walk =
    position_or_len_is (is_open net walk) walk (length walk) 0 (omega arith) closed (λ past. absurd (omega arith)) in
    let here : find (is_open net walk) walk ≡ None =
    find_at (is_open net walk) walk ∙ ap (slice_get walk) none ∙ slice_get_past walk (length walk) (omega arith) in
    next-by net walk None here ∙ least-position (length net.cells) (is_missing walk) next least
