-- Where a chain of an index leads, and what one more cell adds to it.
use Rattle.std.proofs.Common.{ℕ, ◌≡◌, ◌≢◌, ◌<◌, ◌≤◌, ◌+◌, ◌-◌, ◌∙◌, Bool, true, false, List, [], ◌∷◌, ◌++◌, None, Some, ap, arith, eqb, get_or, length, map, refl, set, sym, subst, take}
use Rattle.std.specs.Prelude.{bytes_eq, nat_lt, slice_index}
use borrow.Author.Tests.{ltb-true}
use Rattle.std.specs.Cmp.Lexicographic.{bytes_decides}
use Rattle.std.specs.List.{position_or_len}
use Rattle.std.proofs.Math.Seq.{get_or-append_seam}
use Rattle.std.proofs.lemmas.List.{get_or-map, get_or-take, length-map, length-take-le, map-append, take-map, get_or-set_other, get_or-set_same, get_or_append_left}
use Rattle.std.proofs.lemmas.List.Sums.{position_or_len_is}
use Rattle.std.proofs.lemmas.Bool.{eqb-false, eqb-true, ltb-false}
use Rattle.std.proofs.lemmas.Bool.Decides.{nat_tests}
use Rattle.network_file.specs.declared.cell.Cell.{Cell}
use Rattle.network_file.specs.Cells.{cell_named, name_at}
use Rattle.network_file.specs.NameIndexing.{IsChainEnd}
use Rattle.network_file.proofs.CellLemmas.{cell_named-push}

-- names in different buckets differ
pub other_name : (bucket : List ℕ → ℕ) (a b : List ℕ) → bucket a ≢ bucket b → bytes_eq a b ≡ false
other_name bucket a b apart = by (bytes_eq a b) refl
  where
    by : (t : Bool) → bytes_eq a b ≡ t → t ≡ false
    by true e = absurd (apart (ap bucket ((bytes_decides a b).0 e)))
    by false e = refl

-- what a name differs from, one cell further down its chain
pub passed-earlier : (bucket : List ℕ → ℕ) (names : ℕ → List ℕ) (n end more : ℕ) (name : List ℕ)
    → 0 < end
    → bucket (names (end - 1)) ≡ bucket name
    → IsChainEnd (λ i. bucket (names i)) (end - 1) (bucket (names (end - 1))) more
    → bytes_eq (names (end - 1)) name ≡ false
    → ((i : ℕ) → end ≤ i → i < n → bytes_eq (names i) name ≡ false)
    → (i : ℕ) → more ≤ i → i < n → bytes_eq (names i) name ≡ false
passed-earlier bucket names n end more name some own chain here passed i low high =
    let before : i < end - 1 → bytes_eq (names i) name ≡ false = λ h. other_name bucket (names i) name (λ e. chain.last i low h (e ∙ sym own)) in
    grind (arith, before, passed i, here)

-- where no cell has a name, it is that of none
pub cell_named-none : (cells : List Cell) (name : List ℕ) → ((i : ℕ) → i < length cells → bytes_eq (name_at cells i) name ≡ false) → cell_named cells name ≡ None
unfolding cell_named
cell_named-none [] name none = refl
cell_named-none (first ∷ cells) name none =
    let all = first ∷ cells in
    let none_before : (k : ℕ) → k < length all → bytes_eq (get_or all k first).name name ≡ false =
    λ k h. subst (λ n. bytes_eq n name ≡ false) (get_or-map (λ c. c.name) all k first [] h) (none k h) in
    let last : position_or_len (λ c. bytes_eq c.name name) all ≡ length all =
    position_or_len_is (λ c. bytes_eq c.name name) all (length all) first (omega arith) none_before (λ h. absurd (omega arith)) in
    rw last (grind (arith, nat_tests))

-- the names of the cells, with one more cell
name_at-before : (cells : List Cell) (cell : Cell) (i : ℕ) → i < length cells → name_at (cells ++ cell ∷ []) i ≡ name_at cells i
name_at-before cells cell i h =
    rw (map-append (λ c. c.name) cells (cell ∷ [])) (get_or_append_left (map (λ c. c.name) cells) (cell.name ∷ []) [] i (rw (length-map cells (λ c. c.name)) h))

name_at-last : (cells : List Cell) (cell : Cell) → name_at (cells ++ cell ∷ []) (length cells) ≡ cell.name
name_at-last cells cell =
    rw (map-append (λ c. c.name) cells (cell ∷ []), ← length-map cells (λ c. c.name)) (get_or-append_seam (map (λ c. c.name) cells) cell.name [] [])

-- a chain is as long among more cells
chain-kept : (bucket : List ℕ → ℕ) (cells : List Cell) (cell : Cell) (n own end : ℕ) → n ≤ length cells
    → IsChainEnd (λ i. bucket (name_at cells i)) n own end → IsChainEnd (λ i. bucket (name_at (cells ++ cell ∷ []) i)) n own end
chain-kept bucket cells cell n own end few chain = record {
  within = chain.within;
  own = λ h. ap bucket (name_at-before cells cell (end - 1) (omega (arith, chain.within))) ∙ chain.own h;
  last = λ i low high. rw (name_at-before cells cell i (omega arith)) (chain.last i low high);
}

-- the chain of another bucket than the new cell's stays
chain-passed : (bucket : List ℕ → ℕ) (cells : List Cell) (cell : Cell) (own end : ℕ) → bucket cell.name ≢ own
    → IsChainEnd (λ i. bucket (name_at cells i)) (length cells) own end → IsChainEnd (λ i. bucket (name_at (cells ++ cell ∷ []) i)) (length cells + 1) own end
chain-passed bucket cells cell own end other chain =
    let kept = chain-kept bucket cells cell (length cells) own end (omega arith) chain in
    let new : bucket (name_at (cells ++ cell ∷ []) (length cells)) ≢ own = rw (name_at-last cells cell) other in
    record {
      within = omega (arith, kept.within);
      own = kept.own;
      last = λ i low high e. grind (arith, kept.last i low, new, e);
    }

-- the chain of the new cell's bucket ends at that cell
chain-new : (bucket : List ℕ → ℕ) (cells : List Cell) (cell : Cell) (own : ℕ) → bucket cell.name ≡ own
    → IsChainEnd (λ i. bucket (name_at (cells ++ cell ∷ []) i)) (length cells + 1) own (length cells + 1)
chain-new bucket cells cell own same = record {
  within = omega arith;
  own = λ h. let last : length cells + 1 - 1 ≡ length cells = omega arith in rw (last, name_at-last cells cell) same;
  last = λ i low high. absurd (omega arith);
}

pub ends-more : (bucket : List ℕ → ℕ) (cells : List Cell) (cell : Cell) (ends : List ℕ) (last : ℕ) → length ends ≡ last + 1
    → ((own : ℕ) → own ≤ last → IsChainEnd (λ i. bucket (name_at cells i)) (length cells) own (slice_index ends own))
    → (own : ℕ) → own ≤ last
    → IsChainEnd (λ i. bucket (name_at (cells ++ cell ∷ []) i)) (length cells + 1) own (slice_index (set ends (bucket cell.name) (length cells + 1)) own)
ends-more bucket cells cell ends last long chains own h = by (eqb own (bucket cell.name)) refl
  where
    by : (t : Bool) → eqb own (bucket cell.name) ≡ t
        → IsChainEnd (λ i. bucket (name_at (cells ++ cell ∷ []) i)) (length cells + 1) own (slice_index (set ends (bucket cell.name) (length cells + 1)) own)
    by true e =
        let same : own ≡ bucket cell.name = eqb-true own (bucket cell.name) e in
        rw (← same, get_or-set_same ends own (length cells + 1) 0 (omega arith)) (chain-new bucket cells cell own (sym same))
    by false e =
        let other : own ≢ bucket cell.name = eqb-false own (bucket cell.name) e in
        rw (get_or-set_other ends (bucket cell.name) own (length cells + 1) 0 other) (chain-passed bucket cells cell own (slice_index ends own) (λ s. other (sym s)) (chains own h))

pub earlier-more : (bucket : List ℕ → ℕ) (cells : List Cell) (cell : Cell) (earlier : List ℕ) (end : ℕ) → length earlier ≡ length cells
    → ((i : ℕ) → i < length cells → IsChainEnd (λ j. bucket (name_at cells j)) i (bucket (name_at cells i)) (slice_index earlier i))
    → IsChainEnd (λ j. bucket (name_at cells j)) (length cells) (bucket cell.name) end
    → (i : ℕ) → i < length cells + 1
    → IsChainEnd (λ j. bucket (name_at (cells ++ cell ∷ []) j)) i (bucket (name_at (cells ++ cell ∷ []) i)) (slice_index (earlier ++ end ∷ []) i)
earlier-more bucket cells cell earlier end long chains new i h = by (nat_lt i (length cells)) refl
  where
    by : (t : Bool) → nat_lt i (length cells) ≡ t
        → IsChainEnd (λ j. bucket (name_at (cells ++ cell ∷ []) j)) i (bucket (name_at (cells ++ cell ∷ []) i)) (slice_index (earlier ++ end ∷ []) i)
    by true e =
        let before : i < length cells = ltb-true i (length cells) e in
        rw (name_at-before cells cell i before, get_or_append_left earlier (end ∷ []) 0 i (omega arith))
        (chain-kept bucket cells cell i (bucket (name_at cells i)) (slice_index earlier i) (omega arith) (chains i before))
    by false e =
        let last : i ≡ length cells = omega (arith, ltb-false i (length cells) e) in
        rw (last, name_at-last cells cell, ← long, get_or-append_seam earlier end [] 0)
        (rw long (chain-kept bucket cells cell (length cells) (bucket cell.name) end (omega arith) new))

-- each cell is still found under its name, and so is a new one whose name no other has
pub apart-more : (cells : List Cell) (cell : Cell) → cell_named cells cell.name ≡ None
    → ((i : ℕ) → i < length cells → cell_named cells (name_at cells i) ≡ Some i)
    → (i : ℕ) → i < length cells + 1 → cell_named (cells ++ cell ∷ []) (name_at (cells ++ cell ∷ []) i) ≡ Some i
apart-more cells cell fresh apart i h = by (nat_lt i (length cells)) refl
  where
    all : List Cell
    all = cells ++ cell ∷ []

    other : (name : List ℕ) → cell_named cells name ≡ Some i → bytes_eq cell.name name ≡ false
    other name found = of (bytes_eq cell.name name) refl
      where
        of : (t : Bool) → bytes_eq cell.name name ≡ t → t ≡ false
        of true e = let same : cell.name ≡ name = (bytes_decides cell.name name).0 e in cc (subst (λ n. cell_named cells n ≡ None) same fresh, found)
        of false e = refl

    by : (t : Bool) → nat_lt i (length cells) ≡ t → cell_named all (name_at all i) ≡ Some i
    by true e =
        let before : i < length cells = ltb-true i (length cells) e in
        let found = apart i before in
        rw (name_at-before cells cell i before, ← cell_named-push cells cell fresh (name_at cells i), other (name_at cells i) found) found
    by false e =
        let last : i ≡ length cells = omega (arith, ltb-false i (length cells) e) in
        rw (last, name_at-last cells cell, ← cell_named-push cells cell fresh cell.name, (bytes_decides cell.name cell.name).1 refl) refl

-- where each cell is found under its name, names of different cells differ
names-differ : (cells : List Cell) (k i : ℕ) → k < i → cell_named cells (name_at cells k) ≡ Some k → cell_named cells (name_at cells i) ≡ Some i
    → bytes_eq (name_at cells k) (name_at cells i) ≡ false
names-differ cells k i before one other = by (bytes_eq (name_at cells k) (name_at cells i)) refl
  where
    by : (t : Bool) → bytes_eq (name_at cells k) (name_at cells i) ≡ t → t ≡ false
    by true e =
        let same : name_at cells k ≡ name_at cells i = (bytes_decides (name_at cells k) (name_at cells i)).0 e in
        let found : Some k ≡ Some i = sym one ∙ ap (cell_named cells) same ∙ other in
        grind (arith, found, before)
    by false e = refl

-- taken in turn, each cell has a name that none before it has
pub fresh-in_turn : (cells : List Cell) (i : ℕ) → i < length cells
    → ((k : ℕ) → k < length cells → cell_named cells (name_at cells k) ≡ Some k)
    → cell_named (take i cells) (name_at cells i) ≡ None
fresh-in_turn cells i within apart = cell_named-none (take i cells) (name_at cells i) other
  where
    other : (k : ℕ) → k < length (take i cells) → bytes_eq (name_at (take i cells) k) (name_at cells i) ≡ false
    other k h =
        let before : k < i = omega (arith, h, length-take-le i cells (omega arith)) in
        rw (← take-map (λ c. c.name) i cells, get_or-take i (map (λ c. c.name) cells) k [] before)
        (names-differ cells k i before (apart k (omega arith)) (apart i within))
