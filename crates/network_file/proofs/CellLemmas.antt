-- Where names stand in a list of cells that grows.
use Rattle.std.proofs.Common.{ℕ, suc, ◌≡◌, ◌<◌, ◌≤◌, ◌+◌, Bool, true, false, List, [], ◌∷◌, ◌++◌, Option, Some, None, cond, sym, ◌∙◌, refl, subst, length, arith, length-append, eqb, map}
use Rattle.std.specs.Prelude.{IfSome, bytes_eq, position, nat_lt, not}
use borrow.Author.Tests.{ltb-true}
use Rattle.std.specs.Cmp.Lexicographic.{bytes_decides, nat_list_eq_equiv}
use Rattle.std.specs.List.{list_any, position_or_len}
use Rattle.std.proofs.lemmas.List.Folds.{position_or_len_push}
use Rattle.std.proofs.lemmas.List.Sums.{prefix_len-le-length}
use Rattle.std.proofs.lemmas.Bool.Decides.{nat_tests}
use Rattle.network_file.specs.declared.cell.Cell.{Cell}
use Rattle.network_file.specs.Cells.{cell_named}

-- the first of n places that passes
abbrev place : ℕ → ℕ → Option ℕ
place q n = cond (nat_lt q n) (Some q) None

place-other : (q n : ℕ) → q ≤ n → place (cond (eqb q n) (n + 1) q) (n + 1) ≡ place q n
place-other q n h = grind (arith, nat_tests)

place-new : (q n : ℕ) → q ≤ n → place q n ≡ None → place (cond (eqb q n) (n + 0) q) (n + 1) ≡ Some n
place-new q n h e = grind (arith, nat_tests)

position-push : {X : Type 0} (p : X → Bool) (xs : List X) (x : X)
    → position p (xs ++ x ∷ []) ≡ place (cond (eqb (position_or_len p xs) (length xs)) (length xs + cond (p x) 0 1) (position_or_len p xs)) (length xs + 1)
position-push p xs x = rw (position_or_len_push p xs x, length-append xs (x ∷ [])) refl

-- the new cell's number is found under its name, and under each other name what was there
pub cell_named-push : (cells : List Cell) (cell : Cell) → cell_named cells cell.name ≡ None
    → (name : List ℕ) → cond (bytes_eq cell.name name) (Some (length cells)) (cell_named cells name) ≡ cell_named (cells ++ cell ∷ []) name
unfolding cell_named
cell_named-push cells cell fresh name = by (bytes_eq cell.name name) refl
  where
    named : List ℕ → Cell → Bool
    named = λ n c. bytes_eq c.name n

    by : (b : Bool) → bytes_eq cell.name name ≡ b
        → cond b (Some (length cells)) (position (λ c. bytes_eq c.name name) cells) ≡ position (λ c. bytes_eq c.name name) (cells ++ cell ∷ [])
    by true e =
        let same : cell.name ≡ name = (bytes_decides cell.name name).0 e in
        let none : position (λ c. bytes_eq c.name name) cells ≡ None = subst (λ n. position (λ c. bytes_eq c.name n) cells ≡ None) same fresh in
        let least = prefix_len-le-length (λ c. not (bytes_eq c.name name)) cells in
        sym (position-push (λ c. bytes_eq c.name name) cells cell ∙ rw e (place-new _ (length cells) least none))
    by false e =
        let least = prefix_len-le-length (λ c. not (bytes_eq c.name name)) cells in
        sym (position-push (λ c. bytes_eq c.name name) cells cell ∙ rw e (place-other _ (length cells) least))

place-there : (q n : ℕ) → IfSome (place q n) (λ i. i < n)
place-there q n = by (nat_lt q n) refl
  where
    by : (b : Bool) → nat_lt q n ≡ b → IfSome (cond b (Some q) None) (λ i. i < n)
    by true e = ltb-true q n e
    by false e = tt

-- a number that is found is that of a cell
pub cell_named-there : (cells : List Cell) (name : List ℕ) → IfSome (cell_named cells name) (λ i. i < length cells)
unfolding cell_named
cell_named-there cells name = place-there (position_or_len (λ c. bytes_eq c.name name) cells) (length cells)

place-before : (q n : ℕ) → place (1 + q) (suc n) ≡ None → place q n ≡ None
place-before q n none = grind (arith, nat_tests)

place-first : (n : ℕ) → place 0 (suc n) ≡ Some 0
place-first n = grind (arith, nat_tests)

-- where no element is found the first one isn't it, and none of the others is found
position-none : {X : Type 0} (p : X → Bool) (x : X) (xs : List X) → position p (x ∷ xs) ≡ None → (p x ≡ false) × (position p xs ≡ None)
position-none p x xs none = by (p x) refl
  where
    by : (b : Bool) → p x ≡ b → (p x ≡ false) × (position p xs ≡ None)
    by true e = cc (place-first (length xs), rw e at none)
    by false e = (e, place-before (position_or_len p xs) (length xs) (rw e at none))

-- a name that no cell has is none of their names
pub no_name : (cells : List Cell) (name : List ℕ) → cell_named cells name ≡ None → list_any (bytes_eq name) (map (λ c. c.name) cells) ≡ false
unfolding cell_named
no_name [] name none = refl
no_name (cell ∷ cells) name none =
    let (other, more) = position-none (λ c. bytes_eq c.name name) cell cells none in
    rw (nat_list_eq_equiv.symm name cell.name ∙ other) (no_name cells name more)
