-- An input with plans: how its separators cut it into a base and plans, and the network files that these make.
use Rattle.std.specs.Prelude.{ℕ, Bool, List, [], ◌∷◌, ◌++◌, ◌==◌, ◌||◌, bytes_eq, codes, drop, if◌then◌else◌, map, slice_index_or}
use Rattle.std.specs.List.{concat, onto_first, slice_split}

-- the lines of an input, each with the line feed that ends it; the last may have none
unfoldable pub lines_in : (input : List ℕ) → List (List ℕ)
lines_in [] = []
lines_in (byte ∷ input) = if byte == 10 then (byte ∷ []) ∷ lines_in input else onto_first byte (lines_in input)

-- a line of exactly `==`, ended by a line feed, by a carriage return and a line feed, or by the end of the input
unfoldable pub is_separator : (line : List ℕ) → Bool
is_separator line = bytes_eq line (codes "==\n") || bytes_eq line (codes "==\r\n") || bytes_eq line (codes "==")

-- what stands before, between and after the separators of an input: the base, and then the plans
unfoldable pub pieces_in : (input : List ℕ) → List (List ℕ)
pieces_in input = map concat (slice_split is_separator (lines_in input))

-- the network files of an input's candidates, as many as it has separators: for each plan, in order, the bytes of the base, and
-- behind them those of the plan
abbrev pub candidates_in : (input : List ℕ) → List (List ℕ)
candidates_in input = let pieces = pieces_in input in map (λ plan. slice_index_or pieces 0 [] ++ plan) (drop 1 pieces)
