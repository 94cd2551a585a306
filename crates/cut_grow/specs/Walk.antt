-- The walk: all cells of a network in an order in which each follows a cell that it shares a connector with, where it can.
use Rattle.std.specs.Prelude.{ℕ, zero, suc, Bool, not, eqb, ◌&&◌, List, [], ◌∷◌, ◌++◌, length, find}
use Rattle.std.specs.List.{list_any, position_or_len, range_with_len}
use Rattle.std.specs.Option.{option_map_or}
use Rattle.network_file.specs.Connectors.{are_joined}
use Rattle.network_file.specs.Network.{Network}

-- the cells in the order of the file
abbrev pub file_order : Network → List ℕ
file_order net = range_with_len 0 (length net.cells)

-- cell i is missing in the walk so far
abbrev pub is_missing : (walk : List ℕ) → (i : ℕ) → Bool
is_missing walk i = not (list_any (eqb i) walk)

-- cell i is missing, and shares a connector with cell x
abbrev pub is_missing_beside : Network → (walk : List ℕ) → (x i : ℕ) → Bool
is_missing_beside net walk x i = is_missing walk i && are_joined net.connectors x i

-- the cell that is added: the least missing one that shares a connector with the first cell of the walk that shares one with a
-- missing cell; where there is no such cell in the walk, the least missing one
unfoldable pub next_of : Network → (walk : List ℕ) → ℕ
next_of net walk =
    let least = λ (test : ℕ → Bool). position_or_len test (file_order net) in
    let is_open = λ (x : ℕ). list_any (is_missing_beside net walk x) (file_order net) in
    option_map_or (λ x. least (is_missing_beside net walk x)) (find is_open walk) (least (is_missing walk))

-- the first n cells of the walk, which has as many as the network; the first of all is cell 0
unfoldable pub walk_to : Network → (n : ℕ) → List ℕ
walk_to net zero = []
walk_to net (suc n) = walk_to net n ++ next_of net (walk_to net n) ∷ []
