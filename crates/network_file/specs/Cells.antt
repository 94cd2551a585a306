-- The list of cells in the order of their records: where a name stands in it, and of which kind a cell is.
use Rattle.std.specs.Prelude.{ℕ, Bool, true, false, List, [], Option, map, position, slice_get, slice_index_or, bytes_eq}
use Rattle.std.specs.Option.{option_map_or}
use Rattle.network_file.specs.declared.cell.Kind.{Kind}
use Rattle.network_file.specs.declared.cell.Kind.TheVariants.{Road, Gate, Exit}
use Rattle.network_file.specs.declared.cell.Cell.{Cell}

-- the number of the cell of this name
unfoldable pub cell_named : List Cell → List ℕ → Option ℕ
cell_named cells name = position (λ c. bytes_eq c.name name) cells

-- the name of the cell of this number
abbrev pub name_at : List Cell → (i : ℕ) → List ℕ
name_at cells i = slice_index_or (map (λ c. c.name) cells) i []

abbrev pub is_road : Kind → Bool
is_road (Road room num den) = true
is_road Gate = false
is_road Exit = false

abbrev pub is_gate : Kind → Bool
is_gate (Road room num den) = false
is_gate Gate = true
is_gate Exit = false

abbrev pub is_exit : Kind → Bool
is_exit (Road room num den) = false
is_exit Gate = false
is_exit Exit = true

-- whether the cell of this number is a road
abbrev pub is_road_at : List Cell → ℕ → Bool
is_road_at cells i = option_map_or (λ c. is_road c.kind) (slice_get cells i) false

-- whether the cell of this number is a gate
abbrev pub is_gate_at : List Cell → ℕ → Bool
is_gate_at cells i = option_map_or (λ c. is_gate c.kind) (slice_get cells i) false

-- whether the cell of this number is an exit
abbrev pub is_exit_at : List Cell → ℕ → Bool
is_exit_at cells i = option_map_or (λ c. is_exit c.kind) (slice_get cells i) false
