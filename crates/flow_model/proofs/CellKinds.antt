-- The cell of a number, and its kind.
use Rattle.std.specs.Prelude.{slice_get, All, Option, Some, None}
use Rattle.std.specs.Option.{option_map_or}
use Rattle.std.proofs.Common.{◌≡◌, ℕ, ◌<◌, ◌⊎◌, inl, inr, true, false, List, length, arith, refl, subst}
use Rattle.std.proofs.lemmas.Option.{slice_get_cases, slice_get_within, get_or_from_slice_get}
use Rattle.network_file.specs.Cells.{is_road, is_gate, is_exit, is_gate_at, is_exit_at, is_road_at}
use Rattle.network_file.specs.Sound.{IsSoundKind}
use Rattle.network_file.specs.declared.cell.Cell.{Cell}
use Rattle.network_file.specs.declared.cell.Kind.{Kind}
use Rattle.network_file.specs.declared.cell.Kind.TheVariants.{Road, Gate, Exit}

-- there is a cell of each number below their count
pub cell_at : (cells : List Cell) (i : ℕ) → i < length cells → (cell : Cell) × (slice_get cells i ≡ Some cell)
cell_at cells i has =
    elim ((slice_get_cases cells i).1) [ inl here ↦ (here.0, here.2) | inr past ↦ absurd (omega arith) ]

-- what holds of all holds of the one of this number
pub All-at : {X : Type 0} (P : X → Type 0) (xs : List X) (i : ℕ) (x : X) → slice_get xs i ≡ Some x → All P xs → P x
All-at P xs i x found all =
    subst P (get_or_from_slice_get xs i x x found) (all i x (slice_get_within xs i x found))

kinds : (k : Kind) → (is_road k ≡ true) ⊎ ((is_gate k ≡ true) ⊎ (is_exit k ≡ true))
kinds (Road room num den) = inl refl
kinds Gate = inr (inl refl)
kinds Exit = inr (inr refl)

-- a cell is a road, a gate or an exit
pub kinds_at : (cells : List Cell) (i : ℕ) → i < length cells →
    (is_road_at cells i ≡ true) ⊎ ((is_gate_at cells i ≡ true) ⊎ (is_exit_at cells i ≡ true))
kinds_at cells i has = let here = cell_at cells i has in rw here.1 (kinds here.0.kind)

-- and one of them alone
road_alone : (o : Option Cell) → option_map_or (λ c. is_road c.kind) o false ≡ true →
    (option_map_or (λ c. is_gate c.kind) o false ≡ false) × (option_map_or (λ c. is_exit c.kind) o false ≡ false)
road_alone None road = (refl, refl)
road_alone (Some cell) road = alone cell.kind road
  where
    alone : (k : Kind) → is_road k ≡ true → (is_gate k ≡ false) × (is_exit k ≡ false)
    alone (Road room num den) road = (refl, refl)
    alone Gate road = cc
    alone Exit road = cc

pub road_at-alone : (cells : List Cell) (i : ℕ) → is_road_at cells i ≡ true →
    (is_gate_at cells i ≡ false) × (is_exit_at cells i ≡ false)
road_at-alone cells i road = road_alone (slice_get cells i) road

exit_alone : (o : Option Cell) → option_map_or (λ c. is_exit c.kind) o false ≡ true →
    option_map_or (λ c. is_gate c.kind) o false ≡ false
exit_alone None exit = refl
exit_alone (Some cell) exit = alone cell.kind exit
  where
    alone : (k : Kind) → is_exit k ≡ true → is_gate k ≡ false
    alone (Road room num den) exit = refl
    alone Gate exit = cc
    alone Exit exit = refl

pub exit_at-no_gate : (cells : List Cell) (i : ℕ) → is_exit_at cells i ≡ true → is_gate_at cells i ≡ false
exit_at-no_gate cells i exit = exit_alone (slice_get cells i) exit

-- an exit starts empty
pub first-none : (kind : Kind) (first : ℕ) → IsSoundKind kind first → is_exit kind ≡ true → first ≡ 0
first-none (Road room num den) first sound exit = cc
first-none Gate first sound exit = cc
first-none Exit first sound exit = sound

-- a road is there
there : (cells : List Cell) (i : ℕ) (o : Option Cell) → slice_get cells i ≡ o →
    option_map_or (λ c. is_road c.kind) o false ≡ true → i < length cells
there cells i None found road = cc
there cells i (Some cell) found road = slice_get_within cells i cell found

pub road_at-there : (cells : List Cell) (i : ℕ) → is_road_at cells i ≡ true → i < length cells
road_at-there cells i road = there cells i (slice_get cells i) refl road
