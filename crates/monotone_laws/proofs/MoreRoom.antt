-- An example of an eased network: one with more room in some of its roads, or in one.
use Rattle.std.specs.Prelude.{Option, Some, option_map}
use Rattle.std.proofs.Common.{◌≡◌, ℕ, ◌+◌, map, arith, refl, sym, subst, ap, ◌∙◌}
use Rattle.std.proofs.lemmas.List.{length-map}
use Rattle.std.proofs.lemmas.Option.{slice_get-map}
use Rattle.network_file.specs.Network.{Network}
use Rattle.network_file.specs.declared.cell.Cell.{Cell}
use Rattle.network_file.specs.declared.cell.Kind.{Kind}
use Rattle.network_file.specs.declared.cell.Kind.TheVariants.{Road, Gate, Exit}
use Rattle.monotone_laws.specs.Eased.{IsEased, IsRoomier, IsRoomierKind}

-- a road with so many parts more room
abbrev pub widened : (more : ℕ) → Kind → Kind
widened more (Road room num den) = Road (room + more) num den
widened more Gate = Gate
widened more Exit = Exit

abbrev pub with_more_room : (more : ℕ) → Cell → Cell
with_more_room more cell = record cell { kind = widened more cell.kind }

-- the same network with so much more room in each road
abbrev pub with_more_rooms : Network → (more : Cell → ℕ) → Network
with_more_rooms net more = record net { cells = map (λ cell. with_more_room (more cell) cell) net.cells }

widened-roomier : (more : ℕ) (kind : Kind) → IsRoomierKind kind (widened more kind)
widened-roomier more (Road room num den) = (omega arith, omega arith)
widened-roomier more Gate = tt
widened-roomier more Exit = tt

same_cell : (a b : Cell) → ◌≡◌ {A = Option Cell} (Some a) (Some b) → a ≡ b
same_cell a b is = cc

pub eased-by-rooms : (net : Network) (more : Cell → ℕ) → IsEased net (with_more_rooms net more)
eased-by-rooms net more =
    let wider : Cell → Cell = λ cell. with_more_room (more cell) cell in
    record {
      steps = omega arith;
      connectors = refl;
      one_each = length-map net.cells wider;
      cells = λ i a b here there.
          subst (IsRoomier a) (same_cell (wider a) b (sym (slice_get-map wider net.cells i ∙ ap (option_map wider) here) ∙ there))
          (record { kind = widened-roomier (more a) a.kind; first = refl });
      capacity = λ i t has before. omega arith;
      speed = λ i t has before. omega arith;
      green = λ i t has before is. is;
    }
