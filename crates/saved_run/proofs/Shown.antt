-- The row lines of what is shown.
use Rattle.std.specs.Prelude.{All, flat_map, map}
use Rattle.std.specs.List.{range_with_len}
use Rattle.std.proofs.Common.{◌≡◌, ◌<◌, List, ℕ, length, sym, subst, arith}
use Rattle.std.proofs.lemmas.List.Folds.{flat_map-map}
use Rattle.std.proofs.lemmas.List.Elements.{All-from_get_or}
use Rattle.std.proofs.lemmas.List.FromFn.{get_or-map-range_with_len, length-map-range_with_len}
use Rattle.line_fields.specs.Fields.{lines_of}
use Rattle.network_file.specs.Limits.{most_regions}
use Rattle.snapshot.specs.Rooms.{RoomValue}
use Rattle.saved_run.specs.Content.{IsRowLine}
use Rattle.saved_run.specs.SavedText.{row_line}
use Rattle.saved_run.specs.Shown.{line_shown}

pub row_lines-shown : (cut : List ℕ) (room : RoomValue) → lines_of (λ i. row_line (line_shown cut room i)) (length cut) ≡ flat_map row_line (map (line_shown cut room) (range_with_len 0 (length cut)))
unfolding lines_of
row_lines-shown cut room = sym (flat_map-map row_line (line_shown cut room) (range_with_len 0 (length cut)))

-- all of them have numbers below 2^64 where each has
pub rows-shown : (cut : List ℕ) (room : RoomValue) → ((i : ℕ) → i < length cut → IsRowLine (line_shown cut room i)) → All IsRowLine (map (line_shown cut room) (range_with_len 0 (length cut)))
rows-shown cut room each =
    All-from_get_or IsRowLine (map (line_shown cut room) (range_with_len 0 (length cut))) (line_shown cut room 0)
    (λ i within.
    let there : i < length cut = omega (arith, within, length-map-range_with_len (line_shown cut room) 0 (length cut)) in
    subst IsRowLine (sym (get_or-map-range_with_len (line_shown cut room) 0 (length cut) i i (line_shown cut room 0) there (omega arith))) (each i there))

-- and the number of a region where the cutting has it
pub rows-of_regions : (cut : List ℕ) (room : RoomValue) → All (λ region. region < most_regions) cut → All (λ line. line.region < most_regions) (map (line_shown cut room) (range_with_len 0 (length cut)))
rows-of_regions cut room few =
    All-from_get_or (λ line. line.region < most_regions) (map (line_shown cut room) (range_with_len 0 (length cut))) (line_shown cut room 0)
    (λ i within.
    let there : i < length cut = omega (arith, within, length-map-range_with_len (line_shown cut room) 0 (length cut)) in
    subst (λ line. line.region < most_regions) (sym (get_or-map-range_with_len (line_shown cut room) 0 (length cut) i i (line_shown cut room 0) there (omega arith))) (few i 0 there))
