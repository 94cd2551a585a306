-- The network file that a size and a seed make: a corridor of so many main cells, with ramps, signals and an incident.
use Rattle.std.specs.Prelude.{ℕ, ◌+◌, ◌-◌, ◌*◌, ◌%◌, Bool, ◌==◌, ◌&&◌, nat_lt, nat_le, if◌then◌else◌, List, [], ◌∷◌, ◌++◌, length, map, flat_map, codes, decimal}
use Rattle.std.specs.List.{filter, range_with_len}
use Rattle.fixed_flow.specs.Printed.{amount_text}
use Rattle.net_make.specs.Draws.{draw}

-- the first main cells, so many of them: m0, m1 and so on
abbrev pub main_cells : (count : ℕ) → List ℕ
main_cells count = range_with_len 0 count

-- an on-ramp at the main cells 3, 11, 19 and so on
abbrev pub has_on_ramp : (i : ℕ) → Bool
has_on_ramp i = i % 8 == 3

-- an off-ramp at 6, 14, 22 and so on, but none at the last main cell
abbrev pub has_off_ramp : (size i : ℕ) → Bool
has_off_ramp size i = i % 8 == 6 && nat_lt (i + 1) size

-- which of so many first main cells have an on-ramp
abbrev pub on_ramps : (count : ℕ) → List ℕ
on_ramps count = filter has_on_ramp (main_cells count)

-- which of so many first main cells have a signal: 8, 16, 24 and so on
abbrev pub signals : (count : ℕ) → List ℕ
signals count = filter (λ i. i % 8 == 0 && nat_lt 0 i) (main_cells count)

-- a line, where there is one
abbrev pub line_where : Bool → List ℕ → List (List ℕ)
line_where there line = if there then line ∷ [] else []

-- the header, the steps and the gate of the corridor
unfoldable pub head : (size : ℕ) → List (List ℕ)
head size = codes "ctm,1" ∷ (codes "steps," ++ decimal (40 + 2 * size)) ∷ codes "gate,g,2,0" ∷ []

-- a main cell, and behind it its ramp
abbrev pub main_cell_lines : (size i : ℕ) → List (List ℕ)
main_cell_lines size i =
    (codes "road,m" ++ decimal i ++ codes ",12,4,1,2,0")
    ∷ line_where (has_on_ramp i) (codes "gate,r" ++ decimal i ++ codes ",1,0")
    ++ line_where (has_off_ramp size i) (codes "exit,f" ++ decimal i ++ codes ",2")

-- the main cells with their ramps, and the exit
unfoldable pub cells : (size : ℕ) → List (List ℕ)
cells size = flat_map (main_cell_lines size) (main_cells size) ++ codes "exit,out,4" ∷ []

-- from a main cell to the next
abbrev pub connector_line : (size i : ℕ) → List ℕ
connector_line size i =
    if has_off_ramp size i then codes "diverge,m" ++ decimal i ++ codes ",m" ++ decimal (i + 1) ++ codes ",f" ++ decimal i ++ codes ",4,1"
    else if has_on_ramp (i + 1) then codes "merge,m" ++ decimal i ++ codes ",r" ++ decimal (i + 1) ++ codes ",m" ++ decimal (i + 1) ++ codes ",3,1"
    else codes "link,m" ++ decimal i ++ codes ",m" ++ decimal (i + 1)

-- from the gate through all main cells to the exit
unfoldable pub connectors : (size : ℕ) → List (List ℕ)
connectors size =
    codes "link,g,m0" ∷ map (connector_line size) (main_cells (size - 1)) ++ (codes "link,m" ++ decimal (size - 1) ++ codes ",out") ∷ []

-- The draws go to the lines in their order, none is skipped: the first to the gate, then one to each on-ramp, one to each signal,
-- and the last to the incident.

-- the demand of an on-ramp: 0.1 to 0.5 vehicles in a step, by the number that is drawn
unfoldable pub ramp_demand : (drawn i : ℕ) → List ℕ
ramp_demand drawn i = codes "demand,r" ++ decimal i ++ codes ",0,20," ++ amount_text (100_000 + drawn % 400_001)

-- of the gate, 1 to 3 vehicles in a step, and of the on-ramps
unfoldable pub demands : (size seed : ℕ) → List (List ℕ)
demands size seed =
    (codes "demand,g,0,20," ++ amount_text (1_000_000 + draw seed 0 % 2_000_001))
    ∷ map (λ i. ramp_demand (draw seed (1 + length (on_ramps i))) i) (on_ramps size)

-- a signal: green for 4 steps of 6, from an offset on
unfoldable pub signal_line : (drawn i : ℕ) → List ℕ
signal_line drawn i = codes "signal,m" ++ decimal i ++ codes ",6," ++ decimal (drawn % 6) ++ codes ",0,4"

unfoldable pub signal_lines : (size seed : ℕ) → List (List ℕ)
signal_lines size seed = map (λ i. signal_line (draw seed (1 + length (on_ramps size) + length (signals i))) i) (signals size)

-- the incident: a main cell lets 1 vehicle through in a step; there is no such line where there is but one main cell
unfoldable pub incident : (size seed : ℕ) → List (List ℕ)
incident size seed =
    let drawn = draw seed (1 + length (on_ramps size) + length (signals size)) in
    line_where (nat_le 2 size) (codes "limit,m" ++ decimal (drawn % size) ++ codes ",10,20,1")

-- each line is ended by a line feed
abbrev pub text_of : List (List ℕ) → List ℕ
text_of lines = flat_map (λ line. line ++ codes "\n") lines

-- the file, byte for byte
unfoldable pub made : (size seed : ℕ) → List ℕ
made size seed = text_of (head size ++ cells size ++ connectors size ++ demands size seed ++ signal_lines size seed ++ incident size seed)
