-- The pieces of a text, line by line.
use Rattle.std.specs.Prelude.{drop, map, slice_index_or, take}
use Rattle.std.specs.List.{concat, onto_first, slice_split}
use Rattle.std.proofs.Common.{◌≡◌, ℕ, ◌≤◌, true, false, List, [], ◌∷◌, ◌++◌, length, ap, append_assoc, arith, refl, sym, ◌∙◌}
use Rattle.std.proofs.lemmas.List.{append-nil, drop_all, length-map, take_all}
use Rattle.std.proofs.lemmas.List.Splits.{length-slice_split, slice_split-cons_no, slice_split-cons_yes}
use Rattle.plan_choice.specs.Pieces.{candidates_in, is_separator, lines_in, pieces_in}

-- some bytes in front of pieces: they belong to the first of them
abbrev pub leads : (front : List ℕ) → List (List ℕ) → List (List ℕ)
leads front [] = front ∷ []
leads front (piece ∷ pieces) = (front ++ piece) ∷ pieces

leads-leads : (first second : List ℕ) (pieces : List (List ℕ)) → leads first (leads second pieces) ≡ leads (first ++ second) pieces
leads-leads first second [] = refl
leads-leads first second (piece ∷ pieces) = ap (λ whole. whole ∷ pieces) (sym (append_assoc first second piece))

leads-none : (pieces : List (List ℕ)) → 1 ≤ length pieces → pieces ≡ leads [] pieces
leads-none [] some = absurd (omega arith)
leads-none (piece ∷ pieces) some = refl

map-onto_first : (line : List ℕ) (parts : List (List (List ℕ))) → map concat (onto_first line parts) ≡ leads line (map concat parts)
map-onto_first line [] = ap (λ piece. piece ∷ []) (append-nil line)
map-onto_first line (part ∷ parts) = refl

-- the pieces of some lines
abbrev pub pieces_of : List (List ℕ) → List (List ℕ)
pieces_of lines = map concat (slice_split is_separator lines)

pub pieces_of-separator : (line : List ℕ) (lines : List (List ℕ)) → is_separator line ≡ true → pieces_of (line ∷ lines) ≡ [] ∷ pieces_of lines
pieces_of-separator line lines is = ap (map concat) (slice_split-cons_yes is_separator line lines is)

pub pieces_of-line : (line : List ℕ) (lines : List (List ℕ)) → is_separator line ≡ false → pieces_of (line ∷ lines) ≡ leads line (pieces_of lines)
pieces_of-line line lines other = ap (map concat) (slice_split-cons_no is_separator line lines other) ∙ map-onto_first line (slice_split is_separator lines)

pieces-end : pieces_in [] ≡ [] ∷ []
unfolding pieces_in lines_in
pieces-end = refl

pieces-separator : (text rest line : List ℕ) → lines_in text ≡ line ∷ lines_in rest → is_separator line ≡ true → pieces_in text ≡ [] ∷ pieces_in rest
unfolding pieces_in
pieces-separator text rest line first is = ap pieces_of first ∙ pieces_of-separator line (lines_in rest) is

pieces-line : (text rest line : List ℕ) → lines_in text ≡ line ∷ lines_in rest → is_separator line ≡ false → pieces_in text ≡ leads line (pieces_in rest)
unfolding pieces_in
pieces-line text rest line first other = ap pieces_of first ∙ pieces_of-line line (lines_in rest) other

-- before the first line
pub pieces-begin : (text : List ℕ) → pieces_in text ≡ leads [] (pieces_in text)
unfolding pieces_in
pieces-begin text =
    let parts = slice_split is_separator (lines_in text) in
    leads-none (map concat parts) (omega (arith, length-map parts concat, length-slice_split is_separator (lines_in text)))

-- behind a line more
pub pieces-more : (text front rest behind line : List ℕ) → pieces_in text ≡ leads front (pieces_in rest) → lines_in rest ≡ line ∷ lines_in behind → is_separator line ≡ false →
    pieces_in text ≡ leads (front ++ line) (pieces_in behind)
pieces-more text front rest behind line before first other =
    before ∙ ap (leads front) (pieces-line rest behind line first other) ∙ leads-leads front line (pieces_in behind)

-- at a separator
pub pieces-found : (text front rest behind line : List ℕ) → pieces_in text ≡ leads front (pieces_in rest) → lines_in rest ≡ line ∷ lines_in behind → is_separator line ≡ true →
    pieces_in text ≡ front ∷ pieces_in behind
pieces-found text front rest behind line before first is =
    before ∙ ap (leads front) (pieces-separator rest behind line first is) ∙ ap (λ piece. piece ∷ pieces_in behind) (append-nil front)

-- at the end of the text
pub pieces-whole : (text : List ℕ) (at : ℕ) → length text ≤ at → pieces_in text ≡ leads (take at text) (pieces_in (drop at text)) → pieces_in text ≡ text ∷ []
pieces-whole text at ended before =
    before ∙ ap (λ rest. leads (take at text) (pieces_in rest)) (drop_all at text ended) ∙ ap (leads (take at text)) pieces-end ∙
    ap (λ piece. piece ∷ []) (append-nil (take at text) ∙ take_all at text ended)

-- the candidates, by the base and the plans
pub candidates-of : (input base : List ℕ) (plans : List (List ℕ)) → pieces_in input ≡ base ∷ plans → candidates_in input ≡ map (λ plan. base ++ plan) plans
candidates-of input base plans is = ap (λ pieces. map (λ plan. slice_index_or pieces 0 [] ++ plan) (drop 1 pieces)) is

pub length-candidates : (input base : List ℕ) (plans : List (List ℕ)) → pieces_in input ≡ base ∷ plans → length (candidates_in input) ≡ length plans
length-candidates input base plans is = ap length (candidates-of input base plans is) ∙ length-map plans (λ plan. base ++ plan)
