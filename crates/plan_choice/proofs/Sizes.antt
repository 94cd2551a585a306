-- No candidate is longer than the input.
use Rattle.std.specs.Prelude.{◌==◌, drop, map, slice_index_or, sum_by}
use Rattle.std.specs.List.{onto_first}
use Rattle.std.proofs.Common.{◌≡◌, ℕ, ◌+◌, ◌≤◌, inl, inr, List, [], ◌∷◌, ◌++◌, length, ap, arith, refl}
use Rattle.std.proofs.lemmas.Bool.{cases_Bool, cases_lt}
use Rattle.std.proofs.lemmas.List.{get_or-map, get_or_past, length-append, length-map}
use Rattle.std.proofs.lemmas.List.Sums.{get_or-le-sum_by, sum_by-cons}
use Rattle.plan_choice.specs.Pieces.{candidates_in, is_separator, lines_in, pieces_in}
use Rattle.plan_choice.proofs.Cutting.{leads, pieces_of, pieces_of-line, pieces_of-separator}

-- how many bytes stand in some lists
total : List (List ℕ) → ℕ
total lists = sum_by length lists

total-none : total [] ≡ 0
unfolding total
total-none = refl

total-more : (first : List ℕ) (lists : List (List ℕ)) → total (first ∷ lists) ≡ length first + total lists
unfolding total
total-more first lists = sum_by-cons length first lists

total-onto_first : (byte : ℕ) (lines : List (List ℕ)) → total (onto_first byte lines) ≡ total lines + 1
total-onto_first byte [] = omega (arith, total-more (byte ∷ []) [], total-none)
total-onto_first byte (line ∷ lines) = omega (arith, total-more (byte ∷ line) lines, total-more line lines)

total-lines : (input : List ℕ) → total (lines_in input) ≡ length input
unfolding lines_in
total-lines [] = total-none
total-lines (byte ∷ input) = elim (cases_Bool (byte == 10)) [
  | inl is ↦ rw is (omega (arith, total-more (byte ∷ []) (lines_in input), total-lines input))
  | inr other ↦ rw other (omega (arith, total-onto_first byte (lines_in input), total-lines input))
]

total-leads : (front : List ℕ) (pieces : List (List ℕ)) → total (leads front pieces) ≡ length front + total pieces
total-leads front [] = total-more front []
total-leads front (piece ∷ pieces) = omega (arith, total-more (front ++ piece) pieces, total-more piece pieces, length-append front piece)

total-pieces_of : (lines : List (List ℕ)) → total (pieces_of lines) ≤ total lines
total-pieces_of [] = omega (arith, total-more [] [], total-none)
total-pieces_of (line ∷ lines) = elim (cases_Bool (is_separator line)) [
  | inl is ↦ omega (arith, ap total (pieces_of-separator line lines is), total-more [] (pieces_of lines), total-more line lines, total-pieces_of lines)
  | inr other ↦ omega (arith, ap total (pieces_of-line line lines other), total-leads line (pieces_of lines), total-more line lines, total-pieces_of lines)
]

total-pieces : (input : List ℕ) → total (pieces_in input) ≤ length input
unfolding pieces_in
total-pieces input = omega (arith, total-pieces_of (lines_in input), total-lines input)

file-total : (pieces : List (List ℕ)) (p : ℕ) → length (slice_index_or (map (λ plan. slice_index_or pieces 0 [] ++ plan) (drop 1 pieces)) p []) ≤ total pieces
unfolding total
file-total [] p = omega arith
file-total (base ∷ plans) p = elim (cases_lt p (length plans)) [
  | inl there ↦
      omega (
        arith,
        ap length (get_or-map (λ plan. base ++ plan) plans p [] [] there),
        length-append base (slice_index_or plans p []),
        get_or-le-sum_by length plans p [] there,
        sum_by-cons length base plans,
      )
  | inr past ↦ omega (arith, ap length (get_or_past (map (λ plan. base ++ plan) plans) p [] (omega (arith, past, length-map plans (λ plan. base ++ plan)))))
]

pub file-few : (input : List ℕ) (p : ℕ) → length (slice_index_or (candidates_in input) p []) ≤ length input
file-few input p = omega (arith, file-total (pieces_in input) p, total-pieces input)
