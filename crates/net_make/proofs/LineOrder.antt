-- One main cell more, and the lines of one more.
use Rattle.std.specs.Prelude.{Bool, codes, flat_map, map}
use Rattle.std.specs.List.{filter, range_with_len}
use Rattle.std.proofs.Common.{◌≡◌, ℕ, ◌+◌, true, false, List, [], ◌∷◌, ◌++◌, length, refl, sym, ap, ◌∙◌, arith, append_assoc}
use Rattle.std.proofs.lemmas.Grind.{flat_map-append}
use Rattle.std.proofs.lemmas.List.{append-nil, length-append, map-append, map-id}
use Rattle.std.proofs.lemmas.List.Elements.{filter-append}
use Rattle.std.proofs.lemmas.List.FromFn.{map-range_with_len_more}
use Rattle.net_make.specs.Made.{main_cell_lines, main_cells, text_of}

-- a line, ended by a line feed
abbrev pub ended : List ℕ → List ℕ
ended line = line ++ codes "\n"

pub main_cells-more : (n : ℕ) → main_cells (n + 1) ≡ main_cells n ++ n ∷ []
main_cells-more n =
    sym (map-id (range_with_len 0 (n + 1))) ∙ map-range_with_len_more (λ i. i) 0 n n (omega arith) ∙ ap (λ front. front ++ n ∷ []) (map-id (range_with_len 0 n))

-- those that pass a test, where one more does
pub passing-yes : (test : ℕ → Bool) (n : ℕ) → test n ≡ true → filter test (main_cells (n + 1)) ≡ filter test (main_cells n) ++ n ∷ []
passing-yes test n passes =
    ap (filter test) (main_cells-more n) ∙ filter-append test (main_cells n) (n ∷ []) ∙ rw passes refl

-- and where it doesn't
pub passing-no : (test : ℕ → Bool) (n : ℕ) → test n ≡ false → filter test (main_cells (n + 1)) ≡ filter test (main_cells n)
passing-no test n fails =
    ap (filter test) (main_cells-more n) ∙ filter-append test (main_cells n) (n ∷ []) ∙ rw fails (append-nil (filter test (main_cells n)))

-- lines behind lines
pub text_of-append : (front back : List (List ℕ)) → text_of (front ++ back) ≡ text_of front ++ text_of back
text_of-append front back = flat_map-append ended front back

-- a line, and behind it two lists of others
pub written-three : (old first road on all : List ℕ) (one other : List (List ℕ)) → road ≡ old ++ ended first → on ≡ road ++ text_of one → all ≡ on ++ text_of other →
    all ≡ old ++ text_of (first ∷ one ++ other)
written-three old first road on all one other is_road is_on is_all = rw (is_all, is_on, is_road, text_of-append one other) (simp append_assoc)

-- one line more
pub text_of-map-more : (line : ℕ → List ℕ) (cells : List ℕ) (i : ℕ) → text_of (map line (cells ++ i ∷ [])) ≡ text_of (map line cells) ++ ended (line i)
text_of-map-more line cells i =
    ap text_of (map-append line cells (i ∷ [])) ∙ flat_map-append ended (map line cells) (line i ∷ []) ∙
    ap (λ last. text_of (map line cells) ++ last) (append-nil (ended (line i)))

-- one more cell that passes a test, with its line
pub text-passing-yes : (line : ℕ → List ℕ) (test : ℕ → Bool) (i : ℕ) (front begun text : List ℕ) → test i ≡ true →
    begun ≡ front ++ text_of (map line (filter test (main_cells i))) → text ≡ begun ++ ended (line i) →
    text ≡ front ++ text_of (map line (filter test (main_cells (i + 1))))
text-passing-yes line test i front begun text passes so_far more =
    let last = passing-yes test i passes in rw (more, so_far, last, text_of-map-more line (filter test (main_cells i)) i) (simp append_assoc)

pub count-passing-yes : (test : ℕ → Bool) (i : ℕ) → test i ≡ true → length (filter test (main_cells (i + 1))) ≡ length (filter test (main_cells i)) + 1
count-passing-yes test i passes = ap length (passing-yes test i passes) ∙ length-append (filter test (main_cells i)) (i ∷ [])

-- the lines of one more main cell
pub text_of-cells-more : (size n : ℕ) →
    text_of (flat_map (main_cell_lines size) (main_cells (n + 1))) ≡ text_of (flat_map (main_cell_lines size) (main_cells n)) ++ text_of (main_cell_lines size n)
text_of-cells-more size n =
    ap (λ cells. text_of (flat_map (main_cell_lines size) cells)) (main_cells-more n) ∙
    ap text_of (flat_map-append (main_cell_lines size) (main_cells n) (n ∷ []) ∙ ap (λ last. flat_map (main_cell_lines size) (main_cells n) ++ last) (append-nil (main_cell_lines size n))) ∙
    flat_map-append ended (flat_map (main_cell_lines size) (main_cells n)) (main_cell_lines size n)
