-- A turn of reading: one line more stands with those before it.
use Rattle.std.specs.Prelude.{codes, option_and_then}
use Rattle.std.proofs.lemmas.List.{append-nil}
use Rattle.std.proofs.Common.{◌≡◌, ℕ, suc, add-one, ◌+◌, List, [], ◌∷◌, ◌++◌, Option, Some, None, refl, sym, ap, ◌∙◌, append_assoc}
use Rattle.saved_run.specs.Fronts.{Front, behind, counted_line_at, row_line_at}
use Rattle.saved_run.specs.Reading.{row_lines_at, step_lines_at}
use Rattle.saved_run.specs.declared.row_line.RowLine.{RowLine}

-- what was read before, and what is found behind it
abbrev pub with_before : {A : Type 0} → List A → Option (Front (List A)) → Option (Front (List A))
with_before before None = None
with_before before (Some found) = Some (record { value = before ++ found.value; rest = found.rest })

with_more : {A : Type 0} (before : List A) (one : A) (found : Option (Front (List A))) → with_before before (with_before (one ∷ []) found) ≡ with_before (before ++ one ∷ []) found
with_more before one None = refl
with_more before one (Some found) = ap (λ value. Some (record { value = value; rest = found.rest })) (sym (append_assoc before (one ∷ []) found.value))

one_before : {A : Type 0} (one : A) (found : Option (Front (List A))) → option_and_then (λ more. Some (record { value = one ∷ more.value; rest = more.rest })) found ≡ with_before (one ∷ []) found
one_before one None = refl
one_before one (Some found) = refl

step_lines_at-suc : (count : ℕ) (text rest : List ℕ) (step : ℕ) → counted_line_at (codes "step") text ≡ Some (record { value = step; rest = rest }) → step_lines_at (suc count) text ≡ with_before (step ∷ []) (step_lines_at count rest)
unfolding step_lines_at
step_lines_at-suc count text rest step line = rw line (one_before step (step_lines_at count rest))

-- a step line more
pub step_lines_at-more : (left count : ℕ) (text rest before : List ℕ) (step : ℕ) → left ≡ count + 1 → counted_line_at (codes "step") text ≡ Some (record { value = step; rest = rest }) →
    with_before before (step_lines_at left text) ≡ with_before (before ++ step ∷ []) (step_lines_at count rest)
step_lines_at-more left count text rest before step one_less line =
    ap (λ left. with_before before (step_lines_at left text)) one_less
    ∙ ap (with_before before) (rw add-one (step_lines_at-suc count text rest step line))
    ∙ with_more before step (step_lines_at count rest)

step_lines_at-suc_none : (count : ℕ) (text : List ℕ) → counted_line_at (codes "step") text ≡ None → step_lines_at (suc count) text ≡ None
unfolding step_lines_at
step_lines_at-suc_none count text none = rw none refl

pub step_lines_at-no_line : (left count : ℕ) (text before : List ℕ) → left ≡ count + 1 → counted_line_at (codes "step") text ≡ None → with_before before (step_lines_at left text) ≡ None
step_lines_at-no_line left count text before one_less none =
    let no_more : step_lines_at (count + 1) text ≡ None = rw add-one (step_lines_at-suc_none count text none) in
    ap (λ left. with_before before (step_lines_at left text)) one_less ∙ ap (with_before before) no_more

step_lines_at-zero : (text : List ℕ) → step_lines_at 0 text ≡ Some (record { value = []; rest = text })
unfolding step_lines_at
step_lines_at-zero text = refl

pub step_lines_at-done : (left : ℕ) (text before : List ℕ) → left ≡ 0 → with_before before (step_lines_at left text) ≡ Some (record { value = before; rest = text })
step_lines_at-done left text before none =
    ap (λ left. with_before before (step_lines_at left text)) none ∙ ap (with_before before) (step_lines_at-zero text) ∙ ap (λ value. Some (record { value = value; rest = text })) (append-nil before)

row_lines_at-suc : (lines : ℕ) (text rest : List ℕ) (row : RowLine) → behind (codes "net\n") text ≡ None → row_line_at text ≡ Some (record { value = row; rest = rest }) → row_lines_at (suc lines) text ≡ with_before (row ∷ []) (row_lines_at lines rest)
unfolding row_lines_at
row_lines_at-suc lines text rest row no_end line = rw (no_end, line) (one_before row (row_lines_at lines rest))

-- a row line more
pub row_lines_at-more : (left lines : ℕ) (text rest : List ℕ) (before : List RowLine) (row : RowLine) → left ≡ lines + 1 → behind (codes "net\n") text ≡ None → row_line_at text ≡ Some (record { value = row; rest = rest }) →
    with_before before (row_lines_at left text) ≡ with_before (before ++ row ∷ []) (row_lines_at lines rest)
row_lines_at-more left lines text rest before row one_less no_end line =
    ap (λ left. with_before before (row_lines_at left text)) one_less
    ∙ ap (with_before before) (rw add-one (row_lines_at-suc lines text rest row no_end line))
    ∙ with_more before row (row_lines_at lines rest)

row_lines_at-suc_none : (lines : ℕ) (text : List ℕ) → behind (codes "net\n") text ≡ None → row_line_at text ≡ None → row_lines_at (suc lines) text ≡ None
unfolding row_lines_at
row_lines_at-suc_none lines text no_end none = rw (no_end, none) refl

pub row_lines_at-no_line : (left lines : ℕ) (text : List ℕ) (before : List RowLine) → left ≡ lines + 1 → behind (codes "net\n") text ≡ None → row_line_at text ≡ None → with_before before (row_lines_at left text) ≡ None
row_lines_at-no_line left lines text before one_less no_end none =
    let no_more : row_lines_at (lines + 1) text ≡ None = rw add-one (row_lines_at-suc_none lines text no_end none) in
    ap (λ left. with_before before (row_lines_at left text)) one_less ∙ ap (with_before before) no_more

row_lines_at-suc_end : (lines : ℕ) (text network : List ℕ) → behind (codes "net\n") text ≡ Some network → row_lines_at (suc lines) text ≡ Some (record { value = []; rest = network })
unfolding row_lines_at
row_lines_at-suc_end lines text network end = rw end refl

pub row_lines_at-end : (left lines : ℕ) (text network : List ℕ) (before : List RowLine) → left ≡ lines + 1 → behind (codes "net\n") text ≡ Some network →
    with_before before (row_lines_at left text) ≡ Some (record { value = before; rest = network })
row_lines_at-end left lines text network before one_less end =
    let ended : row_lines_at (lines + 1) text ≡ Some (record { value = []; rest = network }) = rw add-one (row_lines_at-suc_end lines text network end) in
    ap (λ left. with_before before (row_lines_at left text)) one_less ∙ ap (with_before before) ended ∙ ap (λ value. Some (record { value = value; rest = network })) (append-nil before)

row_lines_at-zero : (text : List ℕ) → row_lines_at 0 text ≡ None
unfolding row_lines_at
row_lines_at-zero text = refl

pub row_lines_at-done : (left : ℕ) (text : List ℕ) (before : List RowLine) → left ≡ 0 → with_before before (row_lines_at left text) ≡ None
row_lines_at-done left text before none = ap (λ left. with_before before (row_lines_at left text)) none ∙ ap (with_before before) (row_lines_at-zero text)
