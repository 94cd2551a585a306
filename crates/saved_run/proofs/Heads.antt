-- The step lines and the row lines of a text.
use Rattle.std.specs.Prelude.{All, codes, flat_map, option_map}
use Rattle.std.specs.Option.{option_or}
use Rattle.std.proofs.Common.{◌≡◌, ℕ, zero, suc, ◌<◌, ◌^◌, List, [], ◌∷◌, ◌++◌, length, Option, Some, None, refl, sym, ap, subst, ◌∙◌, arith, append_assoc}
use Rattle.std.proofs.lemmas.List.Elements.{All-cons, All-head, All-tail}
use Rattle.saved_run.specs.Content.{IsRowLine}
use Rattle.saved_run.specs.Fronts.{Front, behind, counted_line_at, row_line_at}
use Rattle.saved_run.specs.Reading.{row_lines_at, step_lines_at}
use Rattle.saved_run.specs.SavedText.{counted_line, row_line}
use Rattle.saved_run.specs.declared.row_line.RowLine.{RowLine}
use Rattle.saved_run.proofs.Fronts.{behind-word, chained, counted_line_at-line, line-counted_line_at, line-row_line_at, row_line_at-line, word-behind}
use Rattle.saved_run.proofs.Numbers.{none_is_no_some, some_same}

abbrev step_line : ℕ → List ℕ
step_line step = counted_line (codes "step") step

-- the lines of steps are read as these steps
pub step_lines_at-lines : (steps rest : List ℕ) → All (λ step. step < 2 ^ 64) steps → step_lines_at (length steps) (flat_map step_line steps ++ rest) ≡ Some (record { value = steps; rest = rest })
unfolding step_lines_at
step_lines_at-lines [] rest small = refl
step_lines_at-lines (step ∷ steps) rest small =
    let left = flat_map step_line steps ++ rest in
    let line : counted_line_at (codes "step") (step_line step ++ flat_map step_line steps ++ rest) ≡ Some (record { value = step; rest = left }) =
    ap (counted_line_at (codes "step")) (append_assoc (step_line step) (flat_map step_line steps) rest) ∙ counted_line_at-line (codes "step") step left (All-head (λ step. step < 2 ^ 64) step steps small) in
    let more = step_lines_at-lines steps rest (All-tail (λ step. step < 2 ^ 64) step steps small) in
    rw (line, more) refl

-- and what is read as steps is their lines
pub record AreStepLines (count : ℕ) (text : List ℕ) (found : Front (List ℕ)) : Type 0 where
  pub counted : length found.value ≡ count
  pub small : All (λ step. step < 2 ^ 64) found.value
  pub lines : text ≡ flat_map step_line found.value ++ found.rest

pub lines-step_lines_at : (count : ℕ) (text : List ℕ) (found : Front (List ℕ)) → step_lines_at count text ≡ Some found → AreStepLines count text found
unfolding step_lines_at
lines-step_lines_at zero text found reads =
    let same = some_same (record { value = []; rest = text }) found reads in
    subst (AreStepLines 0 text) same (record { counted = refl; small = λ k d within. absurd (omega (arith, within)); lines = refl })
lines-step_lines_at (suc count) text found reads =
    let step = chained (counted_line_at (codes "step") text) _ found reads in
    let more = chained (step_lines_at count step.0.rest) _ found step.2 in
    let line = line-counted_line_at (codes "step") text step.0 step.1 in
    let rest = lines-step_lines_at count step.0.rest more.0 more.1 in
    let same = some_same (record { value = step.0.value ∷ more.0.value; rest = more.0.rest }) found more.2 in
    subst (AreStepLines (suc count) text) same (record {
      counted = ap suc rest.counted;
      small = All-cons (λ step. step < 2 ^ 64) step.0.value more.0.value line.0 rest.small;
      lines = line.1 ∙ ap (λ rest. step_line step.0.value ++ rest) rest.lines ∙ sym (append_assoc (step_line step.0.value) (flat_map step_line more.0.value) more.0.rest);
    })

no_net : (line : RowLine) (rest : List ℕ) → behind (codes "net\n") (row_line line ++ rest) ≡ None
unfolding behind row_line
no_net line rest = refl

-- the row lines before `net` are read as these rows
pub row_lines_at-lines : (lines : ℕ) (rows : List RowLine) (network : List ℕ) → length rows < lines → All IsRowLine rows →
    row_lines_at lines (flat_map row_line rows ++ (codes "net\n" ++ network)) ≡ Some (record { value = rows; rest = network })
unfolding row_lines_at
row_lines_at-lines zero rows network few fits = absurd (omega (arith, few))
row_lines_at-lines (suc lines) [] network few fits = let end : behind (codes "net\n") (codes "net\n" ++ network) ≡ Some network = behind-word (codes "net\n") network in rw end refl
row_lines_at-lines (suc lines) (row ∷ rows) network few fits =
    let left = flat_map row_line rows ++ (codes "net\n" ++ network) in
    let shape : row_line row ++ flat_map row_line rows ++ (codes "net\n" ++ network) ≡ row_line row ++ left = append_assoc (row_line row) (flat_map row_line rows) (codes "net\n" ++ network) in
    let end : behind (codes "net\n") (row_line row ++ flat_map row_line rows ++ (codes "net\n" ++ network)) ≡ None = ap (behind (codes "net\n")) shape ∙ no_net row left in
    let line : row_line_at (row_line row ++ flat_map row_line rows ++ (codes "net\n" ++ network)) ≡ Some (record { value = row; rest = left }) =
    ap row_line_at shape ∙ row_line_at-line row left (All-head IsRowLine row rows fits) in
    let more = row_lines_at-lines lines rows network (omega (arith, few)) (All-tail IsRowLine row rows fits) in
    rw (end, line, more) refl

-- and what is read as rows is their lines and the line `net`
pub record AreRowLines (text : List ℕ) (found : Front (List RowLine)) : Type 0 where
  pub fit : All IsRowLine found.value
  pub lines : text ≡ flat_map row_line found.value ++ (codes "net\n" ++ found.rest)

ended : (text network : List ℕ) (found : Front (List RowLine)) → behind (codes "net\n") text ≡ Some network → record { value = []; rest = network } ≡ found → AreRowLines text found
ended text network found end same = subst (AreRowLines text) same (record { fit = λ k d within. absurd (omega (arith, within)); lines = word-behind (codes "net\n") text network end })

-- the line `net`, or a row line
one_of : (end : Option (List ℕ)) (text : List ℕ) (rows : Option (Front (List RowLine))) (found : Front (List RowLine)) → behind (codes "net\n") text ≡ end → option_or (option_map (λ network. record { value = []; rest = network }) end) rows ≡ Some found →
    (rows ≡ Some found → AreRowLines text found) → AreRowLines text found
one_of (Some network) text rows found is reads other = ended text network found is (some_same _ found reads)
one_of None text rows found is reads other = other reads

pub lines-row_lines_at : (lines : ℕ) (text : List ℕ) (found : Front (List RowLine)) → row_lines_at lines text ≡ Some found → AreRowLines text found
unfolding row_lines_at
lines-row_lines_at zero text found reads = absurd (none_is_no_some found reads)
lines-row_lines_at (suc lines) text found reads = one_of (behind (codes "net\n") text) text _ found refl reads (λ reads.
    let row = chained (row_line_at text) _ found reads in
    let more = chained (row_lines_at lines row.0.rest) _ found row.2 in
    let line = line-row_line_at text row.0 row.1 in
    let rest = lines-row_lines_at lines row.0.rest more.0 more.1 in
    let same = some_same (record { value = row.0.value ∷ more.0.value; rest = more.0.rest }) found more.2 in
    subst (AreRowLines text) same (record {
      fit = All-cons IsRowLine row.0.value more.0.value line.0 rest.fit;
      lines = line.1 ∙ ap (λ rest. row_line row.0.value ++ rest) rest.lines ∙ sym (append_assoc (row_line row.0.value) (flat_map row_line more.0.value) (codes "net\n" ++ more.0.rest));
    }))
