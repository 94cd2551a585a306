use Rattle.std.proofs.Common.{◌≡◌, ◌++◌, List, ℕ, append_assoc, ap, ◌∙◌}
use Rattle.shot_lines.specs.ShotText.{shot_lines}
use Rattle.shot_lines.proofs.whole_shot.put_shot.Goals as goal

four : (text a b c d : List ℕ) → (((text ++ a) ++ b) ++ c) ++ d ≡ text ++ (((a ++ b) ++ c) ++ d)
four text a b c d = simp append_assoc

pub returns-clause-lines : goal.returns-clause-lines
unfolding shot_lines
returns-clause-lines c =
    let cells = c.deref.ensures.value ∙ ap (λ net. net.cells) (c.net.view_is ∙ c.net-net.ensures.network) in
    rw (
      c.in_ok-put_cell_row_lines.ensures.lines,
      c.in_ok-put_flight_lines.ensures.lines,
      c.in_ok-put_region_lines.ensures.lines,
      c.in_ok-put_books_line.ensures.line,
      c.books.ensures.books,
      c.net-net.ensures.network,
      cells,
      c.rows-2.ensures,
      c.rows.ensures,
      c.steps.ensures,
    ) (four c.args.text.now.items _ _ _ _)
