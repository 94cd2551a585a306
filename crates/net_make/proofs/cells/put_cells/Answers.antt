use Rattle.std.specs.Prelude.{codes, flat_map}
use Rattle.std.proofs.Common.{◌≡◌, [], ◌∷◌, append_assoc, arith}
use Rattle.net_make.specs.Made.{main_cell_lines, cells, main_cells}
use Rattle.net_make.proofs.LineOrder.{text_of-append, text_of-cells-more}
use Rattle.net_make.proofs.cells.put_cells.Goals as goal

pub loop-i-preserved : goal.loop-i-preserved
loop-i-preserved c = rw (c.in_ok-put_cell.ensures, c.loop-i.invariant, text_of-cells-more c.args.size c.loop-i.i) (simp append_assoc)

pub returns : goal.returns
unfolding cells
returns c =
    let all : c.loop-i.i ≡ c.args.size = omega arith in
    let last = text_of-append (flat_map (main_cell_lines c.args.size) (main_cells c.args.size)) (codes "exit,out,4" ∷ []) in
    rw (c.in_ok-extend_from_slice.ensures.items, c.loop-i.invariant, all, last) (simp append_assoc)
