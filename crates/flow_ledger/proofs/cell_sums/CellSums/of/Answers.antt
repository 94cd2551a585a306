use Rattle.std.specs.Prelude.{not}
use Rattle.std.proofs.Common.{◌≡◌, length, arith, sym, ap, ◌∙◌}
use Rattle.network_file.specs.Cells.{is_exit_at, is_gate_at}
use Rattle.flow_model.specs.State.{occupancy}
use Rattle.flow_ledger.specs.Books.{entered_of, inside_of, left_of, sum_where, come_of}
use Rattle.flow_ledger.proofs.CellSums.{sum_where-more}
use Rattle.flow_ledger.proofs.cell_sums.CellSums.of.Goals as goal

pub loop-i-preserved : goal.loop-i-preserved
loop-i-preserved c =
    let inside = sum_where-more (λ i. not (is_exit_at c.args.net.now.cells i)) (occupancy c.args.rows.now) c.loop-i.i in
    let entered = sum_where-more (is_gate_at c.args.net.now.cells) (come_of c.args.rows.now) c.loop-i.i in
    let left = sum_where-more (is_exit_at c.args.net.now.cells) (occupancy c.args.rows.now) c.loop-i.i in
    record {
      inside = omega (arith, inside, c.loop-i.invariant.inside, c.added_by-inside.ensures.inside, c.from.ensures);
      entered = omega (arith, entered, c.loop-i.invariant.entered, c.added_by-inside.ensures.entered, c.from-in-loop-i.ensures);
      left = omega (arith, left, c.loop-i.invariant.left, c.added_by-inside.ensures.left, c.from-in-loop-i-2.ensures);
      fits_inside = omega arith;
      fits_entered = omega arith;
      fits_left = omega arith;
    }

pub returns-clause-inside : goal.returns-clause-inside
unfolding inside_of
returns-clause-inside c =
    let cells : length c.args.net.now.cells ≡ length c.net.inside.cells.items = ap (λ net. length net.cells) (sym c.net.view_is) in
    let all : c.loop-i.i ≡ length c.args.net.now.cells = omega arith in
    c.loop-i.invariant.inside ∙ ap (sum_where (λ i. not (is_exit_at c.args.net.now.cells i)) (occupancy c.args.rows.now)) all

pub returns-clause-entered : goal.returns-clause-entered
unfolding entered_of
returns-clause-entered c =
    let cells : length c.args.net.now.cells ≡ length c.net.inside.cells.items = ap (λ net. length net.cells) (sym c.net.view_is) in
    let all : c.loop-i.i ≡ length c.args.net.now.cells = omega arith in
    c.loop-i.invariant.entered ∙ ap (sum_where (is_gate_at c.args.net.now.cells) (come_of c.args.rows.now)) all

pub returns-clause-left : goal.returns-clause-left
unfolding left_of
returns-clause-left c =
    let cells : length c.args.net.now.cells ≡ length c.net.inside.cells.items = ap (λ net. length net.cells) (sym c.net.view_is) in
    let all : c.loop-i.i ≡ length c.args.net.now.cells = omega arith in
    c.loop-i.invariant.left ∙ ap (sum_where (is_exit_at c.args.net.now.cells) (occupancy c.args.rows.now)) all
