use Rattle.std.proofs.Common.{arith, subst}
use Rattle.network_file.specs.Sound.{IsNetwork}
use Rattle.monotone_laws.proofs.AtOneStep.{come-no_less, gone-no_less, length-first, length-second}
use Rattle.monotone_laws.proofs.differences.more_gone.Goals as goal

pub bounds-second-cell : goal.bounds-second-cell
bounds-second-cell c =
    omega (arith, length-second c.args.one.now c.args.two.now c.args.first.now c.args.second.now c.requires.eased c.requires.rows, c.requires.has_cell)

pub bounds-first-cell : goal.bounds-first-cell
bounds-first-cell c =
    omega (arith, length-first c.args.one.now c.args.two.now c.args.first.now c.args.second.now c.requires.rows, c.requires.has_cell)

pub overflow_sub-result : goal.overflow_sub-result
overflow_sub-result c =
    omega (
      arith,
      gone-no_less c.args.one.now c.args.two.now c.args.first.now c.args.second.now c.args.cell (subst IsNetwork c.one.view_is c.one.invariant)
          (subst IsNetwork c.two.view_is c.two.invariant) c.requires.links c.requires.eased c.requires.demands c.requires.rows c.requires.has_cell,
    )

pub returns : goal.returns
returns c = record {
  more = omega (
    arith,
    gone-no_less c.args.one.now c.args.two.now c.args.first.now c.args.second.now c.args.cell (subst IsNetwork c.one.view_is c.one.invariant)
        (subst IsNetwork c.two.view_is c.two.invariant) c.requires.links c.requires.eased c.requires.demands c.requires.rows c.requires.has_cell,
  );
  come = come-no_less c.args.one.now c.args.two.now c.args.first.now c.args.second.now c.args.cell (subst IsNetwork c.one.view_is c.one.invariant)
      (subst IsNetwork c.two.view_is c.two.invariant) c.requires.links c.requires.eased c.requires.demands c.requires.rows c.requires.has_cell;
}
