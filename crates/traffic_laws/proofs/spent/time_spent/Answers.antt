use Rattle.std.proofs.Common.{◌≡◌, length, arith, subst, sym, ap, ◌∙◌}
use Rattle.network_file.specs.Sound.{IsNetwork}
use Rattle.traffic_laws.specs.Area.{area_under}
use Rattle.traffic_laws.proofs.Areas.{area-in-cell, area-inside, area_under-more, part, spent-parts}
use Rattle.traffic_laws.proofs.spent.time_spent.Goals as goal

pub loop-i-preserved : goal.loop-i-preserved
unfolding part
loop-i-preserved c =
    let more = area_under-more (part c.args.net.now c.args.rows.now) c.loop-i.i in
    record {
      spent = omega (arith, more, c.loop-i.invariant.spent, c.from.ensures, c.passed_on.ensures, c.from-in-loop-i.ensures);
      fits = omega arith;
    }

pub returns-clause-spent : goal.returns-clause-spent
returns-clause-spent c =
    let cells : length c.args.net.now.cells ≡ length c.net.inside.cells.items = ap (λ net. length net.cells) (sym c.net.view_is) in
    let all : c.loop-i.i ≡ length c.args.net.now.cells = omega arith in
    c.loop-i.invariant.spent ∙ ap (area_under (part c.args.net.now c.args.rows.now)) all ∙ sym (spent-parts c.args.net.now c.args.rows.now c.requires.one_each)

pub returns-clause-area : goal.returns-clause-area
returns-clause-area c = λ t is.
    returns-clause-spent c ∙ area-inside c.args.net.now c.args.rows.now (subst IsNetwork c.net.view_is c.net.invariant) t is

pub returns-clause-each_cell : goal.returns-clause-each_cell
returns-clause-each_cell c = area-in-cell c.args.net.now (subst IsNetwork c.net.view_is c.net.invariant)
