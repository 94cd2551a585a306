use Rattle.std.proofs.Common.{arith}
use Rattle.region_step.proofs.Ordered.{before-read, can-read, ordered-read, rows-read}
use Rattle.region_step.proofs.ordered_rows.OrderedRows.step.Goals as goal

pub step-requires-clause-can : goal.step-requires-clause-can
step-requires-clause-can c =
    can-read c.args.net.now c.args.cells.now c.args.t c.args.self.now _ c.args.put.now c.placed.result.now c.self.view_is c.placed.ensures c.requires.can

pub returns-clause-rows : goal.returns-clause-rows
returns-clause-rows c =
    rows-read c.args.net.now c.args.cells.now c.args.t c.args.self.now _ c.args.put.now c.placed.result.now c.step.new.self c.self.view_is c.placed.ensures c.step.ensures.rows

pub returns-clause-ordered : goal.returns-clause-ordered
returns-clause-ordered c =
    ordered-read c.args.net.now c.args.cells.now c.args.t c.args.self.now _ c.args.put.now c.placed.result.now c.step.new.self c.self.view_is c.placed.ensures c.step.ensures.placed

pub returns-clause-before : goal.returns-clause-before
returns-clause-before c =
    before-read c.args.net.now c.args.cells.now c.args.t c.args.self.now _ c.args.put.now c.placed.result.now c.step.new.self c.self.view_is c.placed.ensures c.step.ensures.before

pub invariant_of-self : goal.invariant_of-self
invariant_of-self c = λ m within.
    let done = returns-clause-ordered c c.requires.can in
    let there = done.order.there m (omega (arith, done.order.place_each, within)) in
    (omega (arith, there, done.order.long, done.placed.constants_each), omega (arith, there, done.order.long, done.placed.before_each))
