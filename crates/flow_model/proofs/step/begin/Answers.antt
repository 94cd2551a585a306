use Rattle.std.proofs.Common.{◌≡◌, length, arith, sym, ap}
use Rattle.flow_model.proofs.States.{begun-with_connectors}
use Rattle.flow_model.proofs.step.begin.Goals as goal

pub returns : goal.returns
returns c =
    let few : length c.args.net.now.cells ≡ length c.net.inside.cells.items = ap (λ net. length net.cells) (sym c.net.view_is) in
    begun-with_connectors c.args.net.now c.args.t c.args.old.now c.loop-i.new
    (omega (arith, c.requires.one_each, c.loop-i.auto.new))
    (λ i has. c.loop-i.invariant i (omega (arith, few, c.net.inside.cells.ok.0)))
