use Rattle.chain_order.proofs.Orders.{order-given}
use Rattle.chain_order.proofs.order.as_given.Goals as goal

pub returns : goal.returns
returns c = order-given _ _ _ c.in_ok-placed.ensures c.in_ok-places.ensures.long c.in_ok-places.ensures.own
