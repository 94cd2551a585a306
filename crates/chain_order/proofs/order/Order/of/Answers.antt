use Rattle.std.specs.Prelude.{map, slice_index}
use Rattle.std.proofs.Common.{◌≡◌, ap, refl, ◌∙◌}
use Rattle.chain_order.proofs.Orders.{order-of_inverse}
use Rattle.chain_order.proofs.order.Order.of.Goals as goal

pub returns-then-are_inverse : goal.returns-then-are_inverse
returns-then-are_inverse c =
    let laid : c.in_ok-placed-2.placed.items ≡ map (slice_index c.args.cells.now) c.in_ok-placed.field-0.placed.items =
    c.in_ok-placed-2.ensures ∙ ap (map (slice_index c.args.cells.now)) c.deref-then-are_inverse.ensures.value in
    order-of_inverse _ _ _ _ laid
    (rw c.deref.ensures.value at c.if-are_inverse.ensures.long refl)
    (rw c.deref-2.ensures.value at c.if-are_inverse.ensures.place_each refl)
    (rw (c.deref.ensures.value, c.deref-2.ensures.value) at c.if-are_inverse.ensures.there refl)
    (rw (c.deref.ensures.value, c.deref-2.ensures.value) at c.if-are_inverse.ensures.back refl)
