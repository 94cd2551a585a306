use Rattle.std.proofs.Common.{sym, ap, ◌∙◌, arith}
use Rattle.std.specs.Prelude.{slice_index}
use Rattle.region_body.proofs.own_place.own_place.Goals as goal

pub returns-in_err-m : goal.returns-in_err-m
returns-in_err-m c = rw c.from_residual.ensures (λ p has.
    let order = c.requires.order in
    let within = has.within in
    let filled = order.filled p (omega (arith, order.long)) in
    c.in_err-m.ensures filled.0 filled.1
    (sym (order.at_place filled.0 filled.1) ∙ ap (slice_index c.args.region.now.order.now.placed) filled.2 ∙ has.is))
