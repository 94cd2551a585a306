use Rattle.std.proofs.Common.{◌*◌, ap, ◌∙◌}
use Rattle.connector_flow.specs.Ratios.{part_of}
use Rattle.connector_flow.proofs.Ratios.{first_share-le, part-first_share}
use Rattle.connector_flow.proofs.weight_pair.WeightPair.first_share.Goals as goal

pub returns-then-amount-clause-share : goal.returns-then-amount-clause-share
returns-then-amount-clause-share c =
    let inside = c.self.inside in
    rw (← c.self.view_is)
    (c.part_of_few.ensures.part ∙ ap (λ first. part_of inside.share (c.args.amount * first)) c.from-first.ensures
    ∙ part-first_share inside.first inside.second c.args.amount inside.share c.self.invariant.share_is)

pub returns-then-amount-clause-within : goal.returns-then-amount-clause-within
returns-then-amount-clause-within c =
    rw (returns-then-amount-clause-share c) (first_share-le c.args.self.0 c.args.self.1 c.args.amount)
