use Rattle.std.proofs.Common.{ℕ, ◌+◌, ◌*◌, ◌≤◌, ◌∙◌, arith}
use Rattle.std.proofs.Math.Nat.{div-mul-le_self}
use Rattle.connector_flow.proofs.Ratios.{part-whole}
use Rattle.connector_flow.proofs.weight_pair.WeightPair.whole.Goals as goal

pub returns-clause-quotient : goal.returns-clause-quotient
returns-clause-quotient c =
    let inside = c.self.inside in
    rw (← c.self.view_is) (c.part.ensures.part ∙ part-whole inside.first inside.second c.args.amount inside.share c.self.invariant.share_is)

pub returns-clause-within : goal.returns-clause-within
returns-clause-within c =
    rw (returns-clause-quotient c) (div-mul-le_self c.args.amount (c.args.self.0 + c.args.self.1))
