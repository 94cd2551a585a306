use Rattle.std.proofs.Common.{arith}
use Rattle.merge_rule.proofs.MergeFacts.{in_one_form}
use Rattle.merge_rule.proofs.flow.merge_by_share.Goals as goal

pub returns-clause-flows : goal.returns-clause-flows
returns-clause-flows c = λ p1 p2 some share. in_one_form c.args.s1 c.args.s2 c.args.r p1 p2 some (omega (arith, share)) (omega arith)
