use Rattle.std.proofs.Common.{arith}
use Rattle.std.proofs.lemmas.Bool.Decides.{nat_tests}
use Rattle.fixed_flow.proofs.PrintedFacts.{amount_of-amount_text}
use Rattle.fixed_flow.proofs.amount.Amount.put.Goals as goal

pub returns-clause-reads_back : goal.returns-clause-reads_back
returns-clause-reads_back c = λ few. rw (c.put_parts.ensures, amount_of-amount_text c.args.self.now.0 (omega arith)) (grind (arith, nat_tests))
