use Rattle.std.proofs.Common.{sym}
use Rattle.plan_choice.proofs.FirstLine.{line-found, line-whole}
use Rattle.plan_choice.proofs.lines.first_line.Goals as goal

pub returns-in-Some-clause-line : goal.returns-in-Some-clause-line
returns-in-Some-clause-line c = (line-found c.args.text.now c.in-Some.at (sym c.in-Some.ensures)).1

pub returns-in-None-clause-line : goal.returns-in-None-clause-line
returns-in-None-clause-line c = line-whole c.args.text.now c.requires (sym c.in-None.ensures)
