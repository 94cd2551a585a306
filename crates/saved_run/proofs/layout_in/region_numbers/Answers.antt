use Rattle.std.proofs.Common.{arith}
use Rattle.flow_model.specs.Rows.{empty_row}
use Rattle.saved_run.proofs.Cuttings.{no_region}
use Rattle.saved_run.proofs.layout_in.region_numbers.Goals as goal

pub returns-then-line-from : goal.returns-then-line-from
returns-then-line-from c = no_region c.args.rows.now c.loop-line.line-index (record { region = 0; row = empty_row; earlier = 0 }) c.loop-line-test.true (omega (arith, c.if-line-from.true, c.from.ensures))
