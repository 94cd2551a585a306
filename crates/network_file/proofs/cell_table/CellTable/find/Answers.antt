use Rattle.std.proofs.Common.{◌≡◌, rules}
use Rattle.network_file.specs.Cells.{cell_named}
use Rattle.network_file.proofs.CellLemmas.{cell_named-there}
use Rattle.network_file.proofs.cell_table.CellTable.find.Goals as goal

pub returns-in-Some-clause-there : goal.returns-in-Some-clause-there
returns-in-Some-clause-there c = rw c.in-Some.ensures at (cell_named-there c.args.self.now c.args.name.now)

pub returns-in-None-clause-there : goal.returns-in-None-clause-there
returns-in-None-clause-there c =
    let found : c.find_in_bucket.result ≡ cell_named c.args.self.now c.args.name.now = search rules in
    rw found (cell_named-there c.args.self.now c.args.name.now)
