use Rattle.std.proofs.Common.{◌≡◌, ◌<◌, ◌∙◌, length, rules}
use Rattle.std.specs.Prelude.{slice_index_or}
use Rattle.network_file.proofs.NetworkFacts.{name_at-read}
use Rattle.network_file.proofs.cell_table.has_name.Goals as goal

pub returns-in-Some-clause-named : goal.returns-in-Some-clause-named
returns-in-Some-clause-named c = λ same.
    let cells = c.args.cells.now in
    let cell = c.in-Some.cell.now in
    let within : c.args.cell < length cells = search rules in
    let here : cell ≡ slice_index_or cells c.args.cell cell = search rules in
    name_at-read cells c.args.cell cell within here ∙ c.is_named.ensures same
