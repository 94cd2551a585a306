use Rattle.std.proofs.Common.{◌≡◌, ◌<◌, ◌∙◌, [], None, ap, arith, get_or, length, rules, subst, sym, take}
use Rattle.std.proofs.lemmas.List.{get_or-map}
use Rattle.network_file.specs.declared.cell.Cell.{Cell}
use Rattle.network_file.specs.Cells.{cell_named, name_at}
use Rattle.network_file.proofs.NameLemmas.{fresh-in_turn}
use Rattle.network_file.proofs.name_index.NameIndex.of_cells.Goals as goal

pub add-requires-clause-fresh : goal.add-requires-clause-fresh
add-requires-clause-fresh c =
    let cells = c.args.cells.now in
    let i = c.loop-i.i in
    let within : i < length cells = omega arith in
    let here : c.index-cells-i.result ≡ get_or cells i c.index-cells-i.result = search rules in
    let read : name_at cells i ≡ c.index-cells-i.result.name =
    get_or-map (λ c. c.name) cells i c.index-cells-i.result [] within ∙ ap (λ (cell : Cell). cell.name) (sym here) in
    subst (λ name. cell_named (take i cells) name ≡ None) read (fresh-in_turn cells i within c.requires.apart)
