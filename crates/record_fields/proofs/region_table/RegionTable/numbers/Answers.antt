use Rattle.std.proofs.Common.{◌≡◌, ◌++◌, ◌∷◌, [], rules, arith, refl, sym, ◌∙◌}
use Rattle.record_fields.proofs.RegionLemmas.{all_have_regions-more, all_have_regions-not, region_numbers-more}
use Rattle.record_fields.proofs.region_table.RegionTable.numbers.Goals as goal

pub returns-in-None : goal.returns-in-None
returns-in-None c =
    all_have_regions-not c.loop-cell.cell c.args.cells c.args.self.now (omega arith) (sym c.number_of.ensures ∙ c.in-None.is)

pub loop-cell-preserved : goal.loop-cell-preserved
loop-cell-preserved c =
    let here = sym c.number_of.ensures ∙ c.in-Some.is in
    let grown : c.push.new.self.items ≡ c.loop-cell.numbers.items ++ c.in-Some.number ∷ [] = search rules in
    record {
      there = rw (all_have_regions-more c.loop-cell.cell c.args.self.now, c.loop-cell.invariant.there, here) refl;
      numbers = grown ∙ rw c.loop-cell.invariant.numbers (sym (region_numbers-more c.loop-cell.cell c.in-Some.number c.args.self.now here));
    }
