use Rattle.std.proofs.Common.{◌≡◌, ◌∷◌, ◌++◌, [], rules, ◌∙◌}
use Rattle.record_fields.proofs.RegionLemmas.{region_in-push}
use Rattle.record_fields.proofs.region_table.RegionTable.with.Goals as goal

pub invariant_of-result : goal.invariant_of-result
invariant_of-result c =
    let old = c.self.inside.parts.value.records.items in
    let grown : c.push.new.self.items ≡ old ++ record { cell = c.args.cell; number = c.args.number } ∷ [] = search rules in
    let none = rw (← c.self.view_is) at c.requires in
    rw grown (λ i. c.in_ok-put_number.ensures i ∙ rw (c.deref_mut.ensures.value, c.self.invariant i) (region_in-push old c.args.cell c.args.number i none))
