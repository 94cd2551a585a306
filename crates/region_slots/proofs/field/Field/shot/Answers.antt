use Rattle.std.proofs.Common.{ap, ◌∙◌}
use Rattle.region_slots.proofs.field.Field.shot.Goals as goal

pub returns-clause-belongs : goal.returns-clause-belongs
returns-clause-belongs c =
    let came = c.shoots.ensures in (
      record {
        table = came.same.1 ∙ ap (λ pass. pass.table) c.pass.view_is ∙ c.requires.belongs.table;
        terms = came.terms ∙ ap (λ pass. pass.knows.terms) c.pass.view_is ∙ c.requires.belongs.terms;
        counts = came.counts;
        in_time = came.in_time;
      },
      came.same.0 ∙ ap (λ pass. pass.id) c.pass.view_is,
    )
