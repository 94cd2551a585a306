-- The members of a crew.
use Rattle.std.specs.Prelude.{◌<◌}
use Rattle.region_cut.specs.Cuttings.{region_count}
use Rattle.region_slots.specs.FieldView.{FieldValue, IsPassOf}
use Rattle.worker_claim.specs.declared.member.Member.{Member}

-- a member with a pass of the field, whose sweeps begin at one of its regions
pub record IsMemberOf (field : FieldValue) (member : Member) : Type 0 where
  pub belongs : IsPassOf field member.pass
  pub there : member.first < region_count field.terms.setup.now.chart.cut
