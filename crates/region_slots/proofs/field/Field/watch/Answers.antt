use Rattle.std.proofs.Common.{sym, ◌∙◌}
use Rattle.region_slots.proofs.field.Field.watch.Goals as goal

-- a snapshot that is taken shows the regions as they stood together
pub after-requires-clause-together : goal.after-requires-clause-together
after-requires-clause-together g c = λ taken. let has = c.shot-shot.ensures.shot.taken taken in has.moment ∙ sym has.seen
