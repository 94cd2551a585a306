use Rattle.region_slots.proofs.field.Field.release.Goals as goal

pub free-requires-clause-state : goal.free-requires-clause-state
free-requires-clause-state g c =
    let (hold, later, state, others, holds, region, known, step, published, carried, stands) = c.requires.state in (hold, later, state, others, holds, region, known, carried, rw (published, step) stands)
