use Rattle.workerless_modes.proofs.choose_mode.text_of.Goals as goal

pub returns-in_ok-chosen-in-Ok-clause-text : goal.returns-in_ok-chosen-in-Ok-clause-text
returns-in_ok-chosen-in-Ok-clause-text g c = (
  c.in-Ok.ensures.accepted,
  record { nets = c.in-Ok.nets.items; networks = c.in-Ok.ensures.networks; chosen = rw c.deref.ensures.value at c.in_ok-chosen-in-Ok.ensures },
)
