use Rattle.call_ending.proofs.ending.end.Goals as goal

pub returns-in-Failed-clause-text : goal.returns-in-Failed-clause-text
returns-in-Failed-clause-text g c =
    rw (c.in-Ok.is, c.tell.ensures.status) (record { reason = c.in-Failed.ensures.failed; prefix = rw c.deref.ensures.value at c.write_all.ensures.prefix; told = c.tell.ensures.told })

pub returns-in-Ok-clause-text : goal.returns-in-Ok-clause-text
returns-in-Ok-clause-text g c =
    rw (c.in-Ok.is, c.tell-in-NoMemory.ensures.status)
    (record { reason = c.in-NoMemory.ensures.no_memory; prefix = rw c.deref.ensures.value at c.write_all.ensures.prefix; told = c.tell-in-NoMemory.ensures.told })
