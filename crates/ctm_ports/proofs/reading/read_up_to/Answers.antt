use Rattle.std.proofs.Common.{ℕ, ◌++◌, arith, take}
use Rattle.std.proofs.lemmas.List.{length-append, length-take}
use Rattle.std.proofs.KnownBytes.{Consumes-trans}
use Rattle.ctm_ports.proofs.reading.read_up_to.Goals as goal

-- the last piece was read too, though no memory was found for it
pub returns-then-is_err-clause-bounded : goal.returns-then-is_err-clause-bounded
returns-then-is_err-clause-bounded g c = (
  c.loop-room.bytes.items ++ take c.in-Got.n c.read.new.room,
  omega (arith, length-append {A = ℕ}, length-take {A = ℕ}, c.in-Got.ensures.size),
  Consumes-trans _ _ _ _ _ c.loop-room.invariant.lost c.in-Got.ensures.got,
)
