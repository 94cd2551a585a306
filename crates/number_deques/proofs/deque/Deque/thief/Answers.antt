use Rattle.number_deques.proofs.Below.{forks}
use Rattle.number_deques.proofs.deque.Deque.thief.Goals as goal

pub another-pass-requires : goal.another-pass-requires
another-pass-requires c = forks _ _ c.self.invariant.1
