use Rattle.number_deques.proofs.Below.{opens}
use Rattle.number_deques.proofs.deque.Deque.new.Goals as goal

pub push_as-requires-clause-pushes : goal.push_as-requires-clause-pushes
push_as-requires-clause-pushes c = rw c.in_ok-worker.ensures.4 (opens _ _)
