use Rattle.number_deques.proofs.Below.{takes}
use Rattle.number_deques.proofs.deque.Deque.pop.Goals as goal

pub pop_as-requires-clause-fifo : goal.pop_as-requires-clause-fifo
pop_as-requires-clause-fifo c = λ fifo. takes _ _
