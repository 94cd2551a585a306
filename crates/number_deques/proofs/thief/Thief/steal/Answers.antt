use Rattle.number_deques.proofs.Below.{takes}
use Rattle.number_deques.proofs.thief.Thief.steal.Goals as goal

pub steal_as-requires-clause-takes : goal.steal_as-requires-clause-takes
steal_as-requires-clause-takes c = takes _ _

pub steal_as-requires-in-Retry-clause-takes : goal.steal_as-requires-in-Retry-clause-takes
steal_as-requires-in-Retry-clause-takes c = takes _ _
