use Rattle.std.proofs.Common.{◌<◌, subst, sym}
use Rattle.number_deques.proofs.Below.{pushes}
use Rattle.number_deques.proofs.deque.Deque.push.Goals as goal

pub push_as-requires-clause-pushes : goal.push_as-requires-clause-pushes
push_as-requires-clause-pushes c = pushes _ _ _ (subst (λ n. c.args.region < n) (sym c.self.view_is) c.requires)
