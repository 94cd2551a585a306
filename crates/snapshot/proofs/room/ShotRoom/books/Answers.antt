use Rattle.std.proofs.Common.{◌≡◌, ap, subst}
use Rattle.network_file.specs.Sound.{IsNetwork}
use Rattle.snapshot.specs.RunLaws.{cell_step}
use Rattle.snapshot.proofs.RunLaws.{stand_at}
use Rattle.snapshot.proofs.room.ShotRoom.books.Goals as goal

pub returns-clause-balances : goal.returns-clause-balances
returns-clause-balances c = λ cut start steps are.
    let rows : c.self.inside.rows.items ≡ c.args.self.now.rows = ap (λ room. room.rows) c.self.view_is in
    c.books.ensures.law (cell_step cut steps) (rw (c.deref.ensures.value, rows) (stand_at c.args.net.now cut start steps c.args.self.now.rows (subst IsNetwork c.net.view_is c.net.invariant) are))
