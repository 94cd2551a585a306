use Rattle.std.proofs.Common.{List, length, subst, sym, ap, ◌∙◌}
use Rattle.network_file.specs.Network.{Network}
use Rattle.network_file.specs.Sound.{IsNetwork}
use Rattle.flow_model.specs.declared.row.Row.{Row}
use Rattle.flow_ledger.specs.Balances.{books_of}
use Rattle.snapshot.specs.Shots.{IsBalanced, rows_at}
use Rattle.snapshot.proofs.ShotLaws.{books-kept, rows_at-stand, shown-rows}
use Rattle.ctm.proofs.moment.Moment.books.Goals as goal

pub books-requires : goal.books-requires
books-requires c =
    let one_each = rw (c.layout.ensures.network, c.layout.ensures.chart) at c.net-net.ensures.one_each in
    c.self.invariant.0.rows ∙ one_each ∙ sym (ap (λ (net : Network). length net.cells) (c.net-net.ensures.network ∙ c.layout.ensures.network))

pub returns-clause-balanced : goal.returns-clause-balanced
returns-clause-balanced c =
    let net : Network = c.self.inside.setup.net in
    let chart = c.self.inside.setup.chart in
    let room = c.self.inside.room in
    let is = c.net-net.ensures.network ∙ c.layout.ensures.network in
    let sound = subst IsNetwork (c.net.view_is ∙ is) c.net.invariant in
    let one_each = rw (c.layout.ensures.network, c.layout.ensures.chart) at c.net-net.ensures.one_each in
    let rows = shown-rows net chart room sound one_each c.self.invariant.0 c.self.invariant.1 in
    let kept = books-kept net chart.cut room.steps (rows_at net chart.cut room.steps) sound (rows_at-stand net chart.cut room.steps c.self.invariant.1.lawful) in
    subst IsBalanced (sym (c.books.ensures.books ∙ ap (λ (n : Network). books_of n room.rows) is))
    (subst (λ (shown : List Row). IsBalanced (books_of net shown)) (sym rows) kept.balanced)
