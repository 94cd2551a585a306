use Rattle.std.proofs.Common.{arith, subst}
use Rattle.std.proofs.lemmas.Int.{ints}
use Rattle.network_file.specs.Sound.{IsNetwork}
use Rattle.flow_ledger.specs.Balances.{books_of}
use Rattle.flow_ledger.proofs.BooksLaws.{books-at_one_step, books-law}
use Rattle.flow_ledger.proofs.balance.books.Goals as goal

pub returns-clause-law : goal.returns-clause-law
unfolding books_of
returns-clause-law c = λ s stand.
    let law = books-law c.args.net.now c.args.rows.now (subst IsNetwork c.net.view_is c.net.invariant) s stand in
    omega (arith, ints, law)

pub returns-clause-at_one_step : goal.returns-clause-at_one_step
unfolding books_of
returns-clause-at_one_step c = λ t within is.
    let law = books-at_one_step c.args.net.now c.args.rows.now (subst IsNetwork c.net.view_is c.net.invariant) t within is in
    (omega (arith, ints, law.0), omega (arith, ints, law.1))
