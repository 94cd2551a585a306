use Rattle.std.proofs.Common.{◌≡◌, arith, subst, sym, ap, ◌∙◌}
use Rattle.std.proofs.lemmas.Int.{ints}
use Rattle.network_file.specs.Sound.{IsNetwork}
use Rattle.network_file.proofs.NetworkFacts.{read_connector}
use Rattle.flow_ledger.specs.Flight.{flight_by, flight_of}
use Rattle.flow_ledger.proofs.FlightLaws.{flight-at_one_step, flight-law}
use Rattle.flow_ledger.proofs.LinkFlights.{link-flight-law}
use Rattle.flow_ledger.proofs.connector_flight.flight.Goals as goal

flight_is : (c : goal.After-flight_by) → c.flight_by.result ≡ flight_of c.args.net.now c.args.rows.now c.args.k
flight_is c =
    let read = read_connector c.net.inside.connectors.items c.args.net.now.connectors c.args.k c.index.result.now
    (ap (λ net. net.connectors) c.net.view_is) c.requires.has_connector c.index.ensures in
    c.flight_by.ensures.flight ∙ ap (flight_by c.args.rows.now) (sym read)

pub returns-clause-law : goal.returns-clause-law
returns-clause-law c = λ s m stand close.
    let law = flight-law c.args.net.now c.args.rows.now c.args.k (subst IsNetwork c.net.view_is c.net.invariant) c.requires.has_connector s m stand close in
    omega (arith, ints, law, flight_is c)

pub returns-clause-at_one_step : goal.returns-clause-at_one_step
returns-clause-at_one_step c = λ s m stand all.
    let law = flight-at_one_step c.args.net.now c.args.rows.now c.args.k (subst IsNetwork c.net.view_is c.net.invariant) c.requires.has_connector s m stand all in
    omega (arith, ints, law, flight_is c)

pub returns-clause-link : goal.returns-clause-link
returns-clause-link c = λ s m up down stand is.
    let law = link-flight-law c.args.net.now c.args.rows.now c.args.k (subst IsNetwork c.net.view_is c.net.invariant) c.requires.has_connector s m up down stand is in (
      (λ past same. let one = law.0 past same in omega (arith, ints, one, flight_is c)),
      (λ same past. let one = law.1 same past in omega (arith, ints, one, flight_is c)),
    )
