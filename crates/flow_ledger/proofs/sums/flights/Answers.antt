use Rattle.std.proofs.Common.{◌≡◌, ◌+◌, ◌<◌, ◌^◌, ◌+ℤ◌, List, length, get_or, take, pos, to_z, arith, sym, subst, ap, ◌∙◌}
use Rattle.std.specs.Int.{w128}
use Rattle.std.specs.List.{fold}
use Rattle.std.proofs.lemmas.List.{take_all}
use Rattle.std.proofs.lemmas.List.Sums.{fold_more}
use Rattle.network_file.specs.Sound.{IsNetwork}
use Rattle.network_file.specs.declared.connector.Connector.{Connector}
use Rattle.flow_ledger.specs.Balances.{flights_of}
use Rattle.flow_ledger.specs.Flight.{flight_by}
use Rattle.flow_ledger.proofs.SignedSums.{IsSumOf, one_flight_more, stored_sum}
use Rattle.network_file.proofs.NetworkFacts.{few_connectors}
use Rattle.flow_ledger.proofs.sums.flights.Goals as goal

pub loop-k-preserved : goal.loop-k-preserved
loop-k-preserved c =
    let connectors : List Connector = c.args.net.now.connectors in
    let same : c.net.inside.connectors.items ≡ connectors = ap (λ net. net.connectors) c.net.view_is in
    let within : c.loop-k.k < length connectors = omega (arith, ap (λ (cs : List Connector). length cs) same) in
    let here : c.index.result.now ≡ get_or connectors c.loop-k.k c.index.result.now =
    c.index.ensures ∙ ap (λ cs. get_or cs c.loop-k.k c.index.result.now) same in
    let more = fold_more (λ sum connector. sum +ℤ flight_by c.args.rows.now connector) (pos 0) connectors c.loop-k.k c.index.result.now within in
    let one = c.flight_by-sum.ensures.flight ∙ ap (flight_by c.args.rows.now) here in
    let few : c.loop-k.k < 2 ^ 32 = omega (arith, few_connectors c.args.net.now (subst IsNetwork c.net.view_is c.net.invariant)) in
    let flight = c.flight_by-sum.ensures in
    let stored = stored_sum c.loop-k.k (to_z w128 c.loop-k.sum-bits) c.flight_by-sum.result few c.loop-k.invariant.fits flight.least flight.most in
    let fits = one_flight_more c.loop-k.k (to_z w128 c.loop-k.sum-bits) c.flight_by-sum.result few c.loop-k.invariant.fits flight.least flight.most in
    record {
      sum = stored ∙ ap (λ sum. sum +ℤ c.flight_by-sum.result) c.loop-k.invariant.sum ∙ ap (λ flight. fold (λ sum connector. sum +ℤ flight_by c.args.rows.now connector) (pos 0) (take c.loop-k.k connectors) +ℤ flight) one ∙ sym more;
      fits = subst (IsSumOf (c.loop-k.k + 1)) (sym stored) fits;
    }

pub returns : goal.returns
unfolding flights_of
returns c =
    let few : length c.args.net.now.connectors ≡ length c.net.inside.connectors.items = ap (λ net. length net.connectors) (sym c.net.view_is) in
    c.loop-k.invariant.sum ∙
    ap (λ connectors. fold (λ sum connector. sum +ℤ flight_by c.args.rows.now connector) (pos 0) connectors) (take_all c.loop-k.k c.args.net.now.connectors (omega arith))
