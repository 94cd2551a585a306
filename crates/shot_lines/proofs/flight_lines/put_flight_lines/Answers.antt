use Rattle.std.proofs.Common.{◌≡◌, ◌++◌, true, false, length, rules, append_assoc, arith, ap, refl, sym, ◌∙◌}
use Rattle.std.proofs.Transfers.{starts_with_of_append, starts_with_trans}
use Rattle.network_file.specs.Numbered.{connector_at}
use Rattle.region_cut.specs.Joins.{crosses}
use Rattle.shot_lines.proofs.FlightLines.{flights_before, flights_before-all, flights_before-crosses, flights_before-none, flights_before-stays}
use Rattle.shot_lines.proofs.flight_lines.put_flight_lines.Goals.{then-crosses+in_ok-put_flight_line, else-crosses}
use Rattle.shot_lines.proofs.flight_lines.put_flight_lines.Goals as goal

pub loop-k-init : goal.loop-k-init
loop-k-init c = rw flights_before-none (search rules)

pub returns-in_err-put_flight_line-clause-kept : goal.returns-in_err-put_flight_line-clause-kept
returns-in_err-put_flight_line-clause-kept c =
    starts_with_trans _ _ _ c.in_err-put_flight_line.ensures.kept (starts_with_of_append _ _ _ c.loop-k.invariant)

pub loop-k-preserved : goal.loop-k-preserved
loop-k-preserved c =
    let net = c.args.layout.now.net in
    let cut = c.args.layout.now.chart.cut in
    let rows = c.args.rows.now in
    elim c.if-crosses.branch [
      | then-crosses+in_ok-put_flight_line w ↦
          let yes_k : crosses cut (connector_at net.connectors c.loop-k.k) ≡ true = sym c.crosses.ensures ∙ w.if-crosses.true in
          let more = flights_before-crosses net cut rows c.loop-k.k yes_k in
          rw (w.text-is, w.in_ok-put_flight_line.ensures.line, c.net-net.ensures.network, c.loop-k.invariant, more) (simp append_assoc)
      | else-crosses w ↦
          let no_k : crosses cut (connector_at net.connectors c.loop-k.k) ≡ false = sym c.crosses.ensures ∙ w.if-crosses.false in
          let same = flights_before-stays net cut rows c.loop-k.k no_k in
          rw (w.text-is, c.loop-k.invariant, same) refl
    ]

pub returns-clause-lines : goal.returns-clause-lines
returns-clause-lines c =
    let connectors : length c.net.inside.connectors.items ≡ length c.args.layout.now.net.connectors = ap (λ net. length net.connectors) (c.net.view_is ∙ c.net-net.ensures.network) in
    let all : c.loop-k.k ≡ length c.args.layout.now.net.connectors = omega (arith, connectors, c.net.inside.connectors.ok.0) in
    c.loop-k.invariant ∙ ap (λ k. c.args.text.now.items ++ flights_before c.args.layout.now.net c.args.layout.now.chart.cut c.args.rows.now k) all ∙
    ap (λ lines. c.args.text.now.items ++ lines) (flights_before-all c.args.layout.now.net c.args.layout.now.chart.cut c.args.rows.now)
