use Rattle.std.specs.List.{AllZip}
use Rattle.std.proofs.Common.{◌≡◌, [], ◌∷◌, ◌++◌, subst, sym, take, ◌+◌}
use Rattle.network_file.specs.declared.connector.Connector.TheVariants.{Link}
use Rattle.cut_grow.specs.Spans.{IsSpan}
use Rattle.cut_grow.proofs.InsideRuns.{zip_more}
use Rattle.cut_grow.proofs.span.spans.Goals as goal

pub loop-connector-preserved : goal.loop-connector-preserved
loop-connector-preserved c =
    let more : c.push.new.self.items ≡ c.loop-connector.spans.items ++ c.span_of.result ∷ [] = c.in_ok-push.ensures.items in
    subst (AllZip (IsSpan c.args.places.now) (take (c.loop-connector.connector-index + 1) c.args.connectors.now)) (sym more)
    (zip_more (IsSpan c.args.places.now) c.args.connectors.now c.loop-connector.spans.items c.loop-connector.connector-index (Link 0 0) c.span_of.result
    c.loop-connector-test.true c.loop-connector.invariant c.span_of.ensures)
