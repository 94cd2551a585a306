use Rattle.std.proofs.Common.{◌≡◌, ap, arith, ◌∙◌}
use Rattle.border_rows.specs.Spans.{spans_of}
use Rattle.border_rows.proofs.PlaceLaws.{base-le-words}
use Rattle.border_rows.proofs.Spans.{span_at}
use Rattle.border_rows.proofs.places.Places.span.Goals as goal

pub returns-clause-base : goal.returns-clause-base
returns-clause-base c =
    let are : c.self.inside.spans.items ≡ spans_of c.args.self.now = c.self.invariant.each ∙ ap spans_of c.self.view_is in
    ap (λ span. span.base) (span_at c.args.self.now c.self.inside.spans.items c.args.r c.index.result.now are c.requires c.index.ensures)

pub returns-clause-within : goal.returns-clause-within
returns-clause-within c =
    let are : c.self.inside.spans.items ≡ spans_of c.args.self.now = c.self.invariant.each ∙ ap spans_of c.self.view_is in
    let is = span_at c.args.self.now c.self.inside.spans.items c.args.r c.index.result.now are c.requires c.index.ensures in
    omega (arith, ap (λ span. span.base) is, ap (λ span. span.width) is, base-le-words c.args.self.now c.args.r c.requires)
