use Rattle.std.specs.Prelude.{reverse}
use Rattle.std.proofs.Common.{◌≡◌, ℕ, ◌+◌, ◌-◌, [], ◌∷◌, ◌++◌, length, ap, arith, subst, sym, ◌∙◌}
use Rattle.std.proofs.lemmas.List.{length-reverse, length_push}
use Rattle.cut_grow.specs.BestRuns.{AreBestRuns}
use Rattle.cut_grow.proofs.Tracing.{AreLastRuns, last-all, last-large, last-small, reverse-push}
use Rattle.cut_grow.proofs.trace.best_runs.Goals.{then-ends_small+in_ok-push, else-ends_small+in_ok-push-2}
use Rattle.cut_grow.proofs.trace.best_runs.Goals as goal

pub loop-preserved : goal.loop-preserved
loop-preserved c =
    let floor : ℕ = c.args.sizes.floor in
    elim c.if-ends_small.branch [
      | then-ends_small+in_ok-push w ↦
          let items : c.if-ends_small.runs.items ≡ c.loop.runs.items ++ floor ∷ [] = ap (λ runs. runs.items) w.runs-is ∙ w.in_ok-push.ensures.items in
          let back : reverse c.if-ends_small.runs.items ≡ floor ∷ reverse c.loop.runs.items = ap reverse items ∙ reverse-push c.loop.runs.items floor in
          let more : AreLastRuns c.args.sizes c.args.gains.now.spans.items (c.loop.small - 1) c.loop.large (floor ∷ reverse c.loop.runs.items) =
          last-small c.args.sizes c.args.gains.now.spans.items c.loop.small c.loop.large (reverse c.loop.runs.items) c.loop.invariant.last
          (c.ends_small.ensures.small_left w.if-ends_small.true) (c.ends_small.ensures.by_small w.if-ends_small.true) in
          record {
            last =
                subst (λ small. AreLastRuns c.args.sizes c.args.gains.now.spans.items small c.if-ends_small.large (reverse c.if-ends_small.runs.items)) (sym w.small-is)
                (subst (λ large. AreLastRuns c.args.sizes c.args.gains.now.spans.items (c.loop.small - 1) large (reverse c.if-ends_small.runs.items)) (sym w.large-is)
                (subst (AreLastRuns c.args.sizes c.args.gains.now.spans.items (c.loop.small - 1) c.loop.large) (sym back) more));
            count = ap length items ∙ length_push c.loop.runs.items floor ∙ ap (λ n. n + 1) c.loop.invariant.count;
          }
      | else-ends_small+in_ok-push-2 w ↦
          let items : c.if-ends_small.runs.items ≡ c.loop.runs.items ++ (floor + 1) ∷ [] = ap (λ runs. runs.items) w.runs-is ∙ w.in_ok-push-2.ensures.items in
          let back : reverse c.if-ends_small.runs.items ≡ (floor + 1) ∷ reverse c.loop.runs.items = ap reverse items ∙ reverse-push c.loop.runs.items (floor + 1) in
          let more : AreLastRuns c.args.sizes c.args.gains.now.spans.items c.loop.small (c.loop.large - 1) ((floor + 1) ∷ reverse c.loop.runs.items) =
          last-large c.args.sizes c.args.gains.now.spans.items c.loop.small c.loop.large (reverse c.loop.runs.items) c.loop.invariant.last
          (c.ends_small.ensures.large_left w.if-ends_small.false) (c.ends_small.ensures.by_large w.if-ends_small.false) in
          record {
            last =
                subst (λ small. AreLastRuns c.args.sizes c.args.gains.now.spans.items small c.if-ends_small.large (reverse c.if-ends_small.runs.items)) (sym w.small-is)
                (subst (λ large. AreLastRuns c.args.sizes c.args.gains.now.spans.items c.loop.small large (reverse c.if-ends_small.runs.items)) (sym w.large-is)
                (subst (AreLastRuns c.args.sizes c.args.gains.now.spans.items c.loop.small (c.loop.large - 1)) (sym back) more));
            count = ap length items ∙ length_push c.loop.runs.items (floor + 1) ∙ ap (λ n. n + 1) c.loop.invariant.count;
          }
    ]

pub returns : goal.returns
returns c =
    let ends : c.loop.small + c.loop.large ≡ 0 =
    omega (arith, c.loop.invariant.last.long, length-reverse c.loop.runs.items, c.loop.invariant.count, c.loop-test.false) in
    subst (AreBestRuns c.args.sizes c.args.gains.now.spans.items) (sym c.reverse.ensures.items)
    (last-all c.args.sizes c.args.gains.now.spans.items c.loop.small c.loop.large (reverse c.loop.runs.items) c.loop.invariant.last (omega arith) (omega arith))
