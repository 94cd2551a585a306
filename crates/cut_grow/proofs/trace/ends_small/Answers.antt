use Rattle.std.proofs.Common.{◌≡◌, ℕ, ◌+◌, ◌-◌, ◌*◌, get_or, ap, arith, sym, ◌∙◌}
use Rattle.std.proofs.lemmas.Bool.{eq-eqb}
use Rattle.cut_grow.specs.Most.{most, start_of}
use Rattle.cut_grow.specs.Spans.{inside}
use Rattle.cut_grow.proofs.Counted.{true-not_false}
use Rattle.cut_grow.proofs.MostRuns.{ends-large}
use Rattle.cut_grow.proofs.Tabling.{entry-within}
use Rattle.cut_grow.proofs.trace.ends_small.Goals as goal

pub returns-then-small-eq0-clause-by_large : goal.returns-then-small-eq0-clause-by_large
returns-then-small-eq0-clause-by_large c = λ no.
    (ends-large c.args.gains.now.spans.items c.args.sizes.floor c.args.small c.args.large c.requires.some (λ less is same. omega (arith, is, c.if-small-eq0.true))).1

pub returns-clause-large_left : goal.returns-clause-large_left
returns-clause-large_left c = λ no.
    let small_with : ℕ → ℕ = λ less. most c.args.gains.now.spans.items c.args.sizes.floor less c.args.large + inside c.args.gains.now.spans.items (start_of c.args.sizes.floor less c.args.large) c.args.sizes.floor in
    let place : ℕ = c.args.small * (c.args.sizes.larges + 1) + c.args.large in
    let entry : get_or c.args.best.now place 0 ≡ most c.args.gains.now.spans.items c.args.sizes.floor c.args.small c.args.large =
    c.requires.table.each c.args.small c.args.large c.requires.small c.requires.large (omega (arith, entry-within c.args.sizes c.args.small c.args.large c.requires.small c.requires.large, c.requires.long)) in
    (ends-large c.args.gains.now.spans.items c.args.sizes.floor c.args.small c.args.large c.requires.some (λ less is same.
    let one : less ≡ c.args.small - 1 = omega (arith, is) in
    let equal : get_or c.args.best.now place 0 ≡ c.with_small.result = entry ∙ same ∙ ap small_with one ∙ sym c.with_small.ensures in
    true-not_false (sym (eq-eqb (get_or c.args.best.now place 0) c.with_small.result equal) ∙ no))).0

pub returns-clause-by_large : goal.returns-clause-by_large
returns-clause-by_large c = λ no.
    let small_with : ℕ → ℕ = λ less. most c.args.gains.now.spans.items c.args.sizes.floor less c.args.large + inside c.args.gains.now.spans.items (start_of c.args.sizes.floor less c.args.large) c.args.sizes.floor in
    let place : ℕ = c.args.small * (c.args.sizes.larges + 1) + c.args.large in
    let entry : get_or c.args.best.now place 0 ≡ most c.args.gains.now.spans.items c.args.sizes.floor c.args.small c.args.large =
    c.requires.table.each c.args.small c.args.large c.requires.small c.requires.large (omega (arith, entry-within c.args.sizes c.args.small c.args.large c.requires.small c.requires.large, c.requires.long)) in
    (ends-large c.args.gains.now.spans.items c.args.sizes.floor c.args.small c.args.large c.requires.some (λ less is same.
    let one : less ≡ c.args.small - 1 = omega (arith, is) in
    let equal : get_or c.args.best.now place 0 ≡ c.with_small.result = entry ∙ same ∙ ap small_with one ∙ sym c.with_small.ensures in
    true-not_false (sym (eq-eqb (get_or c.args.best.now place 0) c.with_small.result equal) ∙ no))).1
