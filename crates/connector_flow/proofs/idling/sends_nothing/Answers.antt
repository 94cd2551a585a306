use Rattle.std.specs.Prelude.{min, nat_eq, nat_lt, slice_index}
use Rattle.std.proofs.Common.{◌≡◌, ◌<◌, true, arith}
use Rattle.std.proofs.lemmas.Bool.Decides.{nat_tests}
use Rattle.connector_flow.specs.Flows.{received}
use Rattle.connector_flow.proofs.Nothing.{diverge-none, link-none, merge-none}
use Rattle.connector_flow.proofs.idling.sends_nothing.Goals as goal

pub returns-in-Linking : goal.returns-in-Linking
returns-in-Linking c = λ yes limits second third least.
    let is : nat_eq (slice_index c.args.n 0) 0 ≡ true = yes in
    let none : slice_index c.args.n 0 ≡ 0 = grind (arith, nat_tests) in
    rw c.in-Linking.is
    (link-none (min limits.first (slice_index c.args.n 0)) (received limits.second second (slice_index c.args.n 1)) (omega (arith, none)))

pub returns-then-n-eq0 : goal.returns-then-n-eq0
returns-then-n-eq0 c = λ yes limits second third least.
    let is : nat_eq (slice_index c.args.n 1) 0 ≡ true = yes in
    let none : slice_index c.args.n 1 ≡ 0 = grind (arith, nat_tests) in
    rw c.in-Merging.is
    (merge-none (min limits.first (slice_index c.args.n 0)) (min limits.second (slice_index c.args.n 1)) (received limits.third third (slice_index c.args.n 2))
    limits.weights.0 limits.weights.1 (omega (arith, c.if-n-eq0.true)) (omega (arith, none)))

pub returns-in-Diverging : goal.returns-in-Diverging
returns-in-Diverging c = λ yes limits second third least.
    let is : nat_lt (slice_index c.args.n 0) c.args.shares ≡ true = yes in
    let few : slice_index c.args.n 0 < c.args.shares = grind (arith, nat_tests) in
    rw c.in-Diverging.is
    (diverge-none (min limits.first (slice_index c.args.n 0)) (received limits.second second (slice_index c.args.n 1)) (received limits.third third (slice_index c.args.n 2))
    limits.weights.0 limits.weights.1 (omega (arith, few, least)))
