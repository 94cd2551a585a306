use Rattle.std.specs.Prelude.{slice_index}
use Rattle.std.proofs.Common.{◌≡◌, ◌+◌, ℕ, List, refl, sym, ap, ◌∙◌, arith}
use Rattle.step_plan.specs.Records.{PlanRecords}
use Rattle.timelines.specs.Timelines.{IsSteady}
use Rattle.timelines.specs.Links.{LinkValues, most_at, most_between}
use Rattle.region_body.specs.declared.followed_link.FollowedLink.{FollowedLink}
use Rattle.region_body.proofs.Joins.{IsJoined, joined-constant, joined-followed}
use Rattle.region_body.proofs.joining.join_next.Goals as goal

joined : (plan : PlanRecords) (cells : List ℕ) (p t : ℕ) (first timeline : LinkValues) (value until : ℕ) →
    ((s : ℕ) → most_at first s ≡ most_between plan (slice_index cells p) (slice_index cells (p + 1)) s) → value ≡ most_at first t →
    IsSteady (most_at first) t until → ((s : ℕ) → most_at timeline s ≡ most_at first s) → IsJoined plan cells p t timeline value until
joined plan cells p t first timeline value until is value_is steady same = record {
  timeline_is = λ s. same s ∙ is s;
  value_is = value_is ∙ sym (same t);
  steady = λ s from within. same s ∙ steady s from within ∙ sym (same t);
}

pub returns-then-is_constant-clause-followed : goal.returns-then-is_constant-clause-followed
returns-then-is_constant-clause-followed c = λ most later followed extends.
    let plan : PlanRecords = c.args.net.now.plan in
    let cells = c.args.cells.now in
    let p : ℕ = c.args.p in
    let t : ℕ = c.args.t in
    let timeline : LinkValues = c.move_to-now.new.self in
    let is : (s : ℕ) → most_at c.in_ok-timeline.timeline s ≡ most_between plan (slice_index cells p) (slice_index cells (p + 1)) s =
    λ s. c.in_ok-timeline.ensures.timeline s ∙ ap (λ net. most_between net.plan (slice_index cells p) (slice_index cells (p + 1)) s) c.net.view_is in
    joined-constant plan cells most later c.args.states.now c.args.links.now.items t p timeline c.move_to-now.result.value c.move_to-now.result.until
    (omega (arith, c.requires.within, c.requires.one_each))
    (joined plan cells p t c.in_ok-timeline.timeline timeline c.move_to-now.result.value c.move_to-now.result.until is c.move_to-now.ensures.value
    c.move_to-now.ensures.steady c.move_to-now.ensures.timeline)
    (c.is_constant.ensures c.if-is_constant.true) followed extends

pub returns-clause-followed : goal.returns-clause-followed
returns-clause-followed c = λ most later followed extends.
    let plan : PlanRecords = c.args.net.now.plan in
    let cells = c.args.cells.now in
    let p : ℕ = c.args.p in
    let t : ℕ = c.args.t in
    let timeline : LinkValues = c.move_to-now.new.self in
    let is : (s : ℕ) → most_at c.in_ok-timeline.timeline s ≡ most_between plan (slice_index cells p) (slice_index cells (p + 1)) s =
    λ s. c.in_ok-timeline.ensures.timeline s ∙ ap (λ net. most_between net.plan (slice_index cells p) (slice_index cells (p + 1)) s) c.net.view_is in
    let link : FollowedLink = record { place = p; until = c.move_to-now.result.until; timeline = timeline } in
    let follows = joined-followed plan cells most later c.args.states.now c.args.links.now.items t p link c.move_to-now.result.value
    (omega (arith, c.requires.within, c.requires.one_each))
    (joined plan cells p t c.in_ok-timeline.timeline timeline c.move_to-now.result.value c.move_to-now.result.until is c.move_to-now.ensures.value
    c.move_to-now.ensures.steady c.move_to-now.ensures.timeline)
    refl followed extends in
    rw c.in_ok-push.ensures.items follows
