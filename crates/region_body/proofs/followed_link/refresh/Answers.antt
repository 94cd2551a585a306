use Rattle.std.specs.Prelude.{◌⊎◌}
use Rattle.std.proofs.Common.{◌≡◌, ◌<◌, ℕ, length, ap, subst, arith}
use Rattle.std.proofs.Math.ListN.{get_or, length-set}
use Rattle.std.proofs.lemmas.List.{get_or_default}
use Rattle.region_body.specs.FollowedLinks.{IsChanged, IsUnchanged}
use Rattle.cell_sweep.specs.CellStates.{cell_state_at}
use Rattle.cell_sweep.specs.declared.cell_state.CellState.{CellState}
use Rattle.region_body.specs.declared.followed_link.FollowedLink.{FollowedLink}
use Rattle.region_body.proofs.Following.{refreshed-all, refreshed-more, refreshed-none, there-more}
use Rattle.region_body.proofs.followed_link.refresh.Goals as goal

pub loop-m-init : goal.loop-m-init
loop-m-init c = record {
  there = c.requires.there;
  refreshed = λ most followed. refreshed-none most c.args.states.now c.args.links.now c.args.t followed;
}

pub loop-m-preserved : goal.loop-m-preserved
loop-m-preserved c =
    let links = c.loop-m.links in
    let states = c.loop-m.states in
    let j : ℕ = c.loop-m.m in
    let old : FollowedLink = get_or links j c.index-links-m-in-loop-m.result in
    let new : FollowedLink = c.refresh_link.new.link in
    let after : CellState = c.refresh_link.new.state in
    let within : j < length links = omega arith in
    let there = c.loop-m.invariant.there j c.index-links-m-in-loop-m.result within in
    let same = ap (λ link. link.place) (get_or_default links j c.index-links-m.result c.index-links-m-in-loop-m.result within) in
    rw same (record {
      there = rw (length-set states old.place c.refresh_link.new.state)
          (there-more (length states) c.args.t j links old new within (get_or_default links j old c.index-links-m-in-loop-m.result within)
          c.refresh_link.ensures.its c.refresh_link.ensures.step c.loop-m.invariant.there);
      refreshed = λ most followed.
          refreshed-more most c.args.states.now states links c.args.t j old new c.refresh_link.new.state (record {
            within = within;
            read = λ d. get_or_default links j d c.index-links-m-in-loop-m.result within;
            there = there.place;
            its = c.refresh_link.ensures.its;
            timeline = c.refresh_link.ensures.timeline;
            only_most = subst (λ q. after ≡ record (cell_state_at states q) { most = after.most }) same c.refresh_link.ensures.only_most;
            due = subst (λ q. IsUnchanged old new (cell_state_at states q) after c.args.t ⊎ IsChanged old new after c.args.t) same c.refresh_link.ensures.most;
          }) (c.loop-m.invariant.refreshed most followed);
    })

pub returns-clause-most : goal.returns-clause-most
returns-clause-most c = λ most followed p within.
    refreshed-all most c.args.states.now c.loop-m.states c.loop-m.links c.args.t c.loop-m.m p (c.loop-m.invariant.refreshed most followed) (omega arith) (omega arith)

pub returns-clause-followed : goal.returns-clause-followed
returns-clause-followed c = λ most followed. (c.loop-m.invariant.refreshed most followed).followed
