use Rattle.std.specs.Prelude.{slice_index}
use Rattle.std.specs.List.{Contains}
use Rattle.std.proofs.Common.{◌≡◌, ◌≤◌, ◌∷◌, ℕ, ◌+◌, arith, ap, subst, sym, ◌∙◌}
use Rattle.border_rows.specs.Kinds.{found_at, taken}
use Rattle.region_slots.specs.Gathering.{HasGathered}
use Rattle.region_slots.specs.Plays.{Mine}
use Rattle.region_slots.proofs.Gathering.{gathered-more, held_to-below}
use Rattle.region_slots.proofs.field.Field.takes_next.Goals as goal

pub takes_within-requires-clause-others : goal.takes_within-requires-clause-others
takes_within-requires-clause-others c = λ hold has own.
    let gathered = c.requires.gathered.1 in
    let below = held_to-below c.args.seat.now.me.0.seen c.args.region hold (subst (λ holds. Contains holds hold) gathered.holds has) in
    absurd (omega (arith, below, own))

pub load_own_step-requires-clause-fresh : goal.load_own_step-requires-clause-fresh
load_own_step-requires-clause-fresh c =
    let (failed, view, tried, few, mine) = c.takes_within.ensures.taken c.if-not-takes_within.false in
    (view.holds, ap (λ m. m.0.holds) mine)

pub returns-clause-taken : goal.returns-clause-taken
returns-clause-taken c = λ old gathered yes.
    let (failed, view, tried, few, mine) = c.takes_within.ensures.taken c.if-not-takes_within.false in
    let (state, is, stands) = c.load_own_step.ensures.state in
    let t : ℕ = c.load_own_step.result in
    let me : c.load_own_step.new.seat.me ≡ (found_at (taken view c.args.region) c.args.region t, (c.args.region, state) ∷ c.args.seat.now.me.1) =
    is ∙ ap (λ (m : Mine). (found_at m.0 c.args.region t, (c.args.region, state) ∷ m.1)) mine in
    let past = subst (λ (m : Mine). slice_index m.0.seen c.args.region ≤ t) mine c.load_own_step.ensures.later in
    subst (HasGathered c.args.self.now.terms old (c.args.region + 1)) (sym me)
    (gathered-more c.args.self.now.terms old view c.args.region failed t c.args.seat.now.me state c.requires.there gathered tried past c.load_own_step.ensures.in_time stands)

pub returns-clause-tried : goal.returns-clause-tried
returns-clause-tried c =
    let (failed, view, tried, few, mine) = c.takes_within.ensures.taken c.if-not-takes_within.false in
    let (state, is, stands) = c.load_own_step.ensures.state in
    let same : slice_index c.load_own_step.new.seat.me.0.held_found c.args.region ≡ slice_index view.held_found c.args.region =
    ap (λ (m : Mine). slice_index m.0.held_found c.args.region) is ∙ ap (λ (m : Mine). slice_index m.0.held_found c.args.region) mine in
    omega (arith, same, tried.own, few)

pub returns-clause-untried : goal.returns-clause-untried
returns-clause-untried c = λ q other.
    let (failed, view, tried, few, mine) = c.takes_within.ensures.taken c.if-not-takes_within.false in
    let (state, is, stands) = c.load_own_step.ensures.state in
    ap (λ (m : Mine). slice_index m.0.held_found q) is ∙ ap (λ (m : Mine). slice_index m.0.held_found q) mine ∙ tried.others q other
