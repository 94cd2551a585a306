use Rattle.std.specs.Prelude.{slice_index}
use Rattle.std.proofs.Common.{◌≡◌, ℕ, List, Some, ap, arith, refl, sym, subst, ◌∙◌}
use Rattle.std.proofs.lemmas.List.{get_or-replicate}
use Rattle.network_file.specs.Network.{Network}
use Rattle.region_cut.specs.Cuttings.{region_count}
use Rattle.region_step.specs.Regions.{AreAt, RegionsValue}
use Rattle.region_step.specs.Setup.{SetupValue}
use Rattle.network_run.specs.Telling.{Telling}
use Rattle.network_run.specs.ToldParts.{HasToldPart}
use Rattle.saved_modes.specs.Recutting.{IsLastPart, IsPart, step_of}
use Rattle.saved_modes.proofs.RecutParts.{part-of, start-below}
use Rattle.saved_modes.proofs.recutting.next_part.Goals as goal

come : (regions : RegionsValue) (goal : ℕ) → AreAt regions goal → step_of (Some regions) ≡ goal
come regions goal at = ap (λ steps. slice_index steps 0) at ∙ get_or-replicate (region_count regions.setup.chart.cut) 0 goal 0 (omega arith)

pub part_start-requires : goal.part_start-requires
part_start-requires g c = record { last = subst (λ net. IsLastPart net c.args.last) (sym c.in_ok-layout.ensures.network) c.requires.last }

pub regions_from-requires-clause-before : goal.regions_from-requires-clause-before
regions_from-requires-clause-before g c = λ lifetimes outlive. rw c.new-setup.ensures
    (λ r within. omega (arith, start-below c.in_ok-start.start c.in_ok-layout.layout.chart.cut (step_of c.args.last) c.args.goal c.in_ok-start.ensures.steps c.requires.later r within))

pub regions_from-requires-clause-in_time : goal.regions_from-requires-clause-in_time
regions_from-requires-clause-in_time g c = λ lifetimes outlive. omega (arith, c.requires.in_time, ap (λ (s : SetupValue). s.net.steps) c.new-setup.ensures, ap (λ net. net.steps) c.in_ok-layout.ensures.network)

pub returns-clause-part : goal.returns-clause-part
returns-clause-part g c =
    subst (λ net. IsPart net c.in_ok-regions.regions) c.in_ok-layout.ensures.network
    (part-of c.in_ok-layout.layout c.in_ok-start.start (step_of c.args.last) c.args.goal c.in_ok-regions.regions c.in_ok-start.ensures.steps c.requires.later c.in_ok-start.ensures.true_start
    (c.in_ok-regions.ensures.setup ∙ c.new-setup.ensures) c.in_ok-regions.ensures.at (come c.in_ok-regions.regions c.args.goal c.in_ok-regions.ensures.at))

pub returns-clause-goal : goal.returns-clause-goal
returns-clause-goal g c = come c.in_ok-regions.regions c.args.goal c.in_ok-regions.ensures.at

pub returns-clause-told : goal.returns-clause-told
returns-clause-told g c = λ done.
    let held : Telling = g.W.Observer.told_held c.args.observer.now in
    let freed : Telling = g.W.Observer.told_freed c.args.observer.now in
    let net : Network = c.in_ok-layout.layout.net in
    let cut : List ℕ = c.in_ok-layout.layout.chart.cut in
    let told : HasToldPart held freed net cut (step_of c.args.last) c.args.goal = record {
      start = c.in_ok-start.start;
      steps = c.in_ok-start.ensures.steps;
      true_start = c.in_ok-start.ensures.true_start;
      told = rw c.new-setup.ensures at (c.in_ok-regions.ensures.told refl);
    } in
    subst (λ net. HasToldPart held freed net c.args.cut (step_of c.args.last) c.args.goal) c.in_ok-layout.ensures.network
    (subst (λ cut. HasToldPart held freed net cut (step_of c.args.last) c.args.goal) c.in_ok-layout.ensures.cut told)
