use Rattle.std.specs.Prelude.{replicate, slice_index}
use Rattle.std.proofs.Common.{◌≡◌, ℕ, ap, subst, ◌∙◌, arith}
use Rattle.std.proofs.lemmas.List.{get_or-replicate}
use Rattle.network_file.specs.Sound.{IsNetwork}
use Rattle.region_cut.specs.Cuttings.{region_count}
use Rattle.region_step.specs.Regions.{AreAt, RegionsValue}
use Rattle.region_step.specs.Setup.{SetupValue}
use Rattle.saved_run.proofs.EvenStarts.{IsReopened, reopened}
use Rattle.saved_run.proofs.reopening.even_start.Goals as goal

-- what it makes
is-reopened : (c : goal.After-drop-room-inside-4) (u : ℕ) → AreAt c.args.old.now u →
    IsReopened c.args.old.now.setup c.args.old.now.list u c.args.new.now.chart.cut (record { steps = c.in_ok-steps.steps.items; rows = c.in_ok-rows.rows.items; earlier = c.in_ok-earlier.earlier.items })
is-reopened c u at =
    let old : RegionsValue = c.args.old.now in
    let setup : SetupValue = old.setup in
    let is = c.setup-setup.ensures.setup in
    let of_net = c.layout.ensures.network ∙ ap (λ (s : SetupValue). s.net) is in
    let of_chart = c.layout.ensures.chart ∙ ap (λ (s : SetupValue). s.chart) is in
    let sound = subst IsNetwork (c.net.view_is ∙ c.net-net.ensures.network ∙ of_net) c.net.invariant in
    let charted = rw (of_net, of_chart) at c.net-net.ensures.charted in
    let one_each = rw (of_net, of_chart) at c.net-net.ensures.one_each in
    let fits = rw is at c.start-start.ensures.fits in
    let lawful = rw is at c.start-start.ensures.lawful in
    let come = c.setup-setup.ensures.come in
    let count : ℕ = region_count c.args.new.now.chart.cut in
    let first : slice_index c.steps.result.now 0 ≡ u = ap (λ list. slice_index list 0) (c.steps.ensures ∙ at) ∙ get_or-replicate (region_count setup.chart.cut) 0 u 0 (omega arith) in
    let steps : c.in_ok-steps.steps.items ≡ replicate count u =
    c.in_ok-steps.ensures.items_if_clones_equal (λ y same. same) ∙ ap (λ n. replicate n (slice_index c.steps.result.now 0)) c.regions.ensures.count ∙ ap (replicate count) first in
    reopened setup old.steps old.list u sound charted fits lawful come at c.args.new.now.chart.cut c.in_ok-room.room _ c.in_ok-room.ensures.shows steps
    (c.in_ok-rows.ensures.items_if_clones_equal (λ x y same. same) ∙ c.rows.ensures)
    (c.in_ok-earlier.ensures.items_if_clones_equal (λ x y same. same) ∙ c.earlier.ensures)
    (c.in_ok-room.ensures.room.rows ∙ one_each) (c.in_ok-room.ensures.room.earlier ∙ one_each) one_each

pub returns-clause-start : goal.returns-clause-start
returns-clause-start c = λ u at. (is-reopened c u at).start

pub returns-clause-fits : goal.returns-clause-fits
returns-clause-fits c = rw c.requires.one_network (is-reopened c c.requires.even.0 c.requires.even.1).fits

pub returns-clause-lawful : goal.returns-clause-lawful
returns-clause-lawful c = rw c.requires.one_network (is-reopened c c.requires.even.0 c.requires.even.1).lawful

pub returns-clause-true_start : goal.returns-clause-true_start
returns-clause-true_start c = λ u at below. rw c.requires.one_network ((is-reopened c u at).true_start below)
