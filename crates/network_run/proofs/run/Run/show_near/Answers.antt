use Rattle.std.specs.Prelude.{slice_index}
use Rattle.std.proofs.Common.{◌≡◌, ℕ, List, ap, subst, ◌∙◌, arith}
use Rattle.network_file.specs.Network.{Network}
use Rattle.region_cut.specs.Cuttings.{region_count}
use Rattle.region_step.specs.Start.{zero_start}
use Rattle.region_step.proofs.Steps.{zero_start-at}
use Rattle.snapshot.specs.Rooms.{RoomValue}
use Rattle.snapshot.specs.Snapshots.{IsSnapshot}
use Rattle.border_rows.specs.declared.view.Terms.{Terms}
use Rattle.region_slots.specs.Moments.{AreTold, cut_run}
use Rattle.region_slots.proofs.Observed.{told-more}
use Rattle.network_run.proofs.run.Run.show_near.Goals as goal

pub returns-clause-near : goal.returns-clause-near
returns-clause-near g c =
    let net : Network = c.args.layout.now.net in
    let terms : Terms = c.args.self.now.terms in
    let cut : List ℕ = terms.setup.now.chart.cut in
    let room : RoomValue = c.show_on_the_way.new.room in
    let steps : c.net.inside.steps ≡ net.steps = ap (λ n. n.steps) (c.net.view_is ∙ c.net-net.ensures.network) in
    let same = c.take_to.ensures.terms in
    let shows : IsSnapshot net cut (zero_start net cut) room = rw (same, c.requires.network, c.requires.start) at c.show_on_the_way.ensures.snapshot in
    let count : region_count c.take_to.new.self.terms.setup.now.chart.cut ≡ region_count cut = ap (λ (t : Terms). region_count t.setup.now.chart.cut) same in
    let zero : (r : ℕ) → slice_index c.take_to.new.self.terms.setup.now.start.steps r ≡ 0 =
    λ r. ap (λ (t : Terms). slice_index t.setup.now.start.steps r) same ∙ ap (λ start. slice_index start.steps r) c.requires.start ∙ zero_start-at net cut r in
    record {
      lawful = shows.lawful;
      between = λ r there.
          let between = c.show_on_the_way.ensures.between r (omega (arith, there, count)) in
          (omega (arith, c.take_to.ensures.done r there, between.0), omega (arith, between.1, zero r, steps, c.requires.in_time));
    }

pub returns-clause-terms : goal.returns-clause-terms
returns-clause-terms g c = c.show_on_the_way.ensures.terms ∙ c.take_to.ensures.terms

pub returns-clause-told : goal.returns-clause-told
returns-clause-told g c =
    let held : ℕ → ℕ → Type 0 = g.W.Observer.told_held c.args.observer.now (cut_run c.args.self.now.terms.setup.now) in
    let freed : ℕ → ℕ → Type 0 = g.W.Observer.told_freed c.args.observer.now (cut_run c.args.self.now.terms.setup.now) in
    told-more held freed c.args.self.now.knows.log c.take_to.new.self.knows.log c.show_on_the_way.new.self.knows.log c.take_to.ensures.told
    (subst (λ (t : Terms). AreTold (g.W.Observer.told_held c.args.observer.now (cut_run t.setup.now)) (g.W.Observer.told_freed c.args.observer.now (cut_run t.setup.now)) c.take_to.new.self.knows.log c.show_on_the_way.new.self.knows.log)
    c.take_to.ensures.terms c.show_on_the_way.ensures.told)

pub returns-clause-done : goal.returns-clause-done
returns-clause-done g c = λ r there.
    let steps : c.net.inside.steps ≡ c.args.layout.now.net.steps = ap (λ n. n.steps) (c.net.view_is ∙ c.net-net.ensures.network) in
    let count : region_count c.take_to.new.self.terms.setup.now.chart.cut ≡ region_count c.args.self.now.terms.setup.now.chart.cut = ap (λ (t : Terms). region_count t.setup.now.chart.cut) c.take_to.ensures.terms in
    omega (arith, c.show_on_the_way.ensures.done r (omega (arith, there, count)), steps, c.requires.in_time)
