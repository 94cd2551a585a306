use Rattle.std.specs.Prelude.{slice_index}
use Rattle.std.proofs.Common.{◌≡◌, ◌+◌, ◌++◌, ◌<◌, ℕ, List, ap, subst, sym, ◌∙◌, arith}
use Rattle.network_file.specs.Network.{Network}
use Rattle.network_file.specs.Sound.{IsNetwork}
use Rattle.flow_model.specs.declared.row.Row.{Row}
use Rattle.region_cut.specs.Chart.{ChartLists}
use Rattle.region_cut.specs.Cuttings.{region_count}
use Rattle.region_step.specs.Setup.{SetupValue}
use Rattle.region_step.specs.Start.{zero_start}
use Rattle.region_step.proofs.Steps.{zero_start-at}
use Rattle.snapshot.specs.Rooms.{IsRoomFor, RoomValue}
use Rattle.shot_lines.specs.ShotText.{shot_lines}
use Rattle.snapshot.specs.Shots.{AreStepsBetween, goal_of, rows_at}
use Rattle.snapshot.specs.Snapshots.{IsSnapshot}
use Rattle.snapshot.proofs.ShotLaws.{shown-rows}
use Rattle.region_slots.proofs.Observed.{told-more}
use Rattle.border_rows.specs.declared.view.Terms.{Terms}
use Rattle.region_slots.specs.Moments.{AreTold, cut_run}
use Rattle.region_slots.specs.CutRun.{CutRun}
use Rattle.region_slots.specs.declared.shot.Shot.TheVariants.{Taken}
use Rattle.network_run.specs.ToldShots.{HasToldShot, TellingOfShots, TellingOfWatchers}
use Rattle.network_run.proofs.ToldShots.{AreFirstTold, first_told-all, first_told-more}
use Rattle.network_run.proofs.run.Run.take_shots.Goals as goal

pub loop-i-preserved : goal.loop-i-preserved
loop-i-preserved g c =
    let net : Network = c.args.layout.now.net in
    let cut : List ℕ = c.args.layout.now.chart.cut in
    let i : ℕ = c.loop-i.i in
    let inv = c.loop-i.invariant in
    let came = c.show_on_the_way.ensures in
    let room : RoomValue = c.show_on_the_way.new.room in
    let sound : IsNetwork net = subst IsNetwork (c.net.view_is ∙ c.net-net.ensures.network) c.net.invariant in
    let same = inv.0 in
    let terms : Terms = c.args.self.now.terms in
    let same_net = ap (λ (t : Terms). t.setup.now.net) same ∙ c.requires.network.0 in
    let same_chart = ap (λ (t : Terms). t.setup.now.chart) same ∙ c.requires.network.1 in
    let same_start = ap (λ (t : Terms). t.setup.now.start) same ∙ c.requires.start in
    let goal : c.goal_at-goal.result ≡ goal_of net.steps c.args.shots (i + 1) = c.goal_at-goal.ensures.goal ∙ ap (λ (n : Network). goal_of n.steps c.args.shots (i + 1)) c.net-net.ensures.network in
    let fits : IsRoomFor c.args.layout.now.chart room = subst (λ chart. IsRoomFor chart room) same_chart came.room in
    let shows : IsSnapshot net cut (zero_start net cut) room = rw (same_net, same_chart, same_start) at came.snapshot in
    let count : region_count c.loop-i.self.terms.setup.now.chart.cut ≡ region_count cut = ap (λ chart. region_count chart.cut) same_chart in
    let zero : (r : ℕ) → slice_index c.loop-i.self.terms.setup.now.start.steps r ≡ 0 = λ r. ap (λ start. slice_index start.steps r) same_start ∙ zero_start-at net cut r in
    let shot : AreStepsBetween net cut (goal_of net.steps c.args.shots i) (goal_of net.steps c.args.shots (i + 1)) room.steps = record {
      lawful = shows.lawful;
      between = λ r there.
          let between = came.between r (omega (arith, there, count)) in
          (omega (arith, inv.3 r there, between.0), omega (arith, between.1, zero r, goal));
    } in
    let watching : TellingOfWatchers = g.W.Observer.told_watching c.args.observer.now in
    let watched : TellingOfShots = g.W.Observer.told_watched c.args.observer.now in
    let run : CutRun = cut_run terms.setup.now in
    let told : HasToldShot watching watched run (goal_of net.steps c.args.shots i) room.steps = record {
      before = came.told_before.0;
      told_before = subst (λ (t : Terms). watching (cut_run t.setup.now) came.told_before.0) same came.told_before.1;
      told_after = subst (λ (t : Terms). watched (cut_run t.setup.now) room.steps Taken) same came.told_after;
      between = λ r there.
          let here : r < region_count c.loop-i.self.terms.setup.now.chart.cut = omega (arith, there, ap (λ (t : Terms). region_count t.setup.now.chart.cut) same) in
          let known = came.told_before.2 r here in
          (omega (arith, inv.3 r (omega (arith, here, count)), known.0), known.1);
    } in
    let rows : room.rows ≡ rows_at net cut room.steps = shown-rows net c.args.layout.now.chart room sound c.net-net.ensures.one_each fits shows in
    let text : c.shot_text.new.text.items ≡ c.loop-i.text.items ++ shot_lines net cut (i + 1) room.steps (rows_at net cut room.steps) =
    c.in_ok-shot_text.ensures.text ∙ ap (λ (shown : List Row). c.loop-i.text.items ++ shot_lines net cut (i + 1) room.steps shown) rows in (
      came.terms ∙ same,
      fits,
      omega (arith, came.reach, goal),
      (λ r there. omega (arith, came.done r (omega (arith, there, count)), goal)),
      subst (AreFirstTold watching watched run net cut c.args.shots (i + 1)) (sym text) (first_told-more watching watched run net cut c.args.shots i c.loop-i.text.items room.steps inv.4 shot told),
      told-more (g.W.Observer.told_held c.args.observer.now (cut_run terms.setup.now)) (g.W.Observer.told_freed c.args.observer.now (cut_run terms.setup.now)) c.args.self.now.knows.log c.loop-i.self.knows.log c.show_on_the_way.new.self.knows.log inv.5
          (subst (λ (t : Terms). AreTold (g.W.Observer.told_held c.args.observer.now (cut_run t.setup.now)) (g.W.Observer.told_freed c.args.observer.now (cut_run t.setup.now)) c.loop-i.self.knows.log c.show_on_the_way.new.self.knows.log) same came.told),
    )

pub returns-clause-shots : goal.returns-clause-shots
returns-clause-shots g c = λ done.
    let setup : SetupValue = c.args.self.now.terms.setup.now in
    let net : Network = c.args.layout.now.net in
    let cut : List ℕ = c.args.layout.now.chart.cut in
    let watching : TellingOfWatchers = g.W.Observer.told_watching c.args.observer.now in
    let watched : TellingOfShots = g.W.Observer.told_watched c.args.observer.now in
    let all : c.loop-i.i ≡ c.args.shots = omega arith in
    first_told-all watching watched (cut_run setup) net cut c.args.shots c.loop-i.text.items c.requires.network.0 (ap (λ (chart : ChartLists). chart.cut) c.requires.network.1)
    (subst (λ n. AreFirstTold watching watched (cut_run setup) net cut c.args.shots n c.loop-i.text.items) all c.loop-i.invariant.4)
