use Rattle.std.specs.Prelude.{Some, map, slice_index, slice_set}
use Rattle.std.specs.List.{Contains}
use Rattle.std.proofs.Common.{◌≡◌, ℕ, ◌<◌, ◌+◌, length, get_or, sym, ap, subst, ◌∙◌, arith}
use Rattle.std.proofs.lemmas.List.{get_or-map, get_or-set_other, get_or-set_same, length-map}
use Rattle.std.proofs.lemmas.List.Elements.{Contains-get_or}
use Rattle.network_file.specs.Network.{Network}
use Rattle.network_file.specs.Sound.{IsNetwork}
use Rattle.flow_model.specs.Bounds.{IsHeldInBounds}
use Rattle.region_cut.specs.Chart.{ChartLists, list_at}
use Rattle.region_cut.specs.declared.halo.Halo.{Halo}
use Rattle.region_step.specs.Opened.{halo_cells}
use Rattle.region_step.specs.Region.{RegionState}
use Rattle.region_step.proofs.Ground.{ground}
use Rattle.run_trials.specs.Rounds.{IsShaped, IsTold}
use Rattle.run_trials.proofs.Telling.{AllAt-set, border-in_bounds, put-at, told-more}
use Rattle.run_trials.proofs.rounds.tell_halo.Goals as goal

pub overflow_cast-j : goal.overflow_cast-j
overflow_cast-j g c =
    let here = ground c.args.layout.now.net c.args.layout.now.chart.cut c.args.layout.now.chart c.args.r (subst IsNetwork (c.net.view_is ∙ c.net-net.ensures.network) c.net.invariant) c.net-net.ensures.charted c.requires.there in
    omega (arith, c.loop-j-test.true, ap length c.halo-halo.ensures.list, length-map (list_at c.args.layout.now.chart.halo c.args.r) (λ halo. halo.cell), here.few_halo)

blank : Halo
blank = record { cell = 0; region = 0; place = 0 }

pub loop-j-preserved : goal.loop-j-preserved
unfolding blank
loop-j-preserved g c =
    let net : Network = c.args.layout.now.net in
    let chart : ChartLists = c.args.layout.now.chart in
    let r : ℕ = c.args.r in
    let j : ℕ = c.loop-j.j in
    let other : Halo = get_or c.halo-halo.result.now j blank in
    let listed : Contains (list_at chart.halo r) other = subst (λ list. Contains list other) c.halo-halo.ensures.list (Contains-get_or c.halo-halo.result.now j blank c.loop-j-test.true) in
    let cell : other.cell ≡ slice_index (halo_cells chart r) j =
    sym (get_or-map (λ halo. halo.cell) c.halo-halo.result.now j blank 0 c.loop-j-test.true) ∙ ap (λ list. slice_index (map (λ halo. halo.cell) list) j) c.halo-halo.ensures.list in
    let within : r < length c.loop-j.bodies = omega (arith, c.requires.there, c.loop-j.invariant.at.one_each) in
    let there : other.region < length c.loop-j.bodies = omega (arith, (c.halo-halo.ensures.there j blank c.loop-j-test.true).region, c.loop-j.invariant.at.one_each) in
    let around = c.loop-j.invariant.at.each other.region c.index-bodies-other.result there in
    let own = c.loop-j.invariant.at.each r c.index-bodies-r.result within in
    let near : RegionState = g.B.Body.state (get_or c.loop-j.bodies other.region c.index-bodies-other.result) in
    let state : RegionState = g.B.Body.state (get_or c.loop-j.bodies r c.index-bodies-r.result) in
    let n : ℕ = c.at_border-n.result in
    let held : IsHeldInBounds net near.step other.cell n =
    border-in_bounds net chart near other r n c.regions-regions.ensures.sound c.requires.there listed around.1.number around.1.bounds c.at_border-n.ensures in
    let at_step : IsHeldInBounds net state.step other.cell n = subst (λ s. IsHeldInBounds net s other.cell n) (around.1.step ∙ sym own.1.step) held in
    let here : IsHeldInBounds net state.step (slice_index (halo_cells chart state.number) j) n =
    subst (λ q. IsHeldInBounds net state.step (slice_index (halo_cells chart q) j) n) (sym own.1.number) (subst (λ i. IsHeldInBounds net state.step i n) cell at_step) in
    let shaped : IsShaped chart state = g.met.B.Body.shaped net chart (get_or c.loop-j.bodies r c.index-bodies-r.result) own.0 in
    let inside : j < length state.put = omega (arith, shaped.put, ap (λ q. length (list_at chart.halo q)) own.1.number, ap length c.halo-halo.ensures.list, c.loop-j-test.true) in
    let told : IsTold net chart (j + 1) (g.B.Body.state c.tell.new.self) =
    told-more net chart j n state (g.B.Body.state c.tell.new.self) (c.loop-j.invariant.told c.index-bodies-r.result) inside here c.tell.ensures.put in
    record {
      at = AllAt-set (g.B.Body.is_in net chart) g.B.Body.state net chart c.args.t r c.loop-j.bodies c.tell.new.self c.loop-j.invariant.at within (c.tell.ensures.opened net chart own.0)
          (put-at net chart r c.args.t state (g.B.Body.state c.tell.new.self) (slice_set state.put j (Some n)) own.1 c.tell.ensures.put);
      told = λ body. subst (λ x. IsTold net chart (j + 1) (g.B.Body.state x)) (sym (get_or-set_same c.loop-j.bodies r c.tell.new.self body within)) told;
      others = λ q body differ. get_or-set_other c.loop-j.bodies r q c.tell.new.self body differ ∙ c.loop-j.invariant.others q body differ;
    }
