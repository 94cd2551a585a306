use Rattle.std.specs.Prelude.{All, ◌==◌, if◌then◌else◌}
use Rattle.std.specs.List.{filter, list_any, range_with_len}
use Rattle.std.proofs.Common.{◌≡◌, ℕ, ◌<◌, [], ◌∷◌, ◌++◌, length, get_or, arith, ap, subst, sym, ◌∙◌}
use Rattle.std.proofs.lemmas.List.Elements.{All-map}
use Rattle.network_file.specs.Numbered.{connector_at}
use Rattle.region_cut.specs.Chart.{connectors_of}
use Rattle.region_cut.specs.Cuttings.{region_at}
use Rattle.region_cut.specs.Neighbours.{touches_region}
use Rattle.region_cut.proofs.Anys.{list_any-map}
use Rattle.region_cut.proofs.ConnectorCells.{taken, taken-there}
use Rattle.region_cut.proofs.ListsByRegion.{lists_are}
use Rattle.region_cut.proofs.Ranges.{filter_range_more}
use Rattle.region_cut.proofs.connector_lists.connectors_by_region.Goals as goal

pub regions_at-requires : goal.regions_at-requires
regions_at-requires c =
    let there : c.loop-k.k < length c.args.net.now.connectors = omega (arith, ap (λ net. length net.connectors) c.net.view_is, c.net.inside.connectors.ok.0) in
    taken-there (taken c.net.invariant c.net.view_is there c.index.ensures c.three_cells-cells.ensures.same) c.requires.one_each

pub push_at_each-requires : goal.push_at_each-requires
push_at_each-requires c =
    let there : c.loop-k.k < length c.args.net.now.connectors = omega (arith, ap (λ net. length net.connectors) c.net.view_is, c.net.inside.connectors.ok.0) in
    let cells : All (λ i. i < length c.args.cut.now) c.three_cells-cells.result = taken-there (taken c.net.invariant c.net.view_is there c.index.ensures c.three_cells-cells.ensures.same) c.requires.one_each in
    subst (λ n. All (λ r. r < n) c.regions_at.result) (sym c.loop-k.invariant.count)
    (subst (All (λ r. r < c.args.regions)) (sym c.regions_at.ensures)
    (All-map (λ r. r < c.args.regions) (region_at c.args.cut.now) c.three_cells-cells.result
    (λ j d within. c.requires.there (get_or c.three_cells-cells.result j d) 0 (cells j d within))))

pub loop-k-preserved : goal.loop-k-preserved
loop-k-preserved c =
    let there : c.loop-k.k < length c.args.net.now.connectors = omega (arith, ap (λ net. length net.connectors) c.net.view_is, c.net.inside.connectors.ok.0) in
    let cells = taken c.net.invariant c.net.view_is there c.index.ensures c.three_cells-cells.ensures.same in
    let k : ℕ = c.loop-k.k in
    record {
      count = c.in_ok-push_at_each.ensures.count ∙ c.loop-k.invariant.count;
      lists = λ r within.
          let touched : list_any (λ q. q == r) c.regions_at.result ≡ touches_region c.args.cut.now r (connector_at c.args.net.now.connectors k) =
          ap (list_any (λ q. q == r)) c.regions_at.ensures ∙ list_any-map (λ q. q == r) (region_at c.args.cut.now) c.three_cells-cells.result ∙
          cells.same (λ i. region_at c.args.cut.now i == r) in
          let before = filter (λ j. touches_region c.args.cut.now r (connector_at c.args.net.now.connectors j)) (range_with_len 0 k) in
          c.in_ok-push_at_each.ensures.lists r ∙
          ap (λ front. front ++ (if list_any (λ q. q == r) c.regions_at.result then k ∷ [] else [])) (c.loop-k.invariant.lists r within) ∙
          ap (λ b. before ++ (if b then k ∷ [] else [])) touched ∙
          sym (filter_range_more (λ j. touches_region c.args.cut.now r (connector_at c.args.net.now.connectors j)) k);
    }

pub returns-clause-lists : goal.returns-clause-lists
unfolding connectors_of
returns-clause-lists c =
    let connectors : length c.net.inside.connectors.items ≡ length c.args.net.now.connectors = ap (λ net. length net.connectors) c.net.view_is in
    let all : c.loop-k.k ≡ length c.args.net.now.connectors = omega (arith, connectors, c.net.inside.connectors.ok.0) in
    lists_are (connectors_of c.args.net.now c.args.cut.now) c.loop-k.lists c.args.regions c.loop-k.invariant.count
    (λ r within.
    c.loop-k.invariant.lists r within ∙
    ap (λ n. filter (λ j. touches_region c.args.cut.now r (connector_at c.args.net.now.connectors j)) (range_with_len 0 n)) all)
