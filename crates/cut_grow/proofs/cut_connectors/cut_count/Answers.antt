use Rattle.std.specs.Prelude.{All, count_by}
use Rattle.std.proofs.Common.{◌≡◌, ℕ, ◌<◌, ◌+◌, List, length, ap, arith, subst, sym, ◌∙◌}
use Rattle.std.proofs.lemmas.List.{take_all}
use Rattle.std.proofs.lemmas.List.Sums.{count_by_more_no, count_by_more_yes}
use Rattle.network_file.specs.Connectors.{cells_of}
use Rattle.network_file.specs.Numbered.{connector_at}
use Rattle.network_file.specs.Sound.{IsNetwork}
use Rattle.network_file.specs.declared.connector.Connector.{Connector}
use Rattle.network_file.specs.declared.connector.Connector.TheVariants.{Link}
use Rattle.network_file.proofs.NetworkFacts.{few_connectors, read_connector}
use Rattle.region_cut.specs.Joins.{crosses}
use Rattle.cut_grow.specs.CutConnectors.{cuts}
use Rattle.cut_grow.proofs.Connectors.{connectors-there}
use Rattle.cut_grow.proofs.cut_connectors.cut_count.Goals.{then-is_cut, else-is_cut}
use Rattle.cut_grow.proofs.cut_connectors.cut_count.Goals as goal

pub is_cut-requires : goal.is_cut-requires
is_cut-requires c =
    let sound : IsNetwork c.args.net.now = subst IsNetwork c.net.view_is c.net.invariant in
    let connectors : List Connector = c.args.net.now.connectors in
    let same : c.net.inside.connectors.items ≡ connectors = ap (λ net. net.connectors) c.net.view_is in
    let there : c.loop-k.k < length connectors = omega (arith, ap (λ (cs : List Connector). length cs) same) in
    let connector : connector_at connectors c.loop-k.k ≡ c.index.result.now =
    read_connector c.net.inside.connectors.items connectors c.loop-k.k c.index.result.now same there c.index.ensures in
    subst (λ n. All (λ i. i < n) (cells_of c.index.result.now)) (sym c.requires)
    (subst (λ one. All (λ i. i < length c.args.net.now.cells) (cells_of one)) connector (connectors-there c.args.net.now sound c.loop-k.k (Link 0 0) there))

pub overflow_add-count : goal.overflow_add-count
overflow_add-count c =
    let sound : IsNetwork c.args.net.now = subst IsNetwork c.net.view_is c.net.invariant in
    let connectors : List Connector = c.args.net.now.connectors in
    let same : c.net.inside.connectors.items ≡ connectors = ap (λ net. net.connectors) c.net.view_is in
    omega (arith, ap (λ (cs : List Connector). length cs) same, few_connectors c.args.net.now sound, c.loop-k.invariant.few)

pub loop-k-preserved : goal.loop-k-preserved
loop-k-preserved c =
    let connectors : List Connector = c.args.net.now.connectors in
    let same : c.net.inside.connectors.items ≡ connectors = ap (λ net. net.connectors) c.net.view_is in
    let k : ℕ = c.loop-k.k in
    let there : k < length connectors = omega (arith, ap (λ (cs : List Connector). length cs) same) in
    let connector : connector_at connectors k ≡ c.index.result.now =
    read_connector c.net.inside.connectors.items connectors k c.index.result.now same there c.index.ensures in
    let crossed : crosses c.args.list.now (connector_at connectors k) ≡ c.is_cut.result = ap (crosses c.args.list.now) connector ∙ sym c.is_cut.ensures in
    elim c.if-is_cut.branch [
      | then-is_cut w ↦ record {
        count =
            w.count-is ∙ ap (λ n. n + 1) c.loop-k.invariant.count ∙
            sym (count_by_more_yes (crosses c.args.list.now) connectors k (Link 0 0) there (crossed ∙ w.if-is_cut.true));
        few = omega (arith, w.count-is, c.loop-k.invariant.few);
      }
      | else-is_cut w ↦ record {
        count =
            w.count-is ∙ c.loop-k.invariant.count ∙
            sym (count_by_more_no (crosses c.args.list.now) connectors k (Link 0 0) there (crossed ∙ w.if-is_cut.false));
        few = omega (arith, w.count-is, c.loop-k.invariant.few);
      }
    ]

pub returns : goal.returns
unfolding cuts
returns c =
    let connectors : List Connector = c.args.net.now.connectors in
    let same : c.net.inside.connectors.items ≡ connectors = ap (λ net. net.connectors) c.net.view_is in
    c.loop-k.invariant.count ∙
    ap (count_by (crosses c.args.list.now)) (take_all c.loop-k.k connectors (omega (arith, ap (λ (cs : List Connector). length cs) same)))
