use Rattle.std.specs.Prelude.{All, map, slice_index, sum}
use Rattle.std.specs.List.{AllZip}
use Rattle.std.proofs.Common.{◌≡◌, ℕ, ◌<◌, ◌+◌, ◌-◌, ◌*◌, ◌/◌, ◌%◌, ◌^◌, List, length, get_or, refl, ap, arith, subst, sym, ◌∙◌}
use Rattle.std.proofs.lemmas.List.{get_or_default}
use Rattle.network_file.specs.Sound.{IsNetwork}
use Rattle.network_file.proofs.NetworkFacts.{few_cells, few_connectors, few_records}
use Rattle.cut_grow.specs.Grown.{runs_from}
use Rattle.cut_grow.specs.Most.{AreGainsOf, most}
use Rattle.cut_grow.specs.Spans.{AreGains, ArePlaces, AreWithin, IsSpan}
use Rattle.cut_grow.specs.declared.gains.Gains.{Gains}
use Rattle.cut_grow.specs.declared.sizes.Sizes.{Sizes}
use Rattle.cut_grow.specs.declared.span.Span.{Span}
use Rattle.cut_grow.proofs.Bests.{best-runs, places-below, spans-within}
use Rattle.cut_grow.proofs.Connectors.{connectors-there}
use Rattle.cut_grow.proofs.EvenSizes.{sizes-whole}
use Rattle.cut_grow.proofs.GainsReady.{gains-ready}
use Rattle.cut_grow.proofs.InsideRuns.{zip_length}
use Rattle.cut_grow.proofs.Tabling.{entry-within}
use Rattle.cut_grow.proofs.best.best_in.Goals.{After-net, In_ok-spans, In_ok-large}
use Rattle.cut_grow.proofs.best.best_in.Goals as goal

sound : (c : After-net) → IsNetwork c.args.net.now
sound c = subst IsNetwork c.net.view_is c.net.invariant

-- the spans are those of the connectors: few, and within the cells
zipped : (c : In_ok-spans) → AllZip (IsSpan c.in_ok-places.places.items) c.args.net.now.connectors c.in_ok-spans.spans.items
zipped c =
    let connectors : c.as_slice-connectors.result.now ≡ c.args.net.now.connectors = c.as_slice-connectors.ensures.value ∙ ap (λ net. net.connectors) c.net.view_is in
    rw (connectors, c.deref.ensures.value) at c.in_ok-spans.ensures

few_spans : (c : In_ok-spans) → length c.in_ok-spans.spans.items < 2 ^ 32
few_spans c =
    omega (arith, zip_length (IsSpan c.in_ok-places.places.items) c.args.net.now.connectors c.in_ok-spans.spans.items (zipped c), few_connectors c.args.net.now (subst IsNetwork c.net.view_is c.net.invariant))

within : (c : In_ok-spans) → AreWithin (length c.args.order.now) c.in_ok-spans.spans.items
within c =
    subst (λ n. AreWithin n c.in_ok-spans.spans.items) (sym c.requires.order.long)
    (spans-within (length c.args.net.now.cells) c.in_ok-places.places.items c.args.net.now.connectors c.in_ok-spans.spans.items
    (subst (λ n. ArePlaces n c.args.order.now c.in_ok-places.places.items) c.requires.order.long c.in_ok-places.ensures).there
    (connectors-there c.args.net.now (subst IsNetwork c.net.view_is c.net.invariant)) (zipped c))

-- the gains are those of the two sizes
ready : (c : In_ok-large) → length c.in_ok-spans.spans.items < 2 ^ 32 →
    AreGainsOf (length c.in_ok-small.small.items)
    (record { floor = length c.args.order.now / c.args.k; smalls = c.args.k - length c.args.order.now % c.args.k; larges = length c.args.order.now % c.args.k })
    (record { spans = c.in_ok-spans.spans; small = c.in_ok-small.small; large = c.in_ok-large.large })
ready c few =
    let cells : ℕ = length c.args.order.now in
    let sound : IsNetwork c.args.net.now = subst IsNetwork c.net.view_is c.net.invariant in
    let sizes : Sizes = record { floor = cells / c.args.k; smalls = c.args.k - cells % c.args.k; larges = cells % c.args.k } in
    let gains : Gains = record { spans = c.in_ok-spans.spans; small = c.in_ok-small.small; large = c.in_ok-large.large } in
    gains-ready cells c.args.k sizes gains c.requires.some (omega arith) (omega (arith, c.requires.order.long))
    (omega (arith, c.requires.order.long, few_records c.args.net.now.format, sound.sound.few_cells))
    few refl refl refl
    (subst (λ spans. AreGains spans cells (cells / c.args.k) c.in_ok-small.small.items) c.deref-2.ensures.value c.in_ok-small.ensures)
    (subst (λ spans. AreGains spans cells (cells / c.args.k + 1) c.in_ok-large.large.items) c.deref-3.ensures.value c.in_ok-large.ensures)

pub overflow_cast-cells : goal.overflow_cast-cells
overflow_cast-cells c = omega (arith, few_cells c.args.net.now (sound (goal.at.overflow_cast-cells c).After-net), c.requires.order.long)

pub places-requires-clause-few : goal.places-requires-clause-few
places-requires-clause-few c = omega (arith, few_cells c.args.net.now (sound (goal.at.places-requires-clause-few c).After-net), c.requires.order.long)

pub run_gains-requires-clause-few : goal.run_gains-requires-clause-few
run_gains-requires-clause-few c =
    omega (arith, few_spans (goal.at.run_gains-requires-clause-few c).In_ok-spans, ap (λ (spans : List Span). length spans) c.deref-2.ensures.value)

pub run_gains-requires-clause-within : goal.run_gains-requires-clause-within
run_gains-requires-clause-within c =
    subst (AreWithin (length c.args.order.now)) (sym c.deref-2.ensures.value) (within (goal.at.run_gains-requires-clause-within c).In_ok-spans)

pub run_gains-requires-2-clause-few : goal.run_gains-requires-2-clause-few
run_gains-requires-2-clause-few c =
    omega (arith, few_spans (goal.at.run_gains-requires-2-clause-few c).In_ok-spans, ap (λ (spans : List Span). length spans) c.deref-3.ensures.value)

pub run_gains-requires-2-clause-within : goal.run_gains-requires-2-clause-within
run_gains-requires-2-clause-within c =
    subst (AreWithin (length c.args.order.now)) (sym c.deref-3.ensures.value) (within (goal.at.run_gains-requires-2-clause-within c).In_ok-spans)

pub table-requires : goal.table-requires
table-requires c = record { gains = ready (goal.at.table-requires c).In_ok-large (few_spans (goal.at.table-requires c).In_ok-spans) }

pub best_runs-requires-clause-gains : goal.best_runs-requires-clause-gains
best_runs-requires-clause-gains c = ready (goal.at.best_runs-requires-clause-gains c).In_ok-large (few_spans (goal.at.best_runs-requires-clause-gains c).In_ok-spans)

pub regions-requires-clause-there : goal.regions-requires-clause-there
regions-requires-clause-there c =
    let cells : ℕ = length c.args.order.now in
    let whole : sum c.deref-5.result.now ≡ cells = ap sum c.deref-5.ensures.value ∙ c.in_ok-runs.ensures.whole ∙ sizes-whole cells c.args.k c.requires.some in
    subst (λ places. All (λ p. p < sum c.deref-5.result.now) places) (sym c.deref-6.ensures.value)
    (subst (λ n. All (λ p. p < n) c.in_ok-places.places.items) (sym whole) (places-below cells c.args.order.now c.in_ok-places.places.items c.in_ok-places.ensures))

pub returns : goal.returns
returns c =
    let inverse : ArePlaces (length c.args.net.now.cells) c.args.order.now c.in_ok-places.places.items =
    subst (λ n. ArePlaces n c.args.order.now c.in_ok-places.places.items) c.requires.order.long c.in_ok-places.ensures in
    let sizes : Sizes = record { floor = length c.args.order.now / c.args.k; smalls = c.args.k - length c.args.order.now % c.args.k; larges = length c.args.order.now % c.args.k } in
    let is : c.in_ok-regions.regions.items ≡ map (slice_index (runs_from 0 c.in_ok-runs.runs.items)) c.in_ok-places.places.items =
    c.in_ok-regions.ensures ∙ ap (λ runs. map (slice_index (runs_from 0 runs)) c.deref-6.result.now) c.deref-5.ensures.value ∙
    ap (map (slice_index (runs_from 0 c.in_ok-runs.runs.items))) c.deref-6.ensures.value in
    let last : ℕ = sizes.smalls * (sizes.larges + 1) + sizes.larges in
    let there : last < length c.in_ok-best.best.items = omega (arith, entry-within sizes sizes.smalls sizes.larges (omega arith) (omega arith), c.in_ok-best.ensures.long) in
    let at_end : c.len.result - 1 ≡ last = omega (arith, c.len.ensures, c.in_ok-best.best.ok.0, c.in_ok-best.ensures.long) in
    let kept : c.index.result.now ≡ most c.in_ok-spans.spans.items sizes.floor sizes.smalls sizes.larges =
    c.index.ensures ∙ ap (λ p. get_or c.in_ok-best.best.items p c.index.result.now) at_end ∙ get_or_default c.in_ok-best.best.items last c.index.result.now 0 there ∙
    c.in_ok-best.ensures.table.each sizes.smalls sizes.larges (omega arith) (omega arith) there in
    best-runs c.args.net.now c.args.k sizes c.args.order.now c.in_ok-places.places.items c.in_ok-runs.runs.items c.in_ok-regions.regions.items c.in_ok-spans.spans.items c.index.result.now
    (sound (goal.at.returns c).After-net) c.requires.some (omega arith) c.requires.cells c.requires.order inverse (zipped (goal.at.returns c).In_ok-spans)
    (ap (λ n. n / c.args.k) c.requires.order.long) (ap (λ n. c.args.k - n % c.args.k) c.requires.order.long) (ap (λ n. n % c.args.k) c.requires.order.long)
    c.in_ok-runs.ensures is kept
