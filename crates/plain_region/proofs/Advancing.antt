-- One step of a plain region: it can be made, and it is that of the recurrences.
use Rattle.std.specs.Prelude.{Option, None, slice_index, slice_index_or, unwrap_or}
use Rattle.std.specs.List.{Contains}
use Rattle.std.proofs.Common.{◌≡◌, ℕ, ◌<◌, ◌+◌, inl, inr, List, length, get_or, refl, sym, ap, subst, ◌∙◌, arith}
use Rattle.std.proofs.lemmas.Bool.{cases_Bool}
use Rattle.std.proofs.lemmas.List.{length-map, length-replicate}
use Rattle.std.proofs.lemmas.List.Elements.{Contains-get_or}
use Rattle.network_file.specs.Cells.{is_gate_at}
use Rattle.network_file.specs.Network.{Network}
use Rattle.network_file.specs.Sound.{IsNetwork}
use Rattle.flow_model.specs.Flows.{inflow, outflow}
use Rattle.flow_model.specs.Rows.{moved_row, next_row}
use Rattle.flow_model.specs.State.{row_at}
use Rattle.flow_model.specs.Stepping.{rows_after}
use Rattle.flow_model.specs.declared.row.Row.{Row}
use Rattle.flow_model.proofs.Bounds.{changes, moved_row-in_bounds, small}
use Rattle.flow_model.proofs.Flows.{inflow-gate}
use Rattle.region_cut.specs.Chart.{ChartLists, list_at}
use Rattle.region_step.specs.Advance.{HasHaloPut, HasRowsInBounds, advanced, known, next_rows_of}
use Rattle.region_step.specs.Opened.{halo_cells}
use Rattle.region_step.proofs.Advancing.{length-next_rows_of}
use Rattle.region_step.proofs.Ground.{ground}
use Rattle.region_step.proofs.Places.{known-own}
use Rattle.region_step.proofs.Lists.{map_range_same}
use Rattle.plain_region.specs.Carrying.{CanChangeAt, IsChangeOf, IsScene, change_at, enters_in_all, rows_changed}
use Rattle.plain_region.specs.Opened.{IsIn}
use Rattle.plain_region.specs.Plain.{PlainValue}
use Rattle.plain_region.specs.declared.change.Change.{Change}
use Rattle.plain_region.specs.declared.region_connector.RegionConnector.{RegionConnector}

pub scene : (net : Network) (chart : ChartLists) (region : PlainValue) → IsNetwork net → IsIn net chart region → region.state.step < net.steps →
    HasRowsInBounds net chart region.state → HasHaloPut net chart region.state →
    IsScene net region.state.step (list_at chart.cells region.state.number) (halo_cells chart region.state.number) region.body.connectors region.state.rows region.state.put
scene net chart region sound inside before bounds halo =
    let r : ℕ = region.state.number in
    let here = ground net chart.cut chart r sound inside.charted inside.one_of.there in
    record {
      sound = sound;
      before = before;
      apart = here.apart;
      there = λ k d within. (here.own (get_or (list_at chart.cells r) k d) (Contains-get_or (list_at chart.cells r) k d within)).0;
      found = inside.connectors.each;
      whole = λ i k own there touched. subst (λ numbers. Contains numbers k) (sym inside.connectors.numbered) (here.whole i k own there touched);
      row_each = inside.one_of.rows;
      put_each = inside.one_of.put ∙ sym (length-map (list_at chart.halo r) (λ halo. halo.cell));
      own = bounds.each;
      around = λ j within.
          let told = halo.each j within in
          let put : unwrap_or (slice_index_or region.state.put j None) 0 ≡ told.0 = ap (λ n. unwrap_or n 0) told.1 in
          rw put told.2;
    }

-- the same of what was read from the region
pub scene-read : (net : Network) (chart : ChartLists) (region : PlainValue) (t : ℕ) (cells halo : List ℕ) (connectors : List RegionConnector) (rows : List Row) (put : List (Option ℕ)) →
    IsNetwork net → IsIn net chart region → region.state.step < net.steps → HasRowsInBounds net chart region.state → HasHaloPut net chart region.state →
    t ≡ region.state.step → cells ≡ list_at chart.cells region.state.number → halo ≡ halo_cells chart region.state.number → connectors ≡ region.body.connectors →
    rows ≡ region.state.rows → put ≡ region.state.put → IsScene net t cells halo connectors rows put
scene-read net chart region t cells halo connectors rows put sound inside before bounds told at own around found row_each put_each =
    rw (at, own, around, found, row_each, put_each) (scene net chart region sound inside before bounds told)

-- what enters in all is the inflow, and so the row can change
enters-is : (net : Network) (t i : ℕ) (n : ℕ → ℕ) (change : Change) → IsChangeOf net t n i change → enters_in_all net t i change ≡ inflow net t n i
enters-is net t i n change is = elim (cases_Bool (is_gate_at net.cells i)) [
  | inl gate ↦ rw gate (sym (inflow-gate net t i n gate))
  | inr other ↦ rw other (is.enters other)
]

pub can_change : (net : Network) (t : ℕ) (cells halo : List ℕ) (connectors : List RegionConnector) (rows : List Row) (put : List (Option ℕ)) (all : List Change) (p : ℕ) →
    IsScene net t cells halo connectors rows put → p < length cells → IsChangeOf net t (known cells halo rows put) (slice_index cells p) (change_at all p) →
    CanChangeAt net t cells rows all p
can_change net t cells halo connectors rows put all p scene within is =
    let n : ℕ → ℕ = known cells halo rows put in
    let i : ℕ = slice_index cells p in
    let row : Row = row_at rows p in
    let has : i < length net.cells = scene.there p 0 within in
    let own : n i ≡ row.n = known-own cells halo rows put p scene.apart within in
    let change = rw own at (changes net t i n (inflow net t n i) (outflow net t n i) scene.sound has (λ gate. inflow-gate net t i n gate) (omega arith) (omega arith)) in
    let after = small net (t + 1) i (moved_row net i row (inflow net t n i) (outflow net t n i)) scene.sound (omega (arith, scene.before)) has
    (moved_row-in_bounds net t i row (inflow net t n i) (outflow net t n i) scene.sound scene.before has (scene.own p within) change) in
    let now = small net t i row scene.sound (omega (arith, scene.before)) has (scene.own p within) in
    let enters = enters-is net t i n (change_at all p) is in
    record {
      there = has;
      can = rw (enters, is.leaves) (record {
        held = change.held;
        n = omega (arith, after.n, change.held, change.sent);
        come = omega (arith, after.come);
        gone = omega (arith, after.gone);
        wait = omega (arith, now.wait, now.n);
      });
    }

-- the rows are those of the recurrences
pub rows_changed-is : (net : Network) (t : ℕ) (cells : List ℕ) (rows : List Row) (all : List Change) (n : ℕ → ℕ) →
    ((p : ℕ) → p < length cells → IsChangeOf net t n (slice_index cells p) (change_at all p)) → rows_changed net t cells rows all ≡ rows_after net t n cells rows
unfolding rows_changed rows_after next_row
rows_changed-is net t cells rows all n is =
    map_range_same
    (λ p. moved_row net (slice_index cells p) (row_at rows p) (enters_in_all net t (slice_index cells p) (change_at all p)) (change_at all p).leaves)
    (λ p. next_row net t n (slice_index cells p) (row_at rows p)) (length cells)
    (λ p within. rw (enters-is net t (slice_index cells p) n (change_at all p) (is p within), (is p within).leaves) refl)

-- the rows of what was read from the region
pub next_rows-read : (net : Network) (chart : ChartLists) (region : PlainValue) (t : ℕ) (cells halo : List ℕ) (rows : List Row) (put : List (Option ℕ)) →
    t ≡ region.state.step → cells ≡ list_at chart.cells region.state.number → halo ≡ halo_cells chart region.state.number → rows ≡ region.state.rows → put ≡ region.state.put →
    rows_after net t (known cells halo rows put) cells rows ≡ next_rows_of net chart region.state
next_rows-read net chart region t cells halo rows put at own around row_each put_each = rw (at, own, around, row_each, put_each) refl

-- a region with the same connectors and borders that has come a step on
pub advanced-inside : (net : Network) (chart : ChartLists) (old new : PlainValue) → IsIn net chart old → old.state.step < net.steps → new.state ≡ advanced net chart old.state →
    new.body.connectors ≡ old.body.connectors → new.body.border ≡ old.body.border → IsIn net chart new
unfolding advanced
advanced-inside net chart old new inside before is connectors border =
    record {
      charted = inside.charted;
      one_of = rw (is, border) (record {
        there = inside.one_of.there;
        rows = length-next_rows_of net chart old.state;
        before = length-map old.state.rows (λ row. row.n) ∙ inside.one_of.rows;
        put = length-replicate (length old.state.put) None ∙ inside.one_of.put;
        border = inside.one_of.border;
      });
      in_time = rw is (omega (arith, before));
      connectors = rw (is, connectors) inside.connectors;
    }
