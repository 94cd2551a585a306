-- A room is filled with a region, cell after cell.
use Rattle.std.specs.Prelude.{slice_index}
use Rattle.std.specs.List.Sorted.{IsStrictlyIncreasing}
use Rattle.std.proofs.Common.{◌≡◌, ◌≢◌, ℕ, zero, suc, ◌+◌, ◌<◌, ◌≤◌, inl, inr, List, length, set, sym, ap, subst, ◌∙◌, arith}
use Rattle.std.proofs.lemmas.Bool.{cases_eq}
use Rattle.std.proofs.lemmas.List.{get_or-set_other, get_or-set_same, length-set}
use Rattle.std.proofs.lemmas.List.Elements.{Contains-get_or}
use Rattle.flow_model.specs.State.{row_at}
use Rattle.flow_model.specs.declared.row.Row.{Row}
use Rattle.region_cut.specs.Chart.{ChartLists, IsChart, list_at}
use Rattle.region_cut.specs.Cuttings.{region_at, region_count}
use Rattle.region_cut.proofs.Increasing.{rising}
use Rattle.region_step.specs.Region.{RegionValue}
use Rattle.snapshot.specs.Rooms.{RoomValue, cell_of}

-- the number at a place of a rising list is no less than the place
pub place-le : (xs : List ℕ) → IsStrictlyIncreasing xs → (k : ℕ) → k < length xs → k ≤ slice_index xs k
place-le xs rise zero within = omega arith
place-le xs rise (suc k) within =
    let before : k ≤ slice_index xs k = place-le xs rise k (omega (arith, within)) in
    let next : k + 1 ≡ suc k = omega arith in
    omega (arith, before, rise k (omega (arith, within)), ap (slice_index xs) next)

-- later ones are higher
strictly : (xs : List ℕ) → IsStrictlyIncreasing xs → (j k : ℕ) → j < k → k < length xs → slice_index xs j < slice_index xs k
strictly xs rise j k before within = omega (arith, rise j (omega (arith, before, within)), rising xs rise (j + 1) k (omega (arith, before)) within)

-- the first p cells of a region are shown, and those of others as they were
pub record Fills (chart : ChartLists) (region : RegionValue) (old : RoomValue) (rows : List Row) (earlier : List ℕ) (p : ℕ) : Type 0 where
  pub long : (length rows ≡ length chart.cut) × (length earlier ≡ length chart.cut)
  pub shown : (k : ℕ) → k < p → row_at rows (cell_of chart region.state.number k) ≡ row_at region.state.rows k
  pub before : (k : ℕ) → k < p → slice_index earlier (cell_of chart region.state.number k) ≡ slice_index region.state.before k
  pub others : (i : ℕ) → region_at chart.cut i ≢ region.state.number → (row_at rows i ≡ row_at old.rows i) × (slice_index earlier i ≡ slice_index old.earlier i)

pub fills-more : (chart : ChartLists) (region : RegionValue) (old : RoomValue) (rows : List Row) (earlier : List ℕ) (p held : ℕ) (row : Row) → IsChart chart → region.state.number < region_count chart.cut →
    p < length (list_at chart.cells region.state.number) → Fills chart region old rows earlier p → row ≡ row_at region.state.rows p → held ≡ slice_index region.state.before p →
    Fills chart region old (set rows (cell_of chart region.state.number p) row) (set earlier (cell_of chart region.state.number p) held) (p + 1)
fills-more chart region old rows earlier p held row sound there within fills is_row is_held =
    let r : ℕ = region.state.number in
    let cells : List ℕ = list_at chart.cells r in
    let at : ℕ = cell_of chart r p in
    let facts = sound.regions r there in
    let own = facts.own at (Contains-get_or cells p 0 within) in
    let same : (k : ℕ) → k < p + 1 → k ≢ p → cell_of chart r k ≢ at = λ k low other is. absurd (omega (arith, is, strictly cells facts.cells k p (omega (arith, low, other)) within)) in
    record {
      long = (length-set rows at row ∙ fills.long.0, length-set earlier at held ∙ fills.long.1);
      shown = λ k low. elim (cases_eq k p) [
        | inl is ↦ subst (λ q. row_at (set rows at row) (cell_of chart r q) ≡ row_at region.state.rows q) (sym is) (get_or-set_same rows at row _ (omega (arith, own.0, fills.long.0)) ∙ is_row)
        | inr other ↦ get_or-set_other rows at (cell_of chart r k) row _ (same k low other) ∙ fills.shown k (omega (arith, low, other))
      ];
      before = λ k low. elim (cases_eq k p) [
        | inl is ↦ subst (λ q. slice_index (set earlier at held) (cell_of chart r q) ≡ slice_index region.state.before q) (sym is) (get_or-set_same earlier at held 0 (omega (arith, own.0, fills.long.1)) ∙ is_held)
        | inr other ↦ get_or-set_other earlier at (cell_of chart r k) held 0 (same k low other) ∙ fills.before k (omega (arith, low, other))
      ];
      others = λ i away.
          let apart : i ≢ at = λ is. away (ap (region_at chart.cut) is ∙ own.1) in
          (get_or-set_other rows at i row _ apart ∙ (fills.others i away).0, get_or-set_other earlier at i held 0 apart ∙ (fills.others i away).1);
    }
