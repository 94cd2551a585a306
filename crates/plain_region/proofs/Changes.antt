-- What one connector moves: the change of each of the region's own cells.
use Rattle.std.specs.Prelude.{eqb, ◌==◌, ◌||◌, slice_index, if◌then◌else◌}
use Rattle.std.specs.List.{IsDistinct}
use Rattle.std.proofs.Common.{◌≡◌, ℕ, ◌<◌, ◌+◌, inl, inr, true, false, List, length, get_or, set, refl, sym, ap, ◌∙◌, arith}
use Rattle.std.proofs.lemmas.Bool.{cases_Bool, cases_eq, eq-eqb, eqb-true, ne_eqb}
use Rattle.std.proofs.lemmas.List.{get_or-set_other, get_or-set_same, length-set}
use Rattle.network_file.specs.Connectors.{downstream_of, leads_into, leads_out_of, upstream_of}
use Rattle.network_file.specs.declared.connector.Connector.{Connector}
use Rattle.network_file.specs.declared.connector.Connector.TheVariants.{Link, Merge, Diverge}
use Rattle.flow_model.specs.Flows.{entering, leaving}
use Rattle.flow_model.specs.declared.carried.Flow.{Flow}
use Rattle.region_cut.specs.ConnectorCells.{three_cells}
use Rattle.region_step.specs.Apart.{AreApart}
use Rattle.plain_region.specs.Carrying.{change_at, moved_by, no_change, with_entering, with_leaving}
use Rattle.plain_region.specs.RegionConnectors.{IsRefOf, ref_at}
use Rattle.plain_region.specs.declared.change.Change.{Change}
use Rattle.plain_region.specs.declared.cell_ref.CellRef.{CellRef}
use Rattle.plain_region.specs.declared.cell_ref.CellRef.TheVariants.{Own, Halo}
use Rattle.plain_region.specs.declared.region_connector.RegionConnector.{RegionConnector}
use Rattle.region_step.proofs.Places.{one_place}
use Rattle.region_step.proofs.Places.{own-not_halo}

pub length-with_leaving : (changes : List Change) (place : CellRef) (parts : ℕ) → length (with_leaving changes place parts) ≡ length changes
length-with_leaving changes (Own p) parts = length-set changes p _
length-with_leaving changes (Halo p) parts = refl

pub length-with_entering : (changes : List Change) (place : CellRef) (parts : ℕ) → length (with_entering changes place parts) ≡ length changes
length-with_entering changes (Own p) parts = length-set changes p _
length-with_entering changes (Halo p) parts = refl

-- what leaves cell i, written at its place: the change of each own cell then
pub leaving-at : (cells halo : List ℕ) (changes : List Change) (i p parts : ℕ) (place : CellRef) → AreApart cells halo → length changes ≡ length cells → p < length cells → IsRefOf cells halo i place →
    let after = change_at (with_leaving changes place parts) p in let before = change_at changes p in
    (after.leaves ≡ (if slice_index cells p == i then parts else before.leaves)) × (after.enters ≡ before.enters)
leaving-at cells halo changes i p parts (Own q) apart long within (there, is) = elim (cases_eq p q) [
  | inl same ↦
      let own : (slice_index cells p == i) ≡ true = eq-eqb (slice_index cells p) i (ap (slice_index cells) same ∙ is) in
      let set_here : get_or (set changes q (record (change_at changes q) { leaves = parts })) q no_change ≡ record (change_at changes q) { leaves = parts } =
      get_or-set_same changes q (record (change_at changes q) { leaves = parts }) no_change (omega (arith, long, there)) in
      rw (own, same, set_here) (refl, refl)
  | inr other ↦
      let apart_cells : (slice_index cells p == i) ≡ false = ne_eqb (slice_index cells p) i (λ equal. other (one_place cells p q apart.rising within there (equal ∙ sym is))) in
      rw (apart_cells, get_or-set_other changes q p (record (change_at changes q) { leaves = parts }) no_change other) (refl, refl)
]
leaving-at cells halo changes i p parts (Halo q) apart long within (there, is) =
    let other : (slice_index cells p == i) ≡ false = ne_eqb (slice_index cells p) i (λ equal. own-not_halo cells halo p q apart within there (equal ∙ sym is)) in
    rw other (refl, refl)

pub entering-at : (cells halo : List ℕ) (changes : List Change) (i p parts : ℕ) (place : CellRef) → AreApart cells halo → length changes ≡ length cells → p < length cells → IsRefOf cells halo i place →
    let after = change_at (with_entering changes place parts) p in let before = change_at changes p in
    (after.enters ≡ (if slice_index cells p == i then parts else before.enters)) × (after.leaves ≡ before.leaves)
entering-at cells halo changes i p parts (Own q) apart long within (there, is) = elim (cases_eq p q) [
  | inl same ↦
      let own : (slice_index cells p == i) ≡ true = eq-eqb (slice_index cells p) i (ap (slice_index cells) same ∙ is) in
      let set_here : get_or (set changes q (record (change_at changes q) { enters = parts })) q no_change ≡ record (change_at changes q) { enters = parts } =
      get_or-set_same changes q (record (change_at changes q) { enters = parts }) no_change (omega (arith, long, there)) in
      rw (own, same, set_here) (refl, refl)
  | inr other ↦
      let apart_cells : (slice_index cells p == i) ≡ false = ne_eqb (slice_index cells p) i (λ equal. other (one_place cells p q apart.rising within there (equal ∙ sym is))) in
      rw (apart_cells, get_or-set_other changes q p (record (change_at changes q) { enters = parts }) no_change other) (refl, refl)
]
entering-at cells halo changes i p parts (Halo q) apart long within (there, is) =
    let other : (slice_index cells p == i) ≡ false = ne_eqb (slice_index cells p) i (λ equal. own-not_halo cells halo p q apart within there (equal ∙ sym is)) in
    rw other (refl, refl)

-- the change of cell i by a connector: what it carries out of the cell and into it, where it leads there
abbrev pub ChangesBy : (i : ℕ) → Connector → Flow → (before after : Change) → Type 0
ChangesBy i connector flow before after =
    (after.leaves ≡ (if leads_out_of i connector then leaving i connector flow else before.leaves)) ×
    (after.enters ≡ (if leads_into i connector then entering i connector flow else before.enters))

-- one cell, or two that differ

one_amount : (i a x y before after : ℕ) → after ≡ (if i == a then x else before) →
    after ≡ (if (eqb i a || false) then ((if i == a then x else 0) + 0) else before)
one_amount i a x y before after is = elim (cases_Bool (i == a)) [
  | inl own ↦ let one = rw own at is in rw own (omega (arith, one))
  | inr other ↦ let one = rw other at is in rw other (omega (arith, one))
]

two_amounts : (i a b x y before middle after : ℕ) → eqb a b ≡ false → middle ≡ (if i == a then x else before) → after ≡ (if i == b then y else middle) →
    after ≡ (if (eqb i a || (eqb i b || false)) then ((if i == a then x else 0) + ((if i == b then y else 0) + 0)) else before)
two_amounts i a b x y before middle after apart first second = elim (cases_Bool (i == a)) [
  | inl is_a ↦ elim (cases_Bool (i == b)) [
    | inl is_b ↦
        let same : eqb a b ≡ true = eq-eqb a b (sym (eqb-true i a is_a) ∙ eqb-true i b is_b) in cc
    | inr not_b ↦ let one = rw is_a at first in let two = rw not_b at second in rw (is_a, not_b) (omega (arith, one, two))
  ]
  | inr not_a ↦ elim (cases_Bool (i == b)) [
    | inl is_b ↦ let two = rw is_b at second in rw (not_a, is_b) (omega (arith, two))
    | inr not_b ↦ let one = rw not_a at first in let two = rw not_b at second in rw (not_a, not_b) (omega (arith, one, two))
  ]
]

pub length-moved_by : (connector : Connector) (one : RegionConnector) (flow : Flow) (changes : List Change) → length (moved_by connector one flow changes) ≡ length changes
length-moved_by (Link up down) one flow changes =
    length-with_entering (with_leaving changes (ref_at one 0) flow.out1) (ref_at one 1) flow.in1 ∙ length-with_leaving changes (ref_at one 0) flow.out1
length-moved_by (Merge up1 up2 down p1 p2) one flow changes =
    length-with_entering (with_leaving (with_leaving changes (ref_at one 0) flow.out1) (ref_at one 1) flow.out2) (ref_at one 2) flow.in1 ∙
    length-with_leaving (with_leaving changes (ref_at one 0) flow.out1) (ref_at one 1) flow.out2 ∙ length-with_leaving changes (ref_at one 0) flow.out1
length-moved_by (Diverge up down1 down2 b1 b2) one flow changes =
    length-with_entering (with_entering (with_leaving changes (ref_at one 0) flow.out1) (ref_at one 1) flow.in1) (ref_at one 2) flow.in2 ∙
    length-with_entering (with_leaving changes (ref_at one 0) flow.out1) (ref_at one 1) flow.in1 ∙ length-with_leaving changes (ref_at one 0) flow.out1

-- one connector changes each own cell by what it carries out of it and into it
pub moved_by-at : (cells halo : List ℕ) (connector : Connector) (one : RegionConnector) (flow : Flow) (changes : List Change) (p : ℕ) → AreApart cells halo →
    length changes ≡ length cells → p < length cells → IsDistinct eqb (upstream_of connector) → IsDistinct eqb (downstream_of connector) →
    ((m : ℕ) → m < 3 → IsRefOf cells halo (slice_index (three_cells connector) m) (ref_at one m)) →
    ChangesBy (slice_index cells p) connector flow (change_at changes p) (change_at (moved_by connector one flow changes) p)
unfolding IsDistinct
moved_by-at cells halo (Link up down) one flow changes p apart long within ups downs refs =
    let i : ℕ = slice_index cells p in
    let out : List Change = with_leaving changes (ref_at one 0) flow.out1 in
    let leave = leaving-at cells halo changes up p flow.out1 (ref_at one 0) apart long within (refs 0 (omega arith)) in
    let enter = entering-at cells halo out down p flow.in1 (ref_at one 1) apart (length-with_leaving changes (ref_at one 0) flow.out1 ∙ long) within (refs 1 (omega arith)) in (
      one_amount i up flow.out1 0 (change_at changes p).leaves _ (enter.1 ∙ leave.0),
      one_amount i down flow.in1 0 (change_at changes p).enters _ (enter.0 ∙ ap (λ e. if i == down then flow.in1 else e) leave.1),
    )
moved_by-at cells halo (Merge up1 up2 down p1 p2) one flow changes p apart long within ups downs refs =
    let i : ℕ = slice_index cells p in
    let out : List Change = with_leaving changes (ref_at one 0) flow.out1 in
    let out2 : List Change = with_leaving out (ref_at one 1) flow.out2 in
    let long1 : length out ≡ length cells = length-with_leaving changes (ref_at one 0) flow.out1 ∙ long in
    let long2 : length out2 ≡ length cells = length-with_leaving out (ref_at one 1) flow.out2 ∙ long1 in
    let leave = leaving-at cells halo changes up1 p flow.out1 (ref_at one 0) apart long within (refs 0 (omega arith)) in
    let leave2 = leaving-at cells halo out up2 p flow.out2 (ref_at one 1) apart long1 within (refs 1 (omega arith)) in
    let enter = entering-at cells halo out2 down p flow.in1 (ref_at one 2) apart long2 within (refs 2 (omega arith)) in (
      two_amounts i up1 up2 flow.out1 flow.out2 (change_at changes p).leaves (change_at out p).leaves _ ups.0.0 leave.0 (enter.1 ∙ leave2.0),
      one_amount i down flow.in1 0 (change_at changes p).enters _ (enter.0 ∙ ap (λ e. if i == down then flow.in1 else e) (leave2.1 ∙ leave.1)),
    )
moved_by-at cells halo (Diverge up down1 down2 b1 b2) one flow changes p apart long within ups downs refs =
    let i : ℕ = slice_index cells p in
    let out : List Change = with_leaving changes (ref_at one 0) flow.out1 in
    let in1 : List Change = with_entering out (ref_at one 1) flow.in1 in
    let long1 : length out ≡ length cells = length-with_leaving changes (ref_at one 0) flow.out1 ∙ long in
    let long2 : length in1 ≡ length cells = length-with_entering out (ref_at one 1) flow.in1 ∙ long1 in
    let leave = leaving-at cells halo changes up p flow.out1 (ref_at one 0) apart long within (refs 0 (omega arith)) in
    let enter = entering-at cells halo out down1 p flow.in1 (ref_at one 1) apart long1 within (refs 1 (omega arith)) in
    let enter2 = entering-at cells halo in1 down2 p flow.in2 (ref_at one 2) apart long2 within (refs 2 (omega arith)) in (
      one_amount i up flow.out1 0 (change_at changes p).leaves _ (enter2.1 ∙ enter.1 ∙ leave.0),
      two_amounts i down1 down2 flow.in1 flow.in2 (change_at changes p).enters (change_at in1 p).enters _ downs.0.0
          (enter.0 ∙ ap (λ e. if i == down1 then flow.in1 else e) leave.1) enter2.0,
    )
