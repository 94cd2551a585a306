-- After all its connectors each of a region's cells has the change of the recurrences.
use Rattle.std.specs.Prelude.{All, ◌⊎◌, Bool, Option, map, slice_index, if◌then◌else◌}
use Rattle.std.specs.List.{Contains, list_any}
use Rattle.std.proofs.Common.{◌≡◌, ℕ, ◌<◌, ◌+◌, inl, inr, true, false, List, [], length, get_or, refl, sym, ap, ◌∙◌, arith}
use Rattle.std.proofs.lemmas.Bool.{cases_Bool, cases_lt}
use Rattle.std.proofs.lemmas.List.{get_or-map, get_or_default, length-map}
use Rattle.std.proofs.lemmas.List.Elements.{Contains-get_or}
use Rattle.std.proofs.lemmas.List.Folds.{Any-from_list_any}
use Rattle.network_file.specs.Connectors.{leads_into, leads_out_of, touches}
use Rattle.network_file.specs.Numbered.{connector_at}
use Rattle.network_file.specs.Network.{Network}
use Rattle.network_file.specs.declared.connector.Connector.{Connector}
use Rattle.network_file.specs.declared.connector.Connector.TheVariants.{Link}
use Rattle.flow_model.specs.Bounds.{IsHeldInBounds}
use Rattle.flow_model.specs.Flows.{entering, flow_of, leaving}
use Rattle.flow_model.specs.declared.carried.Flow.{Flow}
use Rattle.flow_model.specs.declared.row.Row.{Row}
use Rattle.flow_model.proofs.CellFlows.{inflow-by, inflow-none, outflow-by, outflow-none}
use Rattle.network_file.proofs.NetworkFacts.{connector_at-sound}
use Rattle.flow_model.proofs.Locality.{leads_into-touches, leads_out_of-touches}
use Rattle.region_cut.specs.ConnectorCells.{three_cells}
use Rattle.region_body.proofs.Parting.{flow_between-three, three_in_bounds}
use Rattle.region_step.specs.Advance.{known}
use Rattle.region_step.specs.Apart.{AreApart}
use Rattle.plain_region.specs.Carrying.{CanCarry, IsChangeOf, IsScene, IsWithin, carried_of, change_at, held_in, moved_by}
use Rattle.plain_region.specs.RegionConnectors.{IsRefOf, IsRegionConnector, ref_at}
use Rattle.plain_region.specs.declared.change.Change.{Change}
use Rattle.plain_region.specs.declared.cell_ref.CellRef.{CellRef}
use Rattle.plain_region.specs.declared.cell_ref.CellRef.TheVariants.{Own, Halo}
use Rattle.plain_region.specs.declared.region_connector.RegionConnector.{RegionConnector}
use Rattle.plain_region.proofs.Changes.{length-moved_by, moved_by-at}
use Rattle.plain_region.proofs.CellRefs.{held_in-known}

-- what a connector carries

cell-there : (net : Network) (t : ℕ) (cells halo : List ℕ) (connectors : List RegionConnector) (rows : List Row) (put : List (Option ℕ)) (i : ℕ) (cell : CellRef) →
    IsScene net t cells halo connectors rows put → IsRefOf cells halo i cell → IsWithin (length rows) put cell × IsHeldInBounds net t i (held_in rows put cell)
cell-there net t cells halo connectors rows put i (Own p) scene (there, is) =
    (omega (arith, scene.row_each, there), rw is at ((scene.own p there).held))
cell-there net t cells halo connectors rows put i (Halo p) scene (there, is) =
    (omega (arith, scene.put_each, there), rw is at (scene.around p there))

pub can_carry : (net : Network) (t : ℕ) (cells halo : List ℕ) (connectors : List RegionConnector) (rows : List Row) (put : List (Option ℕ)) (one : RegionConnector) →
    IsScene net t cells halo connectors rows put → IsRegionConnector net cells halo one → CanCarry net t one rows put
can_carry net t cells halo connectors rows put one scene found =
    let connector : Connector = connector_at net.connectors one.number in
    let at : (m : ℕ) → m < 3 → IsWithin (length rows) put (ref_at one m) × IsHeldInBounds net t (slice_index (three_cells connector) m) (held_in rows put (ref_at one m)) =
    λ m few. cell-there net t cells halo connectors rows put (slice_index (three_cells connector) m) (ref_at one m) scene (found.refs m few) in
    record {
      connector = found.there;
      before = scene.before;
      refs = λ m few. (at m few).0;
      held = three_in_bounds net t connector _ _ _ ((at 0 (omega arith)).1) ((at 1 (omega arith)).1) ((at 2 (omega arith)).1);
    }

carried-is : (net : Network) (t : ℕ) (cells halo : List ℕ) (rows : List Row) (put : List (Option ℕ)) (one : RegionConnector) → AreApart cells halo → IsRegionConnector net cells halo one →
    carried_of net t one rows put ≡ flow_of net t (known cells halo rows put) (connector_at net.connectors one.number)
carried-is net t cells halo rows put one apart found =
    let connector : Connector = connector_at net.connectors one.number in
    let at : (m : ℕ) → m < 3 → held_in rows put (ref_at one m) ≡ known cells halo rows put (slice_index (three_cells connector) m) =
    λ m few. held_in-known cells halo rows put (slice_index (three_cells connector) m) (ref_at one m) apart (found.refs m few) in
    let a = at 0 (omega arith) in
    let b = at 1 (omega arith) in
    let c = at 2 (omega arith) in
    rw (a, b, c) (flow_between-three net t connector (known cells halo rows put))

-- what one of the first connectors of a list moves, or nothing

abbrev Amount : Type 0
Amount = Connector → Flow → ℕ

abbrev IsBy : Network → (t : ℕ) → (ℕ → ℕ) → (numbers : List ℕ) → (leads : Connector → Bool) → Amount → (j amount : ℕ) → Type 0
IsBy net t n numbers leads moves j amount =
    ((m : ℕ) × (m < j) × (leads (connector_at net.connectors (slice_index numbers m)) ≡ true) ×
    (amount ≡ moves (connector_at net.connectors (slice_index numbers m)) (flow_of net t n (connector_at net.connectors (slice_index numbers m))))) ⊎
    (((m : ℕ) → m < j → leads (connector_at net.connectors (slice_index numbers m)) ≡ false) × (amount ≡ 0))

by-none : (net : Network) (t : ℕ) (n : ℕ → ℕ) (numbers : List ℕ) (leads : Connector → Bool) (moves : Amount) → IsBy net t n numbers leads moves 0 0
by-none net t n numbers leads moves = inr ((λ m before. absurd (omega arith)), refl)

by-more : (net : Network) (t : ℕ) (n : ℕ → ℕ) (numbers : List ℕ) (leads : Connector → Bool) (moves : Amount) (j before after : ℕ) →
    IsBy net t n numbers leads moves j before →
    (let c = connector_at net.connectors (slice_index numbers j) in after ≡ (if leads c then moves c (flow_of net t n c) else before)) →
    IsBy net t n numbers leads moves (j + 1) after
by-more net t n numbers leads moves j before after by is = elim (cases_Bool (leads (connector_at net.connectors (slice_index numbers j)))) [
  | inl led ↦ inl (j, omega arith, led, is ∙ ap (λ b. if b then moves (connector_at net.connectors (slice_index numbers j)) (flow_of net t n (connector_at net.connectors (slice_index numbers j))) else before) led)
  | inr other ↦
      let same : after ≡ before = is ∙ ap (λ b. if b then moves (connector_at net.connectors (slice_index numbers j)) (flow_of net t n (connector_at net.connectors (slice_index numbers j))) else before) other in
      elim by [
        | inl (m, earlier, led, amount) ↦ inl (m, omega (arith, earlier), led, same ∙ amount)
        | inr (none, zero_before) ↦ inr (
          (λ m earlier. elim (cases_lt m j) [
            | inl lower ↦ none m lower
            | inr last ↦ let here : m ≡ j = omega (arith, earlier, last) in rw here other
          ]),
          same ∙ zero_before,
        )
      ]
]

-- where none of the region's connectors leads to an own cell, none of the network does
none-leads : (net : Network) (t : ℕ) (cells halo : List ℕ) (connectors : List RegionConnector) (rows : List Row) (put : List (Option ℕ)) (i : ℕ) (leads : Connector → Bool) →
    IsScene net t cells halo connectors rows put → Contains cells i → ((c : Connector) → leads c ≡ true → touches i c ≡ true) →
    ((m : ℕ) → m < length connectors → leads (connector_at net.connectors (slice_index (map (λ one. one.number) connectors) m)) ≡ false) →
    list_any leads net.connectors ≡ false
none-leads net t cells halo connectors rows put i leads scene own touched none = elim (cases_Bool (list_any leads net.connectors)) [
  | inl any ↦
      let here = Any-from_list_any leads net.connectors any in
      let stands : connector_at net.connectors here.0 ≡ here.1 = get_or_default net.connectors here.0 (Link 0 0) here.1 here.2 ∙ here.3 in
      let leads_there : leads (connector_at net.connectors here.0) ≡ true = ap leads stands ∙ here.4 in
      let has = scene.whole i here.0 own here.2 (touched (connector_at net.connectors here.0) leads_there) in
      let numbers : List ℕ = map (λ one. one.number) connectors in
      let within : has.0 < length connectors = omega (arith, has.1, length-map connectors (λ one. one.number)) in
      let number : slice_index numbers has.0 ≡ here.0 = get_or_default numbers has.0 0 here.0 has.1 ∙ has.2 in
      let other : leads (connector_at net.connectors here.0) ≡ false = rw number at (none has.0 within) in
      cc
  | inr other ↦ other
]

numbers-there : (net : Network) (cells halo : List ℕ) (connectors : List RegionConnector) (m : ℕ) → All (IsRegionConnector net cells halo) connectors → m < length connectors →
    slice_index (map (λ one. one.number) connectors) m < length net.connectors
numbers-there net cells halo connectors m found within =
    let blank : RegionConnector = record { number = 0; cells = [] } in
    rw (get_or-map (λ one. one.number) connectors m blank 0 within) ((found m blank within).there)

pub AreChanged : (net : Network) (t : ℕ) (n : ℕ → ℕ) (cells numbers : List ℕ) (j : ℕ) (changes : List Change) → Type 0
AreChanged net t n cells numbers j changes = (p : ℕ) → p < length cells →
    IsBy net t n numbers (leads_out_of (slice_index cells p)) (leaving (slice_index cells p)) j (change_at changes p).leaves ×
    IsBy net t n numbers (leads_into (slice_index cells p)) (entering (slice_index cells p)) j (change_at changes p).enters

pub changed-none : (net : Network) (t : ℕ) (n : ℕ → ℕ) (cells numbers : List ℕ) (changes : List Change) →
    ((p : ℕ) → p < length cells → ((change_at changes p).leaves ≡ 0) × ((change_at changes p).enters ≡ 0)) → AreChanged net t n cells numbers 0 changes
unfolding AreChanged
changed-none net t n cells numbers changes zeros = λ p within. (
  rw ((zeros p within).0) (by-none net t n numbers (leads_out_of (slice_index cells p)) (leaving (slice_index cells p))),
  rw ((zeros p within).1) (by-none net t n numbers (leads_into (slice_index cells p)) (entering (slice_index cells p))),
)

pub changed-more : (net : Network) (t : ℕ) (cells halo : List ℕ) (connectors : List RegionConnector) (rows : List Row) (put : List (Option ℕ)) (j : ℕ) (one : RegionConnector) (changes : List Change) →
    IsScene net t cells halo connectors rows put → j < length connectors → get_or connectors j one ≡ one → length changes ≡ length cells →
    AreChanged net t (known cells halo rows put) cells (map (λ one. one.number) connectors) j changes →
    (let after = moved_by (connector_at net.connectors one.number) one (carried_of net t one rows put) changes in
    (length after ≡ length cells) × AreChanged net t (known cells halo rows put) cells (map (λ one. one.number) connectors) (j + 1) after)
unfolding AreChanged
changed-more net t cells halo connectors rows put j one changes scene within here long before =
    let n : ℕ → ℕ = known cells halo rows put in
    let numbers : List ℕ = map (λ one. one.number) connectors in
    let connector : Connector = connector_at net.connectors one.number in
    let found : IsRegionConnector net cells halo one = rw here at (scene.found j one within) in
    let number : slice_index numbers j ≡ one.number = get_or-map (λ one. one.number) connectors j one 0 within ∙ ap (λ one. one.number) here in
    let same : connector_at net.connectors (slice_index numbers j) ≡ connector = ap (connector_at net.connectors) number in
    let flow : carried_of net t one rows put ≡ flow_of net t n connector = carried-is net t cells halo rows put one scene.apart found in
    let fits = connector_at-sound net one.number scene.sound found.there in (
      length-moved_by connector one (carried_of net t one rows put) changes ∙ long,
      λ p inside.
          let by = moved_by-at cells halo connector one (carried_of net t one rows put) changes p scene.apart long inside fits.up_apart fits.down_apart found.refs in
          let i : ℕ = slice_index cells p in (
            by-more net t n numbers (leads_out_of i) (leaving i) j _ _ (before p inside).0 (rw (same, ← flow) by.0),
            by-more net t n numbers (leads_into i) (entering i) j _ _ (before p inside).1 (rw (same, ← flow) by.1),
          ),
    )

pub changed-all : (net : Network) (t : ℕ) (cells halo : List ℕ) (connectors : List RegionConnector) (rows : List Row) (put : List (Option ℕ)) (p : ℕ) (changes : List Change) →
    IsScene net t cells halo connectors rows put → p < length cells →
    AreChanged net t (known cells halo rows put) cells (map (λ one. one.number) connectors) (length connectors) changes →
    IsChangeOf net t (known cells halo rows put) (slice_index cells p) (change_at changes p)
unfolding AreChanged
changed-all net t cells halo connectors rows put p changes scene within all =
    let n : ℕ → ℕ = known cells halo rows put in
    let numbers : List ℕ = map (λ one. one.number) connectors in
    let i : ℕ = slice_index cells p in
    let own : Contains cells i = Contains-get_or cells p 0 within in
    record {
      leaves = elim (all p within).0 [
        | inl (m, before, out, is) ↦ is ∙ sym (outflow-by net t (slice_index numbers m) i n scene.sound (numbers-there net cells halo connectors m scene.found before) out)
        | inr (none, is) ↦ is ∙ sym (outflow-none net t i n (none-leads net t cells halo connectors rows put i (leads_out_of i) scene own (leads_out_of-touches i) none))
      ];
      enters = λ no_gate. elim (all p within).1 [
        | inl (m, before, into, is) ↦ is ∙ sym (inflow-by net t (slice_index numbers m) i n scene.sound (numbers-there net cells halo connectors m scene.found before) into no_gate)
        | inr (none, is) ↦ is ∙ sym (inflow-none net t i n (none-leads net t cells halo connectors rows put i (leads_into i) scene own (leads_into-touches i) none) no_gate)
      ];
    }
