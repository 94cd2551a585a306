-- Which cells the links of a network join.
use Rattle.std.specs.Prelude.{eqb, ◌||◌}
use Rattle.std.specs.List.{list_any}
use Rattle.std.proofs.Common.{◌≡◌, ◌⊎◌, inl, inr, ℕ, Bool, true, false, ◌<◌, length, arith, refl, sym, ap, subst, ◌∙◌}
use Rattle.std.proofs.lemmas.Bool.{cases_Bool, eqb-true}
use Rattle.std.proofs.lemmas.List.{get_or_default}
use Rattle.std.proofs.lemmas.List.Folds.{Any-from_list_any}
use Rattle.network_file.specs.Cells.{is_exit_at, is_gate_at}
use Rattle.network_file.specs.Connectors.{leads_into, leads_out_of}
use Rattle.network_file.specs.Numbered.{connector_at}
use Rattle.network_file.specs.Network.{Network}
use Rattle.network_file.specs.Sound.{IsNetwork, IsSoundConnector}
use Rattle.network_file.specs.declared.connector.Connector.{Connector}
use Rattle.network_file.specs.declared.connector.Connector.TheVariants.{Link, Merge, Diverge}
use Rattle.network_file.proofs.NetworkFacts.{connector_at-sound}
use Rattle.monotone_laws.specs.Links.{HasLinksAlone, is_link}

-- a link leads from cell i into cell j
pub record IsLinked (net : Network) (i j : ℕ) : Type 0 where
  pub k : ℕ
  pub there : k < length net.connectors
  pub is : connector_at net.connectors k ≡ Link i j

one_alone : (a : Bool) → (a || false) ≡ true → a ≡ true
one_alone true is = refl
one_alone false is = is

from : (connector : Connector) (i : ℕ) → is_link connector ≡ true → leads_out_of i connector ≡ true → (j : ℕ) × (connector ≡ Link i j)
from (Link up down) i link out = (down, ap (λ cell. Link cell down) (sym (eqb-true i up (one_alone (eqb i up) out))))
from (Merge up1 up2 down p1 p2) i link out = cc
from (Diverge up down1 down2 b1 b2) i link out = cc

into : (connector : Connector) (j : ℕ) → is_link connector ≡ true → leads_into j connector ≡ true → (i : ℕ) × (connector ≡ Link i j)
into (Link up down) j link in_it = (up, ap (λ cell. Link up cell) (sym (eqb-true j down (one_alone (eqb j down) in_it))))
into (Merge up1 up2 down p1 p2) j link in_it = cc
into (Diverge up down1 down2 b1 b2) j link in_it = cc

-- a connector that passes a test is a link, and has a number
listed : (net : Network) (p : Connector → Bool) → HasLinksAlone net → list_any p net.connectors ≡ true →
    (connector : Connector) × (is_link connector ≡ true) × (p connector ≡ true) ×
    ((i j : ℕ) → connector ≡ Link i j → IsLinked net i j)
listed net p alone some =
    let any = Any-from_list_any p net.connectors some in
    let here : connector_at net.connectors any.0 ≡ any.1 = get_or_default net.connectors any.0 (Link 0 0) any.1 any.2 ∙ any.3 in
    (any.1, ap is_link (sym any.3) ∙ alone any.0 any.1 any.2, any.4, λ i j is. record { k = any.0; there = any.2; is = here ∙ is })

-- a link leads out of a cell, or no connector does
pub out-cases : (net : Network) (i : ℕ) → HasLinksAlone net →
    (list_any (leads_out_of i) net.connectors ≡ false) ⊎ ((j : ℕ) × IsLinked net i j)
out-cases net i alone = elim (cases_Bool (list_any (leads_out_of i) net.connectors)) [
  | inl some ↦
      let found = listed net (leads_out_of i) alone some in
      let to = from found.0 i found.1 found.2 in
      inr (to.0, found.3 i to.0 to.1)
  | inr none ↦ inl none
]

-- a link leads into it, or no connector does
pub in-cases : (net : Network) (j : ℕ) → HasLinksAlone net →
    (list_any (leads_into j) net.connectors ≡ false) ⊎ ((i : ℕ) × IsLinked net i j)
in-cases net j alone = elim (cases_Bool (list_any (leads_into j) net.connectors)) [
  | inl some ↦
      let found = listed net (leads_into j) alone some in
      let by = into found.0 j found.1 found.2 in
      inr (by.0, found.3 by.0 j by.1)
  | inr none ↦ inl none
]

linked-sound : (net : Network) (i j : ℕ) → IsNetwork net → IsLinked net i j → IsSoundConnector net.cells (Link i j)
linked-sound net i j sound linked = subst (IsSoundConnector net.cells) linked.is (connector_at-sound net linked.k sound linked.there)

-- it leads out of no exit, and into no gate
pub linked-up : (net : Network) (i j : ℕ) → IsNetwork net → IsLinked net i j → (i < length net.cells) × (is_exit_at net.cells i ≡ false)
linked-up net i j sound linked = (linked-sound net i j sound linked).up 0 0 (omega arith)

pub linked-down : (net : Network) (i j : ℕ) → IsNetwork net → IsLinked net i j → (j < length net.cells) × (is_gate_at net.cells j ≡ false)
linked-down net i j sound linked = (linked-sound net i j sound linked).down 0 0 (omega arith)
