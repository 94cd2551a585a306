-- How much more has gone out of a cell, and come in, where demand is added to the same network: what goes out in a step is
-- at most as much more as had come in before it, since nothing goes faster than a cell a step.
use Rattle.std.specs.Prelude.{All}
use Rattle.std.specs.List.{list_any}
use Rattle.std.proofs.Common.{◌≡◌, inl, inr, ℕ, zero, suc, add-one, true, false, ◌+◌, ◌-◌, ◌<◌, ◌≤◌, length, arith, subst, sym, ◌∙◌}
use Rattle.network_file.specs.Cells.{is_gate_at}
use Rattle.network_file.specs.Connectors.{leads_into, leads_out_of}
use Rattle.network_file.specs.Network.{Network}
use Rattle.network_file.specs.Sound.{IsNetwork}
use Rattle.flow_ledger.proofs.StateRows.{come-none, gone-none, gone-zero}
use Rattle.monotone_laws.specs.Eased.{AreAlike}
use Rattle.monotone_laws.specs.Links.{HasLinksAlone, is_link}
use Rattle.monotone_laws.proofs.Linked.{IsLinked, linked-down, out-cases}
use Rattle.monotone_laws.proofs.Curves.{come, come-linked, gone}
use Rattle.monotone_laws.proofs.OneStep.{AreEased, linked-too, one-step, same-gate}
use Rattle.monotone_laws.proofs.RunningMost.{le-most_by, most_by, most_by-next, most_by-rising, most_by-same}

-- two networks of links alone, of the same rooms, ratios, capacities and greens
pub record AreBusier (one two : Network) : Type 0 where
  pub first : IsNetwork one
  pub second : IsNetwork two
  pub alone : HasLinksAlone one
  pub alike : AreAlike one two

pub there : (one two : Network) → AreBusier one two → AreEased one two
there one two both = record { first = both.first; second = both.second; alone = both.alone; eased = both.alike.there }

pub back : (one two : Network) → AreBusier one two → AreEased two one
back one two both = record {
  first = both.second;
  second = both.first;
  alone = subst (λ connectors. All (λ connector. is_link connector ≡ true) connectors) (sym both.alike.there.connectors) both.alone;
  eased = both.alike.back;
}

-- how much more has gone out of cell i, and come in, by step t
abbrev pub more_out : (one two : Network) → (i t : ℕ) → ℕ
more_out one two i t = gone two t i - gone one t i

abbrev pub more_in : (one two : Network) → (i t : ℕ) → ℕ
more_in one two i t = come two t i - come one t i

-- and the most of it up to step t
abbrev pub most_out : (one two : Network) → (t i : ℕ) → ℕ
most_out one two t i = most_by (more_out one two i) t

abbrev pub most_in : (one two : Network) → (t i : ℕ) → ℕ
most_in one two t i = most_by (more_in one two i) t

-- it is the same at both ends of a link
pub most-linked : (one two : Network) (t i j : ℕ) → AreBusier one two → IsLinked one i j → most_in one two t j ≡ most_out one two t i
most-linked one two t i j both linked =
    most_by-same (more_in one two j) (more_out one two i) t (λ s within.
    omega (
      arith,
      come-linked one s i j both.first linked,
      come-linked two s i j both.second (linked-too one two i j both.alike.there linked),
    ))

-- a curve that is 0 at each step
none : (f : ℕ → ℕ) (t : ℕ) → ((s : ℕ) → f s ≡ 0) → most_by f t ≡ 0
none f t zeros = most_by-rising f t (λ s within. omega (arith, zeros s)) ∙ zeros t

-- where no connector leads out nothing goes out
pub most_out-none : (one two : Network) (t i : ℕ) → AreBusier one two → i < length one.cells →
    list_any (leads_out_of i) one.connectors ≡ false → most_out one two t i ≡ 0
most_out-none one two t i both has no_link =
    let no_link_too : list_any (leads_out_of i) two.connectors ≡ false = rw both.alike.there.connectors no_link in
    none (more_out one two i) t (λ s. omega (arith, gone-none two s i (omega (arith, both.alike.there.one_each)) no_link_too))

-- and where none leads in nothing comes in, but by demand
pub most_in-none : (one two : Network) (t i : ℕ) → AreBusier one two → i < length one.cells →
    list_any (leads_into i) one.connectors ≡ false → is_gate_at one.cells i ≡ false → most_in one two t i ≡ 0
most_in-none one two t i both has no_link no_gate =
    let no_link_too : list_any (leads_into i) two.connectors ≡ false = rw both.alike.there.connectors no_link in
    let no_gate_too : is_gate_at two.cells i ≡ false = rw (same-gate one two i both.alike.there has) no_gate in
    none (more_in one two i) t (λ s. omega (arith, come-none two s i (omega (arith, both.alike.there.one_each)) no_link_too no_gate_too))

-- no more more goes out of a cell than has come in
abbrev pub GoesNoFaster : (one two : Network) → (t : ℕ) → Type 0
GoesNoFaster one two t = (i : ℕ) → i < length one.cells → most_out one two t i ≤ most_in one two t i

-- and by the next step no more than has come in by this one
pub goes-later : (one two : Network) (t i : ℕ) → AreBusier one two → t < one.steps → GoesNoFaster one two t → i < length one.cells →
    most_out one two (t + 1) i ≤ most_in one two t i
goes-later one two t i both before now has = elim (out-cases one i both.alone) [
  | inl no_link ↦ omega (arith, most_out-none one two (t + 1) i both has no_link)
  | inr to ↦
      let u : ℕ = most_in one two t i in
      let j : ℕ = to.0 in
      let own : most_out one two t i ≤ u = now i has in
      let next : most_out one two t j ≤ most_in one two t j = now j (linked-down one i j both.first to.1).0 in
      let gone_i : gone two t i ≤ gone one t i + u = omega (arith, le-most_by (more_out one two i) t) in
      let come_i : come two t i ≤ come one t i + u = omega (arith, le-most_by (more_in one two i) t) in
      let gone_j : gone two t j ≤ gone one t j + u = omega (arith, le-most_by (more_out one two j) t, most-linked one two t i j both to.1) in
      let step : gone two (t + 1) i ≤ gone one (t + 1) i + u =
      one-step two one t i j u (back one two both) (linked-too one two i j both.alike.there to.1) (omega (arith, both.alike.there.steps)) gone_i come_i gone_j in
      omega (arith, most_by-next (more_out one two i) t)
]

pub goes-no_faster : (one two : Network) → AreBusier one two → (t : ℕ) → t ≤ one.steps → GoesNoFaster one two t
goes-no_faster one two both zero within i has = omega (arith, gone-zero two i (omega (arith, both.alike.there.one_each)))
goes-no_faster one two both (suc t) within i has =
    let before = goes-later one two t i both (omega arith) (goes-no_faster one two both t (omega arith)) has in
    let next : most_out one two (t + 1) i ≤ most_in one two (t + 1) i = omega (arith, before, most_by-next (more_in one two i) t) in
    rw add-one at next
