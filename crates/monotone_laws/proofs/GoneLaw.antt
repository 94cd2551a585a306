-- In an eased network no less has gone out of any cell, and no less has come in, where the demands come no later.
use Rattle.std.proofs.Common.{◌≡◌, inl, inr, ℕ, zero, suc, add-one, true, ◌+◌, ◌<◌, ◌≤◌, length, arith}
use Rattle.std.proofs.lemmas.Bool.{cases_Bool}
use Rattle.network_file.specs.Cells.{is_gate_at}
use Rattle.network_file.specs.Network.{Network}
use Rattle.flow_ledger.proofs.StateRows.{come-none, gone-none, gone-zero}
use Rattle.monotone_laws.specs.Demands.{MoreByEachStep}
use Rattle.monotone_laws.proofs.Linked.{in-cases, linked-down, linked-up, out-cases}
use Rattle.monotone_laws.proofs.Curves.{come, come-gate, come-linked, gone}
use Rattle.monotone_laws.proofs.OneStep.{AreEased, linked-too, one-step, same-gate}

-- in each cell no less has gone out by step t, and no less has come in
abbrev pub GoneNoLess : (one two : Network) → (t : ℕ) → Type 0
GoneNoLess one two t = (i : ℕ) → i < length one.cells → gone one t i ≤ gone two t i

abbrev pub ComeNoLess : (one two : Network) → (t : ℕ) → Type 0
ComeNoLess one two t = (i : ℕ) → i < length one.cells → come one t i ≤ come two t i

come-too : (one two : Network) (t : ℕ) → AreEased one two → MoreByEachStep one two → t ≤ one.steps → GoneNoLess one two t → ComeNoLess one two t
come-too one two t both demands within gone_more i has = elim (cases_Bool (is_gate_at one.cells i)) [
  | inl gate ↦
      let gate_too : is_gate_at two.cells i ≡ true = rw (same-gate one two i both.eased has) gate in
      omega (
        arith,
        come-gate one t i has gate,
        come-gate two t i (omega (arith, both.eased.one_each)) gate_too,
        demands i t has gate within,
      )
  | inr no_gate ↦ elim (in-cases one i both.alone) [
    | inl none ↦ omega (arith, come-none one t i has none no_gate)
    | inr by ↦
        omega (
          arith,
          come-linked one t by.0 i both.first by.1,
          come-linked two t by.0 i both.second (linked-too one two by.0 i both.eased by.1),
          gone_more by.0 (linked-up one by.0 i both.first by.1).0,
        )
  ]
]

pub gone-law : (one two : Network) → AreEased one two → MoreByEachStep one two → (t : ℕ) → t ≤ one.steps → GoneNoLess one two t
gone-law one two both demands zero within i has = omega (arith, gone-zero one i has)
gone-law one two both demands (suc t) within i has = elim (out-cases one i both.alone) [
  | inl none ↦ omega (arith, gone-none one (suc t) i has none)
  | inr to ↦
      let before = gone-law one two both demands t (omega arith) in
      let came = come-too one two t both demands (omega arith) before in
      let next : gone one (t + 1) i ≤ gone two (t + 1) i =
      omega (
        arith,
        one-step one two t i to.0 0 both to.1 (omega arith) (omega (arith, before i has)) (omega (arith, came i has))
            (omega (arith, before to.0 (linked-down one i to.0 both.first to.1).0)),
      ) in
      rw add-one at next
]

pub come-law : (one two : Network) → AreEased one two → MoreByEachStep one two → (t : ℕ) → t ≤ one.steps → ComeNoLess one two t
come-law one two both demands t within = come-too one two t both demands within (gone-law one two both demands t within)
