-- The start at step 0.
use Rattle.std.specs.Prelude.{replicate, slice_index}
use Rattle.std.proofs.Common.{◌≡◌, ℕ, inl, inr, List, length, sym, ap, subst, arith}
use Rattle.std.proofs.lemmas.Bool.{cases_lt}
use Rattle.std.proofs.lemmas.List.{get_or-replicate, get_or_past, length-replicate, get_or_default}
use Rattle.network_file.specs.Network.{Network}
use Rattle.network_file.specs.Sound.{IsNetwork}
use Rattle.flow_model.specs.Bounds.{IsRowInBounds}
use Rattle.flow_model.specs.State.{row_at, state_at}
use Rattle.flow_model.proofs.States.{first_rows-in_bounds, length-state_at}
use Rattle.region_cut.specs.Cuttings.{region_at, region_count}
use Rattle.region_cut.specs.LawfulSteps.{AreLawful}
use Rattle.region_step.specs.Start.{zero_start}
use Rattle.region_step.specs.Starting.{Fits, IsTrueStart, start_of}

pub zeros : (n i : ℕ) → slice_index (replicate n 0) i ≡ 0
zeros n i = elim (cases_lt i n) [
  | inl within ↦ get_or-replicate n i 0 0 within
  | inr past ↦ get_or_past (replicate n 0) i 0 (omega (arith, past, length-replicate {A = ℕ} n 0))
]

pub zero_start-fits : (net : Network) (cut : List ℕ) → IsNetwork net → Fits net cut (zero_start net cut)
zero_start-fits net cut sound = record {
  one_each = length-replicate {A = ℕ} (region_count cut) 0;
  in_time = λ r d within. omega (arith, get_or_default (replicate (region_count cut) 0) r d 0 within, zeros (region_count cut) r);
  rows = length-state_at net 0;
  earlier = length-replicate {A = ℕ} (length net.cells) 0;
  bounds = λ i there.
      let here : start_of (zero_start net cut) cut i ≡ 0 = zeros (region_count cut) (region_at cut i) in
      record {
        row = subst (λ s. IsRowInBounds net s i (row_at (state_at net 0) i)) (sym here) ((first_rows-in_bounds net sound).each i there);
        earlier = record { later = λ t later. absurd (omega (arith, here, later)); none = λ none. zeros (length net.cells) i };
      };
}

pub zero_start-lawful : (net : Network) (cut : List ℕ) → AreLawful net cut (zero_start net cut).steps
zero_start-lawful net cut = record {
  one_each = length-replicate {A = ℕ} (region_count cut) 0;
  in_time = λ r d within. omega (arith, get_or_default (replicate (region_count cut) 0) r d 0 within, zeros (region_count cut) r);
  close = λ r q near. omega (arith, zeros (region_count cut) r);
}

pub zero_start-true : (net : Network) (cut : List ℕ) → IsTrueStart net cut (zero_start net cut)
zero_start-true net cut = record {
  rows = λ i there.
      let here : start_of (zero_start net cut) cut i ≡ 0 = zeros (region_count cut) (region_at cut i) in
      ap (λ s. row_at (state_at net s) i) (sym here);
  earlier = λ i t there border later.
      let here : start_of (zero_start net cut) cut i ≡ 0 = zeros (region_count cut) (region_at cut i) in
      absurd (omega (arith, here, later));
}
