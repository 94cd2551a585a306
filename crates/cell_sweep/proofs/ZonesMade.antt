-- Zones that are made from the first four on.
use Rattle.std.proofs.Common.{◌≡◌, ℕ, zero, suc, ◌+◌, ◌<◌, ◌≤◌, Bool, true, false, inl, inr, List, [], ◌∷◌, ◌++◌, length, add-one, refl, ap, ◌∙◌, subst, arith}
use Rattle.std.proofs.lemmas.Bool.{cases_lt}
use Rattle.std.proofs.lemmas.List.{get_or_append_left, get_or_push, length-append}
use Rattle.cell_sweep.specs.SpeedZones.{AreZones, end_before, is_all_slow_four, is_slow_four, zone_at}
use Rattle.cell_sweep.specs.declared.speed_zone.SpeedZone.{SpeedZone}

abbrev no_zone : SpeedZone
no_zone = record { from = 0; to = 0; all_slow = false }

-- the zones before four p; the fours from `from` on up to it are alike, and end no zone yet
pub record AreZonesTo (slow every : ℕ → Bool) (from p : ℕ) (any all : Bool) (zones : List SpeedZone) : Type 0 where
  pub come : from ≤ p
  pub begun : any ≡ true → from < p
  pub order : (k : ℕ) → k < length zones → end_before zones k ≤ (zone_at zones k).from
  pub some : (k : ℕ) → k < length zones → (zone_at zones k).from < (zone_at zones k).to
  pub within : (k : ℕ) → k < length zones → (zone_at zones k).to ≤ from
  pub inside : (k q : ℕ) → k < length zones → (zone_at zones k).from ≤ q → q < (zone_at zones k).to → slow q ≡ true
  pub all_slow : (k q : ℕ) → k < length zones → (zone_at zones k).from ≤ q → q < (zone_at zones k).to → every q ≡ (zone_at zones k).all_slow
  pub free : (k q : ℕ) → k < length zones → end_before zones k ≤ q → q < (zone_at zones k).from → slow q ≡ false
  pub behind : end_before zones (length zones) ≤ from
  pub rest : (q : ℕ) → end_before zones (length zones) ≤ q → q < from → slow q ≡ false
  pub any_so_far : (q : ℕ) → from ≤ q → q < p → slow q ≡ any
  pub all_so_far : (q : ℕ) → from ≤ q → q < p → every q ≡ all

zone-early : (zones : List SpeedZone) (zone : SpeedZone) (k : ℕ) → k < length zones → zone_at (zones ++ zone ∷ []) k ≡ zone_at zones k
zone-early zones zone k within = get_or_append_left zones (zone ∷ []) no_zone k within

end-early : (zones : List SpeedZone) (zone : SpeedZone) (k : ℕ) → k ≤ length zones → end_before (zones ++ zone ∷ []) k ≡ end_before zones k
end-early zones zone zero within = refl
end-early zones zone (suc k) within = ap (λ zone. zone.to) (zone-early zones zone k (omega (arith, within)))

end-last : (zones : List SpeedZone) (zone : SpeedZone) → end_before (zones ++ zone ∷ []) (length (zones ++ zone ∷ [])) ≡ zone.to
end-last zones zone =
    ap (end_before (zones ++ zone ∷ [])) (length-append zones (zone ∷ []) ∙ add-one (length zones))
    ∙ ap (λ zone. zone.to) (get_or_push zones zone no_zone (length zones) refl)

-- no zone yet
pub zones-none : (slow every : ℕ → Bool) → AreZonesTo slow every 0 0 false false []
zones-none slow every = record {
  come = omega arith;
  begun = λ never. cc;
  order = λ k within. absurd (omega (arith, within));
  some = λ k within. absurd (omega (arith, within));
  within = λ k within. absurd (omega (arith, within));
  inside = λ k q within. absurd (omega (arith, within));
  all_slow = λ k q within. absurd (omega (arith, within));
  free = λ k q within. absurd (omega (arith, within));
  behind = omega arith;
  rest = λ q from before. absurd (omega (arith, before));
  any_so_far = λ q from before. absurd (omega (arith, before));
  all_so_far = λ q from before. absurd (omega (arith, before));
}

-- the next four is like those before
pub zones-grown : (slow every : ℕ → Bool) (from p : ℕ) (any all : Bool) (zones : List SpeedZone) → AreZonesTo slow every from p any all zones →
    slow p ≡ any → every p ≡ all → AreZonesTo slow every from (p + 1) any all zones
zones-grown slow every from p any all zones are some full = record {
  come = omega (arith, are.come);
  begun = λ _. omega (arith, are.come);
  order = are.order;
  some = are.some;
  within = are.within;
  inside = are.inside;
  all_slow = are.all_slow;
  free = are.free;
  behind = are.behind;
  rest = are.rest;
  any_so_far = λ q begun before. elim (cases_lt q p) [
    | inl early ↦ are.any_so_far q begun early
    | inr late ↦ let e : p ≡ q = omega (arith, late, before) in subst (λ q. slow q ≡ any) e some
  ];
  all_so_far = λ q begun before. elim (cases_lt q p) [
    | inl early ↦ are.all_so_far q begun early
    | inr late ↦ let e : p ≡ q = omega (arith, late, before) in subst (λ q. every q ≡ all) e full
  ];
}

only : (f : ℕ → Bool) (p q : ℕ) → p ≤ q → q < p + 1 → f q ≡ f p
only f p q from before = let e : q ≡ p = omega (arith, from, before) in ap f e

-- it is not, and a zone ends before it
pub zones-ended : (slow every : ℕ → Bool) (from p : ℕ) (all : Bool) (zones : List SpeedZone) → AreZonesTo slow every from p true all zones →
    AreZonesTo slow every p (p + 1) (slow p) (every p) (zones ++ record { from = from; to = p; all_slow = all } ∷ [])
zones-ended slow every from p all_of zones are =
    let zone : SpeedZone = record { from = from; to = p; all_slow = all_of } in
    let all = zones ++ zone ∷ [] in
    let some : from < p = are.begun refl in
    let long : length all ≡ length zones + 1 = length-append zones (zone ∷ []) in
    let end = end-last zones zone in
    let last : zone_at all (length zones) ≡ zone = get_or_push zones zone no_zone (length zones) refl in
    record {
      come = omega arith;
      begun = λ _. omega arith;
      order = λ k within. elim (cases_lt k (length zones)) [
        | inl early ↦ rw (zone-early zones zone k early, end-early zones zone k (omega (arith, early))) (are.order k early)
        | inr late ↦
            let e : k ≡ length zones = omega (arith, late, within, long) in
            rw (e, last, end-early zones zone (length zones) (omega arith)) are.behind
      ];
      some = λ k within. elim (cases_lt k (length zones)) [
        | inl early ↦ rw (zone-early zones zone k early) (are.some k early)
        | inr late ↦ let e : k ≡ length zones = omega (arith, late, within, long) in rw (e, last) some
      ];
      within = λ k within. elim (cases_lt k (length zones)) [
        | inl early ↦ rw (zone-early zones zone k early) (omega (arith, are.within k early, some))
        | inr late ↦ let e : k ≡ length zones = omega (arith, late, within, long) in rw (e, last) (omega arith)
      ];
      inside = λ k q within begun before. elim (cases_lt k (length zones)) [
        | inl early ↦
            are.inside k q early (rw (zone-early zones zone k early) at begun) (rw (zone-early zones zone k early) at before)
        | inr late ↦
            let e : k ≡ length zones = omega (arith, late, within, long) in
            are.any_so_far q (rw (e, last) at begun) (rw (e, last) at before)
      ];
      all_slow = λ k q within begun before. elim (cases_lt k (length zones)) [
        | inl early ↦
            rw (zone-early zones zone k early)
            (are.all_slow k q early (rw (zone-early zones zone k early) at begun) (rw (zone-early zones zone k early) at before))
        | inr late ↦
            let e : k ≡ length zones = omega (arith, late, within, long) in
            rw (e, last) (are.all_so_far q (rw (e, last) at begun) (rw (e, last) at before))
      ];
      free = λ k q within begun before. elim (cases_lt k (length zones)) [
        | inl early ↦
            are.free k q early (rw (end-early zones zone k (omega (arith, early))) at begun) (rw (zone-early zones zone k early) at before)
        | inr late ↦
            let e : k ≡ length zones = omega (arith, late, within, long) in
            are.rest q (rw (e, end-early zones zone (length zones) (omega arith)) at begun) (rw (e, last) at before)
      ];
      behind = omega (arith, end);
      rest = λ q begun before. absurd (omega (arith, begun, before, end));
      any_so_far = λ q begun before. only slow p q begun before;
      all_so_far = λ q begun before. only every p q begun before;
    }

-- it is not, and those before are in no zone
pub zones-passed : (slow every : ℕ → Bool) (from p : ℕ) (all : Bool) (zones : List SpeedZone) → AreZonesTo slow every from p false all zones →
    AreZonesTo slow every p (p + 1) (slow p) (every p) zones
zones-passed slow every from p all zones are = record {
  come = omega arith;
  begun = λ _. omega arith;
  order = are.order;
  some = are.some;
  within = λ k within. omega (arith, are.within k within, are.come);
  inside = are.inside;
  all_slow = are.all_slow;
  free = are.free;
  behind = omega (arith, are.behind, are.come);
  rest = λ q begun before. elim (cases_lt q from) [
    | inl early ↦ are.rest q begun early
    | inr late ↦ are.any_so_far q late before
  ];
  any_so_far = λ q begun before. only slow p q begun before;
  all_so_far = λ q begun before. only every p q begun before;
}

-- all of them
pub zones-all : (slow : ℕ → Bool) (p : ℕ) (any all : Bool) (zones : List SpeedZone) →
    AreZonesTo (is_slow_four slow) (is_all_slow_four slow) p (p + 1) any all zones → AreZones slow p zones
zones-all slow p any all zones are = record {
  order = are.order;
  some = are.some;
  within = are.within;
  inside = are.inside;
  all_slow = are.all_slow;
  free = are.free;
  rest = are.rest;
}
