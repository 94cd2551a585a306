-- Zones in which a sweep asks for speeds. They are of whole fours of places: the m-th four begins at place 4 * m.
use Rattle.std.specs.Prelude.{◌≡◌, ◌&&◌, ◌||◌, ℕ, zero, suc, ◌+◌, ◌*◌, ◌<◌, ◌≤◌, Bool, true, false, List, length, slice_index_or}
use Rattle.cell_sweep.specs.declared.speed_zone.SpeedZone.{SpeedZone}

abbrev pub zone_at : List SpeedZone → (k : ℕ) → SpeedZone
zone_at zones k = slice_index_or zones k (record { from = 0; to = 0; all_slow = false })

-- the four behind the zone before the k-th
abbrev pub end_before : List SpeedZone → (k : ℕ) → ℕ
end_before zones zero = 0
end_before zones (suc k) = (zone_at zones k).to

-- whether a place of the m-th four is slow
abbrev pub is_slow_four : (slow : ℕ → Bool) → (m : ℕ) → Bool
is_slow_four slow m = slow (4 * m) || slow (4 * m + 1) || slow (4 * m + 2) || slow (4 * m + 3)

-- whether each place of it is
abbrev pub is_all_slow_four : (slow : ℕ → Bool) → (m : ℕ) → Bool
is_all_slow_four slow m = slow (4 * m) && slow (4 * m + 1) && slow (4 * m + 2) && slow (4 * m + 3)

-- of the first so many fours those with a slow place lie in these zones, and no others do; those of which all places are slow lie in the
-- zones that are all slow, and only there
pub record AreZones (slow : ℕ → Bool) (fours : ℕ) (zones : List SpeedZone) : Type 0 where
  pub order : (k : ℕ) → k < length zones → end_before zones k ≤ (zone_at zones k).from
  pub some : (k : ℕ) → k < length zones → (zone_at zones k).from < (zone_at zones k).to
  pub within : (k : ℕ) → k < length zones → (zone_at zones k).to ≤ fours
  pub inside : (k m : ℕ) → k < length zones → (zone_at zones k).from ≤ m → m < (zone_at zones k).to → is_slow_four slow m ≡ true
  pub all_slow : (k m : ℕ) → k < length zones → (zone_at zones k).from ≤ m → m < (zone_at zones k).to → is_all_slow_four slow m ≡ (zone_at zones k).all_slow
  pub free : (k m : ℕ) → k < length zones → end_before zones k ≤ m → m < (zone_at zones k).from → is_slow_four slow m ≡ false
  pub rest : (m : ℕ) → end_before zones (length zones) ≤ m → m < fours → is_slow_four slow m ≡ false
