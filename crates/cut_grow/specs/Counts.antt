-- How many numbers of a list are equal to a number, or below it.
use Rattle.std.specs.Prelude.{◌≡◌, ℕ, ◌+◌, ◌-◌, ◌≤◌, min, eqb, nat_lt, List, length, slice_index, count_by}
use Rattle.cut_grow.specs.declared.span.Span.{Span}

pub record AreCountsEqual (numbers : List ℕ) (bound : ℕ) (counts : List ℕ) : Type 0 where
  pub long : length counts ≡ bound + 1
  pub each : (p : ℕ) → p ≤ bound → slice_index counts p ≡ count_by (λ number. eqb number p) numbers

pub record AreCountsBelow (numbers : List ℕ) (bound : ℕ) (counts : List ℕ) : Type 0 where
  pub long : length counts ≡ bound + 1
  pub each : (p : ℕ) → p ≤ bound → slice_index counts p ≡ count_by (λ number. nat_lt number p) numbers

-- the first place from which a run of this size has the whole span, or, where it is too long, the place after its first
abbrev pub begin_of : (size : ℕ) → Span → ℕ
begin_of size span = min (span.last + 1 - size) (span.first + 1)
