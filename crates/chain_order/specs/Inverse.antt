-- Lists of indices that lead to each other.
use Rattle.std.specs.Prelude.{◌≡◌, ℕ, ◌<◌, List, length, slice_index}

-- each number of the one list is an index of the other, at which its own index stands
abbrev pub LeadsBack : (there back : List ℕ) → Type 0
LeadsBack there back =
    (p : ℕ) → p < length there → (slice_index there p < length back) × (slice_index back (slice_index there p) ≡ p)
