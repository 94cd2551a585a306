-- The most that a curve has been up to a step.
use Rattle.std.proofs.Common.{◌≡◌, ℕ, zero, suc, max, add-one, ◌+◌, ◌≤◌, arith}

abbrev pub most_by : (f : ℕ → ℕ) → (t : ℕ) → ℕ
most_by f zero = f 0
most_by f (suc t) = max (most_by f t) (f (suc t))

pub most_by-next : (f : ℕ → ℕ) (t : ℕ) → most_by f (t + 1) ≡ max (most_by f t) (f (t + 1))
most_by-next f t = rw add-one (omega arith)

-- the curve is never past it
pub le-most_by : (f : ℕ → ℕ) (t : ℕ) → f t ≤ most_by f t
le-most_by f zero = omega arith
le-most_by f (suc t) = omega arith

-- curves that agree up to the step have the same
pub most_by-same : (f g : ℕ → ℕ) (t : ℕ) → ((s : ℕ) → s ≤ t → f s ≡ g s) → most_by f t ≡ most_by g t
most_by-same f g zero same = same 0 (omega arith)
most_by-same f g (suc t) same = omega (arith, same (suc t) (omega arith), most_by-same f g t (λ s within. same s (omega arith)))

-- of a curve that never falls it is the curve
pub most_by-rising : (f : ℕ → ℕ) (t : ℕ) → ((s : ℕ) → s + 1 ≤ t → f s ≤ f (s + 1)) → most_by f t ≡ f t
most_by-rising f zero rises = omega arith
most_by-rising f (suc t) rises =
    let last : f t ≤ f (suc t) = rw add-one at (rises t (omega arith)) in
    omega (arith, most_by-rising f t (λ s within. rises s (omega arith)))
