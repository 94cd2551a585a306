-- What a test counts for.
use Rattle.std.specs.Prelude.{cond}
use Rattle.std.proofs.Common.{◌≡◌, ℕ, Bool, true, false, ap}

pub counted : (b : Bool) → b ≡ true → ◌≡◌ {A = ℕ} (cond b 1 0) 1
counted b is = let count : Bool → ℕ = λ v. cond v 1 0 in ap count is

pub uncounted : (b : Bool) → b ≡ false → ◌≡◌ {A = ℕ} (cond b 1 0) 0
uncounted b is = let count : Bool → ℕ = λ v. cond v 1 0 in ap count is

pub true-not_false : true ≡ false → ⊥
true-not_false same = cc
