-- The least number below a bound that passes a test.
use Rattle.std.specs.Prelude.{◌≡◌, ℕ, ◌<◌, ◌≤◌, Bool, true, false}

-- it, or the bound where none passes
pub record IsLeast (bound : ℕ) (test : ℕ → Bool) (least : ℕ) : Type 0 where
  pub within : least ≤ bound
  pub before : (i : ℕ) → i < least → test i ≡ false
  pub here : least < bound → test least ≡ true
