-- One draw after the other.
use Rattle.std.proofs.Common.{◌≡◌, ℕ, ◌+◌, ◌*◌, ◌%◌, ◌^◌, refl, add-one}
use Rattle.net_make.specs.Draws.{state_after}

pub state_after-more : (seed k : ℕ) → state_after seed (k + 1) ≡ (6_364_136_223_846_793_005 * state_after seed k + 1_442_695_040_888_963_407) % 2 ^ 64
unfolding state_after
state_after-more seed k = rw (add-one k) refl
