-- The diverge of one sender into two branches.
use Rattle.std.specs.Prelude.{ℕ, ◌+◌, ◌*◌, ◌/◌, min}
use Rattle.diverge_rule.specs.declared.split.Split.{Split}

-- what passes is k times both turning shares, for the greatest k that the sender, the first branch and the second allow
unfoldable pub diverge_of : (s r1 r2 b1 b2 : ℕ) → Split
diverge_of s r1 r2 b1 b2 =
    let k = min (min (s / (b1 + b2)) (r1 / b1)) (r2 / b2) in record { parts = k; out = k * (b1 + b2); to1 = k * b1; to2 = k * b2 }
