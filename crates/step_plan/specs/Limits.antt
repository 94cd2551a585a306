-- How many steps there may be.
use Rattle.std.specs.Prelude.{ℕ}
pub use Rattle.fixed_flow.specs.Limits.{most_ratio}

-- the most steps of a network, and the longest cycle of a signal
abbrev pub most_steps : ℕ
most_steps = 100_000
