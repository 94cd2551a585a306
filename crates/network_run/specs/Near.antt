-- A snapshot near a step.
use Rattle.std.specs.Prelude.{ℕ, ◌+◌, min}
use Rattle.network_file.specs.Network.{Network}

-- the last step at which a snapshot near a step may show a region: four steps past it, and none past the last
abbrev pub near_end : Network → (until : ℕ) → ℕ
near_end net until = min (min until net.steps + 4) net.steps
