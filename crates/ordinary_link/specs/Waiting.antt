use Rattle.std.specs.Prelude.{ℕ, ◌+◌, ◌-◌, Bool, if◌then◌else◌}

-- how long a cell's parts have waited after a step in which `out` of its `n` parts left, where they wait in it
abbrev pub wait_after : (wait n out : ℕ) → Bool → ℕ
wait_after wait n out waits = if waits then wait + n - out else wait
