-- Calls that are numbered from 0, of which those with listed numbers fail.
use Rattle.std.specs.Prelude.{ℕ, Bool, List, ◌==◌, if◌then◌else◌}
use Rattle.std.specs.List.{list_any}
use Rattle.ctm_ports.specs.Count.{raised}

pub record Calls : Type 0 where
  -- the numbers of the calls that fail
  pub fails : List ℕ
  -- the number of the next call, which stays where a count stays
  pub next : ℕ
  -- how many calls failed
  pub faults : ℕ

-- before the first call
abbrev pub no_calls : List ℕ → Calls
no_calls fails = record { fails = fails; next = 0; faults = 0 }

-- whether the next call fails
abbrev pub next_fails : Calls → Bool
next_fails calls = list_any (λ number. number == calls.next) calls.fails

-- after the next call
abbrev pub after_call : Calls → Calls
after_call calls = record {
  fails = calls.fails;
  next = raised calls.next;
  faults = if next_fails calls then raised calls.faults else calls.faults;
}
