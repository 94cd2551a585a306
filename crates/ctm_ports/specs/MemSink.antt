-- What a sink in memory holds after each answer.
use Rattle.std.specs.Prelude.{ℕ, List, ◌++◌, take}
use Rattle.ctm_ports.specs.Calls.{Calls, after_call}
use Rattle.ctm_ports.specs.Wrote.{bytes_taken, wants_after}
use Rattle.ctm_ports.specs.declared.sink.Wrote.{Wrote}

-- the bytes taken so far, the most bytes of one write, the writes so far, and how many of them got no memory
pub record Store : Type 0 where
  pub taken : List ℕ
  pub chunk : ℕ
  pub calls : Calls
  pub wants : ℕ

-- the store after a write of a piece with that answer
abbrev pub after_write : Store → List ℕ → Wrote → Store
after_write store piece answer = record {
  taken = store.taken ++ take (bytes_taken answer) piece;
  chunk = store.chunk;
  calls = after_call store.calls;
  wants = wants_after store.wants answer;
}
