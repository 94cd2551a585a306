-- What a sink that never fails holds.
use Rattle.std.specs.Prelude.{ℕ, List, ◌++◌, take}
use Rattle.ctm_ports.specs.Wrote.{bytes_taken, wants_after}
use Rattle.ctm_ports.specs.declared.sink.Wrote.{Wrote}

-- the bytes taken so far, and how many writes got no memory
pub record SureStore : Type 0 where
  pub taken : List ℕ
  pub wants : ℕ

-- the store after a write of a piece with that answer
abbrev pub after_write : SureStore → List ℕ → Wrote → SureStore
after_write store piece answer = record {
  taken = store.taken ++ take (bytes_taken answer) piece;
  wants = wants_after store.wants answer;
}
