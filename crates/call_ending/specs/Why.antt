-- Why the answer to a call is no text.
use Rattle.std.specs.Prelude.{ℕ, List}
use Rattle.call_ending.specs.declared.status.Status.{Status}

-- why the answer to a call is no text: the status, and the line on err
pub record Why : Type 0 where
  pub status : Status
  pub line : List ℕ
