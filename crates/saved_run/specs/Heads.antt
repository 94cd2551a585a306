-- A content by its two parts.
use Rattle.std.specs.Prelude.{ℕ, List}
use Rattle.saved_run.specs.Content.{Content}
use Rattle.saved_run.specs.declared.saved_head.SavedHead.{SavedHead}

-- what stands before the network, and the bytes of the network
abbrev pub content_in : SavedHead → (network : List ℕ) → Content
content_in head network = record { steps = head.steps.items; rows = head.rows.items; network = network }
