-- A saved text that `resume` ends with one report.
use Rattle.std.specs.Prelude.{◌≡◌, ◌≤◌, ◌↔◌, ℕ, List, None, length}
use Rattle.command_words.specs.declared.mode.Mode.TheVariants.{Resume}
use Rattle.command_words.specs.declared.request.Request.{Request}
use Rattle.saved_modes.specs.ResumeMode.{IsResumeText, resume_refused}
use Rattle.call_beginning.specs.Input.{most_input}
use Rattle.call_beginning.specs.Task.{task_of}

-- whatever else `resume` is asked with, it reads the saved text whole, nothing stands against it, and the report is the one
-- text that answers
pub record IsResumedAs (report saved : List ℕ) : Type 0 where
  pub whole : length saved ≤ most_input Resume
  pub taken : (request : Request) → resume_refused (task_of request saved) ≡ None
  pub answered : (request : Request) (text : List ℕ) → IsResumeText (task_of request saved) text ↔ (text ≡ report)
