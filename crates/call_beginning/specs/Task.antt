-- What is to be done: a request, and its input.
use Rattle.std.specs.Prelude.{ℕ, List}
use Rattle.command_words.specs.declared.request.Request.{Request}

pub record Task : Type 0 where
  pub request : Request
  pub input : List ℕ

abbrev pub task_of : Request → (input : List ℕ) → Task
task_of request input = record { request = request; input = input }
