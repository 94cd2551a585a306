-- A run that is saved near a step: why it has no text, and which texts it may have.
use Rattle.std.specs.Prelude.{◌≡◌, ℕ, zero, suc, List, Option, None, length, map, min, slice_index, IsOkAnd}
use Rattle.std.specs.List.{range_with_len}
use Rattle.command_words.specs.declared.request.Request.{Request}
use Rattle.network_file.specs.Network.{Network}
use Rattle.network_file.specs.Reading.{network_of}
use Rattle.flow_model.specs.State.{occupancy, row_at, state_at}
use Rattle.region_cut.specs.Cuttings.{region_at}
use Rattle.snapshot.specs.Shots.{AreStepsBetween}
use Rattle.saved_run.specs.Content.{Content}
use Rattle.saved_run.specs.SavedText.{saved_text}
use Rattle.saved_run.specs.declared.row_line.RowLine.{RowLine}
use Rattle.network_run.specs.Near.{near_end}
use Rattle.call_ending.specs.Why.{Why}
use Rattle.call_beginning.specs.NetworkInput.{why_of_network}
use Rattle.call_beginning.specs.Task.{Task}
use Rattle.call_beginning.specs.UsedCutting.{IsCuttingOf}

abbrev pub save_refused : Task → Option Why
save_refused task = why_of_network (network_of task.input) (λ net. None)

-- what cell i held one step before a step; before step 0 there was nothing
abbrev pub earlier_at : Network → (step i : ℕ) → ℕ
earlier_at net zero i = 0
earlier_at net (suc t) i = occupancy (state_at net t) i

-- the line of cell i, whose region stands at this step: its region, its row of the plain recurrences there, and what it held
-- one step before
abbrev pub line_at : Network → (cut : List ℕ) → (step i : ℕ) → RowLine
line_at net cut step i = record { region = region_at cut i; row = row_at (state_at net step) i; earlier = earlier_at net step i }

-- a run of this input's network whose regions stand at these steps
abbrev pub run_at : Network → (cut steps : List ℕ) → (input : List ℕ) → Content
run_at net cut steps input = record {
  steps = steps;
  rows = map (λ i. line_at net cut (slice_index steps (region_at cut i)) i) (range_with_len 0 (length net.cells));
  network = input;
}

-- a run, in a cutting for the request, that is saved near a step, or near the last one where that comes first: neighbouring
-- regions stand at most one step apart, and none stands before that step or more than four steps past it
pub record IsSavedRun (net : Network) (request : Request) (input : List ℕ) (text : List ℕ) : Type 0 where
  pub cut : List ℕ
  pub cutting : IsCuttingOf net request cut
  pub steps : List ℕ
  pub stand : AreStepsBetween net cut (min request.until net.steps) (near_end net request.until) steps
  pub saved : text ≡ saved_text (run_at net cut steps input)

abbrev pub IsSaveText : Task → List ℕ → Type 0
IsSaveText task text = IsOkAnd (network_of task.input) (λ net. IsSavedRun net task.request task.input text)
