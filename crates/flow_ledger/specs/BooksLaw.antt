-- The law of the books: no vehicle is lost and none made, at whatever steps the cells stand.
use Rattle.std.specs.Prelude.{◌≡◌, ℕ, ◌≤◌, List, pos, ◌+ℤ◌, ◌-ℤ◌}
use Rattle.network_file.specs.Network.{Network}
use Rattle.flow_model.specs.State.{state_at}
use Rattle.flow_model.specs.declared.row.Row.{Row}
use Rattle.flow_ledger.specs.UnevenSteps.{StandAt}
use Rattle.flow_ledger.specs.declared.network_books.Books.{Books}

-- what is inside and what is under way are what was there at first and what entered, less what left
abbrev pub BooksLaw : Network → List Row → Books → Type 0
BooksLaw net rows books =
    (s : ℕ → ℕ) → StandAt net s rows → books.inside +ℤ books.flight ≡ books.initial +ℤ books.entered -ℤ books.left

-- where all cells stand at one step: nothing is under way, and what is inside or has left was there at first or has entered
abbrev pub BooksAtOneStep : Network → List Row → Books → Type 0
BooksAtOneStep net rows books =
    (t : ℕ) → t ≤ net.steps → rows ≡ state_at net t →
    (books.flight ≡ pos 0) × (books.inside +ℤ books.left ≡ books.initial +ℤ books.entered)
