-- A run that is watched: why it has no text, and which texts it may have.
use Rattle.std.specs.Prelude.{◌≡◌, ℕ, ◌*◌, ◌++◌, List, Option, Some, None, length, nat_lt, if◌then◌else◌, codes, IsOkAnd}
use Rattle.std.specs.Option.{option_or}
use Rattle.command_words.specs.declared.request.Request.{Request}
use Rattle.network_file.specs.Network.{Network}
use Rattle.network_file.specs.Reading.{network_of}
use Rattle.shot_lines.specs.Shots.{AreShots}
use Rattle.delay_report.specs.Report.{report_of}
use Rattle.call_ending.specs.Why.{Why}
use Rattle.call_ending.specs.declared.status.Status.TheVariants as status
use Rattle.call_beginning.specs.NetworkInput.{why_of_network}
use Rattle.call_beginning.specs.Recording.{why_unrecorded}
use Rattle.call_beginning.specs.Task.{Task}
use Rattle.call_beginning.specs.UsedCutting.{IsCuttingOf}

-- more than 4,000,000 rows, cells times shots, are too many
abbrev pub why_unshown : Network → (shots : ℕ) → Option Why
why_unshown net shots =
    if nat_lt 4_000_000 (length net.cells * shots) then Some (record { status = status.TooLarge; line = codes "ctm: too large: shots\n" }) else None

abbrev pub watch_refused : Task → Option Why
watch_refused task = why_of_network (network_of task.input) (λ net. option_or (why_unrecorded net task.request.every) (why_unshown net task.request.shots))

-- the text of a run that is watched, in a cutting for the request: its shots, of which each shows the regions at lawful steps
-- between two goals and the rows of the plain recurrences at each region's own step (`AreShots`), and then the report
pub record HasShotsAndReport (net : Network) (request : Request) (whole : List ℕ) : Type 0 where
  pub cut : List ℕ
  pub cutting : IsCuttingOf net request cut
  pub shots : List ℕ
  pub are : AreShots net cut request.shots shots
  pub text : whole ≡ shots ++ report_of net request.every

abbrev pub IsWatchText : Task → List ℕ → Type 0
IsWatchText task text = IsOkAnd (network_of task.input) (λ net. HasShotsAndReport net task.request text)
