-- What follows for the shots of a run that is watched.
use Rattle.std.specs.Prelude.{IsOkAnd}
use Rattle.std.proofs.Common.{◌≡◌, ℕ, ◌+◌, ◌<◌, List, Result, Ok, Err, refl}
use Rattle.network_file.specs.Network.{Network}
use Rattle.network_file.specs.Reading.{network_of}
use Rattle.network_file.specs.Sound.{IsNetwork}
use Rattle.network_file.specs.declared.fault.NetFault.{NetFault}
use Rattle.region_cut.specs.Chart.{list_at}
use Rattle.snapshot.specs.Shots.{IsShotBetween, goal_of}
use Rattle.snapshot.proofs.ShotLaws.{shot-between}
use Rattle.command_words.specs.declared.request.Request.{Request}
use Rattle.call_beginning.specs.Task.{Task}
use Rattle.network_file.proofs.SoundNetwork.{network_of-sound}
use Rattle.run_modes.specs.WatchMode.{HasShotsAndReport, IsWatchText}

-- each shot is one between its goals, whose books balance and whose roads keep their rooms
abbrev pub AreKept : (net : Network) (request : Request) (text : List ℕ) → HasShotsAndReport net request text → Type 0
AreKept net request text shown =
    (i : ℕ) → i < request.shots → IsShotBetween net shown.cut (goal_of net.steps request.shots i) (goal_of net.steps request.shots (i + 1)) (list_at shown.are.steps i)

-- whichever cutting and steps stand behind a text
pub kept-each : (net : Network) (request : Request) (text : List ℕ) → IsNetwork net → (shown : HasShotsAndReport net request text) → AreKept net request text shown
kept-each net request text sound shown = λ i within.
    let stand = shown.are.each i within in
    shot-between net shown.cut (goal_of net.steps request.shots i) (goal_of net.steps request.shots (i + 1)) (list_at shown.are.steps i) sound stand.lawful stand.between

shown-with : (read : Result Network NetFault) (request : Request) (text : List ℕ) → ((net : Network) → read ≡ Ok net → IsNetwork net) → IsOkAnd read (λ net. HasShotsAndReport net request text) →
    IsOkAnd read (λ net. (shown : HasShotsAndReport net request text) × AreKept net request text shown)
shown-with (Ok net) request text sound shown = (shown, kept-each net request text (sound net refl) shown)
shown-with (Err fault) request text sound shown = absurd shown

-- in each shot the books balance with what is under way between the regions, nothing is under way within one, and no road holds more
-- than its room
pub watched-shots : (task : Task) (text : List ℕ) → IsWatchText task text →
    IsOkAnd (network_of task.input) (λ net. (shown : HasShotsAndReport net task.request text) × AreKept net task.request text shown)
watched-shots task text is = shown-with (network_of task.input) task.request text (network_of-sound task.input) is
