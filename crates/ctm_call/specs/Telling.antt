-- What the observer of a call was told, one line for each mode. In `save` and `watch` what was told and the text are of the same
-- cutting. In `watch` they are also of the same steps of the regions at each shot.
use Rattle.std.specs.Prelude.{ℕ, ⊤, List, Option, None, Some, IsOkAnd, IsSomeAnd, length}
use Rattle.command_words.specs.declared.mode.Mode.{Mode}
use Rattle.command_words.specs.declared.mode.Mode.TheVariants.{Run, Watch, Sample, Save, Resume, Choose, Recut, Cut, Check, Convert}
use Rattle.command_words.specs.declared.request.Request.{Request}
use Rattle.network_file.specs.Reading.{network_of}
use Rattle.saved_run.specs.Loading.{IsCutSo, start_in}
use Rattle.saved_run.specs.Reading.{content_of}
use Rattle.call_beginning.specs.Task.{Task, task_of}
use Rattle.call_beginning.specs.UsedCutting.{IsCuttingOf}
use Rattle.call_beginning.specs.UsedRegions.{regions_wanted}
use Rattle.network_run.specs.Near.{near_end}
use Rattle.network_run.specs.Telling.{HasTold, HasToldIn, Telling, zero_run}
use Rattle.network_run.specs.ToldParts.{HasToldOn, HasToldParts}
use Rattle.network_run.specs.ToldShots.{HasToldShots, TellingOfShots, TellingOfWatchers}
use Rattle.run_modes.specs.SampleMode.{IsSampleCutting}
use Rattle.run_modes.specs.WatchMode.{HasShotsAndReport}
use Rattle.saved_modes.specs.Recutting.{part_cuttings}
use Rattle.saved_modes.specs.SaveMode.{IsSavedRun}
use Rattle.ctm_call.specs.Answer.{IsTextTo}

-- the observer was told, by the mode, of each region at each step that the region was taken through, from its first step to the
-- last, in `save` to the last step that the text may show
abbrev pub IsToldBy : (held freed : Telling) (watching : TellingOfWatchers) (watched : TellingOfShots) → Mode → Task → (text : List ℕ) → Type 0
IsToldBy held freed watching watched Run task text = IsOkAnd (network_of task.input) (λ net. HasToldIn held freed (IsCuttingOf net task.request) net task.request.every net.steps)
IsToldBy held freed watching watched Watch task text = IsOkAnd (network_of task.input) (λ net. (shown : HasShotsAndReport net task.request text) × HasTold held freed (zero_run net shown.cut task.request.every) net.steps × HasToldShots watching watched (zero_run net shown.cut task.request.every) task.request.shots shown.are.steps)
IsToldBy held freed watching watched Sample task text = IsOkAnd (network_of task.input) (λ net. HasToldIn held freed (IsSampleCutting net task.request) net 0 net.steps)
IsToldBy held freed watching watched Save task text = IsOkAnd (network_of task.input) (λ net. (saved : IsSavedRun net task.request task.input text) × HasTold held freed (zero_run net saved.cut 0) (near_end net task.request.until))
IsToldBy held freed watching watched Resume task text = IsSomeAnd (content_of task.input) (λ content. HasToldOn held freed (IsCutSo content) (start_in content))
IsToldBy held freed watching watched Choose task text = ⊤
IsToldBy held freed watching watched Recut task text = IsOkAnd (network_of task.input) (λ net. HasToldParts held freed net (part_cuttings (length net.cells) (regions_wanted (length net.cells) task.request) task.request.parts))
IsToldBy held freed watching watched Cut task text = ⊤
IsToldBy held freed watching watched Check task text = ⊤
IsToldBy held freed watching watched Convert task text = ⊤

-- the request with this input was answered by this text, and the observer was told what the mode tells of it
abbrev pub IsAnswered : (held freed : Telling) (watching : TellingOfWatchers) (watched : TellingOfShots) → Option Request → (input text : List ℕ) → Type 0
IsAnswered held freed watching watched None input text = ⊥
IsAnswered held freed watching watched (Some request) input text = IsTextTo request input text × IsToldBy held freed watching watched request.mode (task_of request input) text
