-- The answer to the words and the input.
use Rattle.std.specs.Prelude.{◌≡◌, ℕ, List, Option, Some, None}
use Rattle.std.specs.Option.{option_or}
use Rattle.command_words.specs.declared.mode.Mode.{Mode}
use Rattle.command_words.specs.declared.mode.Mode.TheVariants.{Run, Watch, Sample, Save, Resume, Choose, Recut, Cut, Check, Convert}
use Rattle.command_words.specs.declared.request.Request.{Request}
use Rattle.call_ending.specs.Why.{Why}
use Rattle.workerless_modes.specs.CheckMode.{IsCheckText, check_refused}
use Rattle.workerless_modes.specs.ChooseMode.{IsChooseText, choose_refused}
use Rattle.workerless_modes.specs.ConvertMode.{IsConvertText, convert_refused}
use Rattle.workerless_modes.specs.CutMode.{IsCutText, cut_refused}
use Rattle.call_beginning.specs.Input.{why_long}
use Rattle.saved_modes.specs.RecutMode.{IsRecutText, recut_refused}
use Rattle.saved_modes.specs.ResumeMode.{IsResumeText, resume_refused}
use Rattle.run_modes.specs.RunMode.{IsRunText, run_refused}
use Rattle.run_modes.specs.SampleMode.{IsSampleText, sample_refused}
use Rattle.saved_modes.specs.SaveMode.{IsSaveText, save_refused}
use Rattle.call_beginning.specs.Task.{Task, task_of}
use Rattle.run_modes.specs.WatchMode.{IsWatchText, watch_refused}
use Rattle.call_beginning.specs.Words.{words_refused}

-- why a task has no text, by its mode
abbrev pub why_by : Mode → Task → Option Why
why_by Run task = run_refused task
why_by Watch task = watch_refused task
why_by Sample task = sample_refused task
why_by Save task = save_refused task
why_by Resume task = resume_refused task
why_by Choose task = choose_refused task.input
why_by Recut task = recut_refused task
why_by Cut task = cut_refused task
why_by Check task = check_refused task.input
why_by Convert task = convert_refused task.input

-- which texts answer a task, by its mode
abbrev pub IsTextBy : Mode → Task → List ℕ → Type 0
IsTextBy Run task text = IsRunText task text
IsTextBy Watch task text = IsWatchText task text
IsTextBy Sample task text = IsSampleText task text
IsTextBy Save task text = IsSaveText task text
IsTextBy Resume task text = IsResumeText task text
IsTextBy Choose task text = IsChooseText task.input text
IsTextBy Recut task text = IsRecutText task text
IsTextBy Cut task text = IsCutText task text
IsTextBy Check task text = IsCheckText task.input text
IsTextBy Convert task text = IsConvertText task.input text

-- why there is no text: the words are refused and there is no request, or else the input is too long, or else the mode has a reason
abbrev pub why_none : Option Request → (input : List ℕ) → Option Why
why_none None input = Some words_refused
why_none (Some request) input = option_or (why_long request.mode input) (why_by request.mode (task_of request input))

-- the text answers the request with this input
abbrev pub IsTextTo : Request → (input text : List ℕ) → Type 0
IsTextTo request input text = (why_none (Some request) input ≡ None) × IsTextBy request.mode (task_of request input) text
