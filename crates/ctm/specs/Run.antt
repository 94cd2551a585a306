-- A run that has come to its last step, by what it was opened with.
use Rattle.region_step.specs.Setup.{SetupValue}
use Rattle.region_step.specs.Starting.{IsTrueStart}

-- it began with rows of the recurrences, as from step 0: so it came to theirs
abbrev pub IsTrueRun : SetupValue → Type 0
IsTrueRun run = IsTrueStart run.net run.chart.cut run.start
