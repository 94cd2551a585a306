-- How much a run may record.
use Rattle.std.specs.Prelude.{ℕ, ◌*◌, Option, Some, None, length, nat_lt, if◌then◌else◌, codes}
use Rattle.network_file.specs.Network.{Network}
use Rattle.delay_report.specs.Report.{recorded_count}
use Rattle.call_ending.specs.Why.{Why}
use Rattle.call_ending.specs.declared.status.Status.TheVariants as status

-- more than 4,000,000 values, cells times recorded steps, are too many
abbrev pub why_unrecorded : Network → (every : ℕ) → Option Why
why_unrecorded net every =
    if nat_lt 4_000_000 (length net.cells * recorded_count net.steps every)
    then Some (record { status = status.TooLarge; line = codes "ctm: too large: record\n" }) else None
