-- The laws of two networks, of rows at one step.
use Rattle.std.proofs.Common.{◌≡◌, ℕ, ◌<◌, ◌≤◌, List, length, arith}
use Rattle.network_file.specs.Network.{Network}
use Rattle.network_file.specs.Sound.{IsNetwork}
use Rattle.flow_model.specs.State.{delay_of}
use Rattle.flow_model.specs.declared.row.Row.{Row}
use Rattle.flow_model.proofs.States.{length-state_at}
use Rattle.flow_ledger.specs.Flight.{gone_of}
use Rattle.flow_ledger.specs.Books.{come_of}
use Rattle.monotone_laws.specs.Demands.{MoreByEachStep, MoreInEachStep, SameDemands}
use Rattle.monotone_laws.specs.Eased.{AreAlike, IsEased}
use Rattle.monotone_laws.specs.Links.{HasLinksAlone}
use Rattle.monotone_laws.specs.Moments.{StandAtOneStep}
use Rattle.monotone_laws.proofs.DemandDelay.{more-delay}
use Rattle.monotone_laws.proofs.EasedDelay.{eased-delay}
use Rattle.monotone_laws.proofs.GoneLaw.{come-law, gone-law}

pub length-first : (one two : Network) (first second : List Row) → StandAtOneStep one two first second → length first ≡ length one.cells
length-first one two first second rows = rw rows.first_rows (length-state_at one rows.t)

pub length-second : (one two : Network) (first second : List Row) → IsEased one two → StandAtOneStep one two first second →
    length second ≡ length one.cells
length-second one two first second eased rows = rw rows.second_rows (omega (arith, length-state_at two rows.t, eased.one_each))

-- no less has gone out of a cell, and no less has come in
pub gone-no_less : (one two : Network) (first second : List Row) (i : ℕ) → IsNetwork one → IsNetwork two → HasLinksAlone one →
    IsEased one two → MoreByEachStep one two → StandAtOneStep one two first second → i < length one.cells →
    gone_of first i ≤ gone_of second i
gone-no_less one two first second i sound sound_too alone eased demands rows has =
    rw (rows.first_rows, rows.second_rows)
    (gone-law one two (record { first = sound; second = sound_too; alone = alone; eased = eased }) demands rows.t rows.in_time i has)

pub come-no_less : (one two : Network) (first second : List Row) (i : ℕ) → IsNetwork one → IsNetwork two → HasLinksAlone one →
    IsEased one two → MoreByEachStep one two → StandAtOneStep one two first second → i < length one.cells →
    come_of first i ≤ come_of second i
come-no_less one two first second i sound sound_too alone eased demands rows has =
    rw (rows.first_rows, rows.second_rows)
    (come-law one two (record { first = sound; second = sound_too; alone = alone; eased = eased }) demands rows.t rows.in_time i has)

-- the delay of an eased network is no more
pub delay-no_more : (one two : Network) (first second : List Row) → IsNetwork one → IsNetwork two → HasLinksAlone one →
    IsEased one two → SameDemands one two → StandAtOneStep one two first second → delay_of second ≤ delay_of first
delay-no_more one two first second sound sound_too alone eased same rows =
    rw (rows.first_rows, rows.second_rows)
    (eased-delay one two rows.t (record { first = sound; second = sound_too; alone = alone; eased = eased }) same rows.in_time)

-- and with more demand it is no less
pub delay-no_less : (one two : Network) (first second : List Row) → IsNetwork one → IsNetwork two → HasLinksAlone one →
    AreAlike one two → MoreInEachStep one two → StandAtOneStep one two first second → delay_of first ≤ delay_of second
delay-no_less one two first second sound sound_too alone alike more rows =
    rw (rows.first_rows, rows.second_rows)
    (more-delay one two rows.t (record { first = sound; second = sound_too; alone = alone; alike = alike }) more rows.in_time)
