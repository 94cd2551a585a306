-- The number of each status.
use Rattle.std.specs.Prelude.{ℕ}
use Rattle.call_ending.specs.declared.status.Status.{Status}
use Rattle.call_ending.specs.declared.status.Status.TheVariants.{Done, Words, Network, TooLarge, ReadFault, WriteFault, NoMemory, Saved, Plans}

abbrev pub status_number : Status → ℕ
status_number Done = 0
status_number Words = 2
status_number Network = 3
status_number TooLarge = 4
status_number ReadFault = 5
status_number WriteFault = 6
status_number NoMemory = 7
status_number Saved = 8
status_number Plans = 9
