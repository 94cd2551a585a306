-- The refusal of a record at its place.
use Rattle.std.specs.Prelude.{ℕ}
use Rattle.record_fields.specs.declared.code.Code.{Code}
use Rattle.network_file.specs.declared.fault.NetFault.{NetFault}
use Rattle.no_memory.specs.declared.refused.Refused.{Refused}
use Rattle.no_memory.specs.declared.refused.Refused.TheVariants.{Fault, NoMemory}
use Rattle.network_file.specs.Faults.{fault_at}

-- the refusal of the record at a place
abbrev pub refusal_at : ℕ → Refused Code → Refused NetFault
refusal_at place (Fault code) = Fault (fault_at place code)
refusal_at place NoMemory = NoMemory
