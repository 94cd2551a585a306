-- The fault of a file, and its refusal by that of a record.
use Rattle.std.specs.Prelude.{ℕ}
use Rattle.record_fields.specs.declared.code.Code.{Code}
use Rattle.network_file.specs.declared.fault.NetFault.{NetFault}

-- the fault of this code in the record at this place
abbrev pub fault_at : ℕ → Code → NetFault
fault_at place code = record { place = place; code = code }
