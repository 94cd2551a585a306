-- The refusal of a fault in a file.
use Rattle.std.specs.Prelude.{◌≡◌, Some}
use Rattle.no_memory.specs.declared.refused.Refused.{Refused}
use Rattle.no_memory.specs.declared.refused.Refused.TheVariants.{Fault, NoMemory}
use Rattle.network_file.specs.declared.fault.NetFault.{NetFault}
use Rattle.call_ending.specs.Refusing.{IsRefusalOf}
use Rattle.call_ending.specs.Why.{Why}
use Rattle.call_ending.specs.declared.refusal.Refusal.{Refusal}
use Rattle.call_ending.specs.declared.refusal.Refusal.TheVariants as refusal

-- the refusal tells the fault with which a file was refused, as a fault is told of it, or that memory was refused
abbrev pub IsToldOf : (NetFault → Why) → Refused NetFault → Refusal → Type 0
IsToldOf why (Fault fault) told = IsRefusalOf (Some (why fault)) ⊥ told
IsToldOf why NoMemory told = told ≡ refusal.NoMemory
