-- Inputs that are to be networks.
use Rattle.std.specs.Prelude.{ℕ, List, Option, Some, Result, Ok, Err, ◌++◌, codes, decimal}
use Rattle.record_fields.specs.FaultCode.{code_told}
use Rattle.network_file.specs.Network.{Network}
use Rattle.network_file.specs.declared.fault.NetFault.{NetFault}
use Rattle.call_ending.specs.Why.{Why}
use Rattle.call_ending.specs.declared.status.Status.TheVariants as status

-- where a network's first fault stands and what it is: `record R code C NAME`, at the end of a line
unfoldable pub fault_told : NetFault → List ℕ
fault_told fault =
    codes "record " ++ decimal fault.place
    ++ codes " code " ++ decimal (code_told fault.code).0
    ++ codes " " ++ (code_told fault.code).1 ++ codes "\n"

abbrev pub network_refused : NetFault → Why
network_refused fault = record { status = status.Network; line = codes "ctm: network: " ++ fault_told fault }

-- why there is no text: the file's first fault, or what stands against a text of its network
abbrev pub why_of_network : Result Network NetFault → (Network → Option Why) → Option Why
why_of_network (Ok net) why = why net
why_of_network (Err fault) why = Some (network_refused fault)
