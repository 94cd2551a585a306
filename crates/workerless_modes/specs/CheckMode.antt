-- The counts of a network: why there are none, and their text.
use Rattle.std.specs.Prelude.{◌≡◌, ℕ, List, [], Option, None, ◌++◌, ◌==◌, if◌then◌else◌, length, codes, nat_le, IsOkAnd}
use Rattle.step_plan.specs.Counts.{counts_of}
use Rattle.network_file.specs.Network.{Network}
use Rattle.network_file.specs.Reading.{network_of}
use Rattle.line_fields.specs.Fields.{count_field}
use Rattle.call_ending.specs.Why.{Why}
use Rattle.call_beginning.specs.NetworkInput.{why_of_network}

abbrev pub check_refused : (input : List ℕ) → Option Why
check_refused input = why_of_network (network_of input) (λ net. None)

-- `network,cells,connectors,T,signals,limits,demands`, in format 2 `network2,..,turns`, and in format 3 `network3,..,turns,speeds`
unfoldable pub counts_line : Network → List ℕ
counts_line net =
    (if net.format == 1 then codes "network" else if net.format == 2 then codes "network2" else codes "network3")
    ++ count_field (length net.cells) ++ count_field (length net.connectors) ++ count_field net.steps
    ++ count_field (counts_of net.plan).signals ++ count_field (counts_of net.plan).limits ++ count_field (counts_of net.plan).demands
    ++ (if nat_le 2 net.format then count_field (counts_of net.plan).turns else [])
    ++ (if nat_le 3 net.format then count_field (counts_of net.plan).speeds else []) ++ codes "\n"

abbrev pub IsCheckText : (input : List ℕ) → List ℕ → Type 0
IsCheckText input text = IsOkAnd (network_of input) (λ net. text ≡ counts_line net)
