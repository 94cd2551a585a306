-- When a text says what a file says.
use Rattle.std.specs.Prelude.{◌≡◌, ℕ, List, Ok, max}
use Rattle.network_file.specs.Network.{Network}
use Rattle.network_file.specs.Reading.{network_of}

-- the file has no fault, and the text is the same network, in format 2 or, where it is in format 3, in this
abbrev pub SaysTheSame : (bytes text : List ℕ) → Type 0
SaysTheSame bytes text = (net : Network) × (network_of bytes ≡ Ok net) × (network_of text ≡ Ok (record net { format = max 2 net.format }))
