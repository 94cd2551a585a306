-- A converted file: why there is none, and its text.
use Rattle.std.specs.Prelude.{◌≡◌, ℕ, List, Option, None}
use Rattle.converted_file.specs.Converted.{converted}
use Rattle.network_file.specs.Reading.{network_of}
use Rattle.call_ending.specs.Why.{Why}
use Rattle.call_beginning.specs.NetworkInput.{why_of_network}

abbrev pub convert_refused : (input : List ℕ) → Option Why
convert_refused input = why_of_network (network_of input) (λ net. None)

abbrev pub IsConvertText : (input : List ℕ) → List ℕ → Type 0
IsConvertText input text = text ≡ converted input
