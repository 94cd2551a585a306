-- What the last record of a list says.
use Rattle.std.specs.Prelude.{Bool, List, reverse}
use Rattle.std.specs.List.{find}
use Rattle.std.specs.Option.{option_map_or}

-- what the last record that speaks says, or the fallback where none speaks
abbrev pub last_said : {R X : Type 0} → (speaks : R → Bool) → (says : R → X) → List R → (fallback : X) → X
last_said speaks says records fallback = option_map_or says (find speaks (reverse records)) fallback
