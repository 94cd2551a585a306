-- The number and the name of each fault, as they are printed.
use Rattle.std.specs.Prelude.{ℕ, List, codes}
use Rattle.record_fields.specs.declared.code.Code.{Code}
use Rattle.record_fields.specs.declared.code.Code.TheVariants.{NoHeader, BadKind, BadCount, BadName, BadNumber, OutOfRange, Repeated, Unknown, WrongKind, InTaken, OutTaken, NoSteps, NoCells, TooMany, TooMuch, NoRegion, RegionGap}

abbrev pub code_told : Code → ℕ × List ℕ
code_told NoHeader = (1, codes "NoHeader")
code_told BadKind = (2, codes "BadKind")
code_told BadCount = (3, codes "BadCount")
code_told BadName = (4, codes "BadName")
code_told BadNumber = (5, codes "BadNumber")
code_told OutOfRange = (6, codes "OutOfRange")
code_told Repeated = (7, codes "Repeated")
code_told Unknown = (8, codes "Unknown")
code_told WrongKind = (9, codes "WrongKind")
code_told InTaken = (10, codes "InTaken")
code_told OutTaken = (11, codes "OutTaken")
code_told NoSteps = (12, codes "NoSteps")
code_told NoCells = (13, codes "NoCells")
code_told TooMany = (14, codes "TooMany")
code_told TooMuch = (15, codes "TooMuch")
code_told NoRegion = (16, codes "NoRegion")
code_told RegionGap = (17, codes "RegionGap")
