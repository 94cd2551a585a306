-- When a part passes a cell. The parts of the cell are numbered from 0 in the order in which they come, those first that
-- it held at first; part k has come, or has gone, when more than k parts have.
use Rattle.std.specs.Prelude.{ℕ, ◌+◌, ◌≤◌, List, Option, IfSome, nat_lt, position}
use Rattle.std.specs.Option.{IsSomeAnd}
use Rattle.network_file.specs.Network.{Network}
use Rattle.traffic_laws.specs.Curves.{AreCurvesOf}
use Rattle.traffic_laws.specs.declared.travel.Travel.{Travel}

-- the first step by which part k has come, where the curve has it
abbrev pub enters_at : (first : ℕ) → (come : List ℕ) → (k : ℕ) → Option ℕ
enters_at first come k = position (λ parts. nat_lt k (first + parts)) come

-- and that by which it has gone
abbrev pub leaves_at : (gone : List ℕ) → (k : ℕ) → Option ℕ
leaves_at gone k = position (λ parts. nat_lt k parts) gone

-- where the later comes at all, the earlier came at least so many steps before
abbrev pub IsEarlierBy : (steps : ℕ) → (earlier later : Option ℕ) → Type 0
IsEarlierBy steps earlier later = IfSome later (λ l. IsSomeAnd earlier (λ e. e + steps ≤ l))

-- of the curves of a cell: a part that has gone came one step before, or earlier
abbrev pub TakesAStep : (first : ℕ) → (come gone : List ℕ) → Travel → Type 0
TakesAStep first come gone travel =
    (net : Network) (i : ℕ) → AreCurvesOf net i first come gone → IsEarlierBy 1 travel.enters travel.leaves

-- no part overtakes one before it; so it is by any curves, since the parts are numbered so
abbrev pub KeepsOrder : (first : ℕ) → (come gone : List ℕ) → (k : ℕ) → Travel → Type 0
KeepsOrder first come gone k travel =
    (before : ℕ) → before ≤ k →
    IsEarlierBy 0 (enters_at first come before) travel.enters × IsEarlierBy 0 (leaves_at gone before) travel.leaves
