-- How an answer meets its definition, where memory may be refused.
use Rattle.std.specs.Prelude.{◌≡◌, ⊤, Result, Ok, Err}
use Rattle.no_memory.specs.declared.refused.Refused.{Refused}
use Rattle.no_memory.specs.declared.refused.Refused.TheVariants.{Fault, NoMemory}

-- this holds of the fault; that memory was refused says nothing
abbrev pub IfFault : {F : Type 0} → Refused F → (F → Type 0) → Type 0
IfFault (Fault fault) P = P fault
IfFault NoMemory P = ⊤

-- the refusal is the wanted fault, or memory was refused
abbrev pub IsRefusal : {A F : Type 0} → Refused F → Result A F → Type 0
IsRefusal (Fault fault) wanted = wanted ≡ Err fault
IsRefusal NoMemory wanted = ⊤

-- the answer is the wanted one, or memory was refused
abbrev pub Answers : {A F : Type 0} → Result A (Refused F) → Result A F → Type 0
Answers (Ok value) wanted = wanted ≡ Ok value
Answers (Err (Fault fault)) wanted = wanted ≡ Err fault
Answers (Err NoMemory) wanted = ⊤

-- what the answer makes is the wanted value, or memory was refused
abbrev pub AnswersBy : {A B F : Type 0} → Result A (Refused F) → (made : A → B) → Result B F → Type 0
AnswersBy (Ok value) made wanted = wanted ≡ Ok (made value)
AnswersBy (Err (Fault fault)) made wanted = wanted ≡ Err fault
AnswersBy (Err NoMemory) made wanted = ⊤
