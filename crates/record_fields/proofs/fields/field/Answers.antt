use Rattle.std.proofs.Common.{◌≡◌, ◌∷◌, List, ℕ, zero, suc, None, [], refl, sym, get_or}
use Rattle.csv.specs.Records.{field_at, fields_of}
use Rattle.csv.proofs.RecordFacts.{field-get}
use Rattle.record_fields.proofs.fields.field.Goals as goal

-- past its end a list of fields has none
field-none : (fields : List (List ℕ)) (i : ℕ) → field_at fields i ≡ None → get_or fields i [] ≡ []
unfolding field_at
field-none [] i h = refl
field-none (f ∷ fs) zero h = cc h
field-none (f ∷ fs) (suc i) h = field-none fs i h

pub returns-in-Some : goal.returns-in-Some
returns-in-Some c = sym (field-get (fields_of c.args.row.now) c.args.i c.in-Some.text.now (sym c.in-Some.ensures.value))

pub returns-in-None : goal.returns-in-None
returns-in-None c = sym (field-none (fields_of c.args.row.now) c.args.i (sym c.in-None.ensures.value))
