use Rattle.std.specs.Prelude.{Err}
use Rattle.std.proofs.Common.{inl, inr, arith}
use Rattle.std.proofs.lemmas.Bool.{cases_lt}
use Rattle.std.proofs.lemmas.List.Sorted.{searched}
use Rattle.region_cut.proofs.Increasing.{rising}
use Rattle.region_cut.proofs.list_place.place_if_listed.Goals as goal

pub returns-in-Err : goal.returns-in-Err
returns-in-Err c = λ p within is.
    let past = searched c.args.list.now c.args.number (Err c.in-Err.field-0) c.in-Err.ensures.position (rising c.args.list.now c.requires.increasing) in
    elim (cases_lt p c.in-Err.field-0) [
      | inl low ↦ let less = past.1 p low in absurd (omega arith)
      | inr high ↦ let more = past.2 p high within in absurd (omega arith)
    ]
