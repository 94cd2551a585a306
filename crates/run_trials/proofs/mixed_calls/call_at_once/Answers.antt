use Rattle.std.proofs.Common.{[], ◌∷◌}
use Rattle.std.proofs.lemmas.List.Elements.{All-cons, All-nil}
use Rattle.region_slots.specs.FieldView.{IsPassOf}
use Rattle.run_trials.proofs.mixed_calls.call_at_once.Goals as goal

pub each_calls-requires-clause-belong : goal.each_calls-requires-clause-belong
each_calls-requires-clause-belong g c = λ lifetimes outlive.
    let of = IsPassOf c.args.field.now in
    All-cons of c.share-first.result (c.share-second.result ∷ c.share-third.result ∷ c.share-fourth.result ∷ []) c.share-first.ensures.also
    (All-cons of c.share-second.result (c.share-third.result ∷ c.share-fourth.result ∷ []) c.share-second.ensures.also
    (All-cons of c.share-third.result (c.share-fourth.result ∷ []) c.share-third.ensures.also
    (All-cons of c.share-fourth.result [] c.share-fourth.ensures.also (All-nil of))))
