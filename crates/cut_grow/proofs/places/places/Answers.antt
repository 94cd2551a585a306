use Rattle.std.proofs.Common.{◌≡◌, ℕ, ◌<◌, length, get_or, ap, arith, sym, ◌∙◌}
use Rattle.std.proofs.lemmas.List.{get_or_default}
use Rattle.cut_grow.proofs.places.places.Goals as goal

pub returns : goal.returns
returns c =
    let forth : (p : ℕ) → p < length c.args.order.now → get_or c.loop-place.places.items (get_or c.args.order.now p 0) 0 ≡ p =
    λ p within. c.loop-place.invariant.forth p (omega (arith, c.loop-place-test.false)) in
    record {
      long = c.loop-place.invariant.long;
      there = λ i within.
          let has = c.requires.order.each i within in
          let stands : get_or c.args.order.now has.0 0 ≡ i = get_or_default c.args.order.now has.0 0 i has.1 ∙ has.2 in
          let place : get_or c.loop-place.places.items i 0 ≡ has.0 = ap (λ j. get_or c.loop-place.places.items j 0) (sym stands) ∙ forth has.0 has.1 in
          omega (arith, place, has.1);
      back = λ i within.
          let has = c.requires.order.each i within in
          let stands : get_or c.args.order.now has.0 0 ≡ i = get_or_default c.args.order.now has.0 0 i has.1 ∙ has.2 in
          let place : get_or c.loop-place.places.items i 0 ≡ has.0 = ap (λ j. get_or c.loop-place.places.items j 0) (sym stands) ∙ forth has.0 has.1 in
          ap (λ p. get_or c.args.order.now p 0) place ∙ stands;
      forth = forth;
    }
