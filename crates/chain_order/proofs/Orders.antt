-- Orders of cells: by two lists of indices that lead to each other, and as they were given.
use Rattle.std.specs.Prelude.{map, slice_index}
use Rattle.std.proofs.Common.{◌≡◌, ℕ, ◌<◌, List, length, ap, arith, refl, ◌∙◌}
use Rattle.std.proofs.lemmas.List.{get_or-map, length-map}
use Rattle.chain_order.specs.Inverse.{LeadsBack}
use Rattle.chain_order.specs.Order.{IsOrder}

-- cells laid by indices that lead to their places, and back
pub order-of_inverse : (cells placed places laid : List ℕ) → laid ≡ map (slice_index cells) placed
    → length placed ≡ length cells → length places ≡ length cells → LeadsBack placed places → LeadsBack places placed
    → IsOrder cells (record { placed = laid; places = places })
order-of_inverse cells placed places laid is long place_each there back = record {
  long = ap length is ∙ length-map placed (slice_index cells) ∙ long;
  place_each = place_each;
  there = λ m within. omega (arith, (back m (omega arith)).0, long);
  at_place = λ m within.
      let led = back m (omega arith) in
      ap (λ list. slice_index list (slice_index places m)) is
      ∙ get_or-map (slice_index cells) placed (slice_index places m) 0 0 led.0 ∙ ap (slice_index cells) led.1;
  filled = λ p within.
      let led = there p (omega arith) in
      (slice_index placed p, omega (arith, led.0, place_each), led.1);
}

-- cells in the order that was given, each at its own index
pub order-given : (cells placed places : List ℕ) → placed ≡ cells → length places ≡ length cells
    → ((m : ℕ) → m < length cells → slice_index places m ≡ m) → IsOrder cells (record { placed = placed; places = places })
order-given cells placed places same long own = rw same (record {
  long = refl;
  place_each = long;
  there = λ m within. omega (arith, own m within);
  at_place = λ m within. ap (slice_index cells) (own m within);
  filled = λ p within. (p, within, own p within);
})
