-- The file order has each cell once.
use Rattle.std.specs.List.{range_with_len}
use Rattle.std.proofs.Common.{ℕ, ◌<◌, arith}
use Rattle.std.proofs.lemmas.List.{get_or_default}
use Rattle.std.proofs.lemmas.List.FromFn.{length-range_with_len}
use Rattle.region_cut.proofs.Ranges.{range-Contains}
use Rattle.cut_grow.specs.Orders.{IsPermutation}
use Rattle.cut_grow.proofs.Leasts.{range-at}

pub file-order : (cells : ℕ) → IsPermutation cells (range_with_len 0 cells)
file-order cells = record {
  long = length-range_with_len 0 cells;
  there = λ k d within.
      let below : k < cells = omega (arith, length-range_with_len 0 cells) in
      omega (arith, get_or_default (range_with_len 0 cells) k d 0 within, range-at cells k below);
  each = range-Contains cells;
  once = λ p q first second same.
      omega (arith, same, range-at cells p (omega (arith, length-range_with_len 0 cells)), range-at cells q (omega (arith, length-range_with_len 0 cells)));
}
