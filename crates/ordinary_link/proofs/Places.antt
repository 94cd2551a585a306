-- What a call over slices sets, put together from its parts.
use Rattle.std.proofs.Common.{◌≡◌, ℕ, ◌+◌, ◌-◌, ◌<◌, ◌≤◌, List, length, slice_index, ◌∙◌, subst, arith}
use Rattle.std.proofs.lemmas.Simd.{length-put_chunk, get_or-put_chunk_below, get_or-put_chunk_at, get_or-put_chunk_above}
use lib.Lanes.{put_chunk}
use Rattle.ordinary_link.specs.Row.{Sets}

-- eight lanes that were stored
pub Sets-stored : (at : ℕ) (value : ℕ → ℕ) (row lanes : List ℕ) → length lanes ≡ 8 → at + 8 ≤ length row
    → ((k : ℕ) → k < 8 → slice_index lanes k ≡ value (at + k)) → Sets at (at + 8) value row (put_chunk at row lanes)
Sets-stored at value row lanes eight room is = record {
  len = length-put_chunk at row lanes;
  set = λ i low below.
      let k : ℕ = i - at in
      let e : at + k ≡ i = omega arith in
      let small : k < 8 = omega arith in
      subst (λ j. slice_index (put_chunk at row lanes) j ≡ value j) e
      (get_or-put_chunk_at at row lanes k 0 (omega arith) (omega arith) ∙ is k small);
  before = λ i below. get_or-put_chunk_below at row lanes i 0 below;
  after = λ i above. get_or-put_chunk_above at row lanes i 0 (omega arith);
}
