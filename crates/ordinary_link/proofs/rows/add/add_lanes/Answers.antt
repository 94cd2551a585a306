use Rattle.std.proofs.Common.{◌≡◌, ◌<◌, ◌^◌, ℕ, ◌+◌, ◌≤◌, ◌∙◌, List, length, arith, slice_index}
use Rattle.ordinary_link.proofs.Places.{Sets-stored}
use Rattle.ordinary_link.proofs.Lanes.{loaded, length-loaded, slice_index-loaded}
use Rattle.ordinary_link.proofs.SumLanes.{added, length-added, slice_index-added}
use Rattle.ordinary_link.proofs.rows.add.add_lanes.Goals as goal

-- a lane of the sum, where its place has room for it
lane : (at : ℕ) (xs ys : List ℕ) (k : ℕ) → at + 8 ≤ length xs → length ys ≡ length xs → k < 8
    → slice_index xs (at + k) + slice_index ys (at + k) < 2 ^ 64
    → slice_index (added (loaded at xs) (loaded at ys)) k ≡ slice_index xs (at + k) + slice_index ys (at + k)
lane at xs ys k room same lt fits =
    let x8 = length-loaded at xs room in
    let y8 = length-loaded at ys (omega arith) in
    let x : slice_index (loaded at xs) k ≡ slice_index xs (at + k) = slice_index-loaded at xs k lt in
    let y : slice_index (loaded at ys) k ≡ slice_index ys (at + k) = slice_index-loaded at ys k lt in
    slice_index-added (loaded at xs) (loaded at ys) k (omega arith) (omega arith) (omega arith) ∙ cc

pub returns : goal.returns
returns c =
    let at = c.args.at in
    let total = c.args.total.now in
    let more = c.args.more.now in
    let t8 = length-loaded at total c.requires.room in
    let m8 = length-loaded at more (omega arith) in
    Sets-stored at _ total (added (loaded at total) (loaded at more)) (length-added (loaded at total) (loaded at more) t8 m8) c.requires.room
    (λ k lt. lane at total more k c.requires.room c.requires.len lt (c.requires.sums (at + k) (omega arith) (omega arith)))
