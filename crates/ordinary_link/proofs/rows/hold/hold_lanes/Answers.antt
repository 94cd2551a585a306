use Rattle.std.proofs.Common.{◌≡◌, ◌<◌, ◌≤◌, ◌^◌, ℕ, ◌+◌, ◌-◌, ◌∙◌, List, length, arith, slice_index}
use Rattle.ordinary_link.proofs.Places.{Sets-stored}
use Rattle.ordinary_link.proofs.Lanes.{loaded, length-loaded, slice_index-loaded}
use Rattle.ordinary_link.proofs.SumLanes.{added, length-added, slice_index-added, taken_off, length-taken_off, slice_index-taken_off}
use Rattle.ordinary_link.proofs.rows.hold.hold_lanes.Goals as goal

-- the lanes that stay, and those that come
abbrev next : ℕ → List ℕ → List ℕ → List ℕ → List ℕ
next at n out enter = added (taken_off (loaded at n) (loaded at out)) (loaded at enter)

lane : (at : ℕ) (n out enter : List ℕ) (k : ℕ) → at + 8 ≤ length n → length out ≡ length n → length enter ≡ length n → k < 8
    → slice_index out (at + k) ≤ slice_index n (at + k) → slice_index out (at + k) < 2 ^ 64
    → slice_index n (at + k) + slice_index enter (at + k) - slice_index out (at + k) < 2 ^ 64
    → slice_index (next at n out enter) k ≡ slice_index n (at + k) + slice_index enter (at + k) - slice_index out (at + k)
lane at n out enter k room out_len enter_len lt within small fits =
    let n8 = length-loaded at n room in
    let out8 = length-loaded at out (omega arith) in
    let enter8 = length-loaded at enter (omega arith) in
    let stay8 = length-taken_off (loaded at n) (loaded at out) n8 out8 in
    let held : slice_index (loaded at n) k ≡ slice_index n (at + k) = slice_index-loaded at n k lt in
    let leaves : slice_index (loaded at out) k ≡ slice_index out (at + k) = slice_index-loaded at out k lt in
    let comes : slice_index (loaded at enter) k ≡ slice_index enter (at + k) = slice_index-loaded at enter k lt in
    let stays : slice_index (taken_off (loaded at n) (loaded at out)) k ≡ slice_index (loaded at n) k - slice_index (loaded at out) k =
    slice_index-taken_off (loaded at n) (loaded at out) k (omega arith) (omega arith) (omega arith) (omega arith) (omega arith) in
    slice_index-added (taken_off (loaded at n) (loaded at out)) (loaded at enter) k (omega arith) (omega arith) (omega arith) ∙ omega arith

pub returns : goal.returns
returns c =
    let at = c.args.at in
    let n = c.args.n.now in
    let out = c.args.out.now in
    let enter = c.args.enter.now in
    let n8 = length-loaded at n c.requires.room in
    let out8 = length-loaded at out (omega arith) in
    let enter8 = length-loaded at enter (omega arith) in
    Sets-stored at _ n (next at n out enter)
    (length-added (taken_off (loaded at n) (loaded at out)) (loaded at enter) (length-taken_off (loaded at n) (loaded at out) n8 out8) enter8)
    c.requires.room
    (λ k lt. lane at n out enter k c.requires.room c.requires.out_len c.requires.enter_len lt
    (c.requires.within (at + k) (omega arith) (omega arith)) (c.type_inv.out (at + k)).fits (c.requires.held (at + k) (omega arith) (omega arith)))
