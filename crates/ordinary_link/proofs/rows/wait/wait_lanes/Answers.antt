use Rattle.std.proofs.Common.{ap, ◌≡◌, ◌<◌, ◌≤◌, ◌^◌, ℕ, ◌+◌, ◌-◌, ◌∙◌, Bool, true, false, if◌then◌else◌, List, length, arith, slice_index, slice_index_or}
use Rattle.ordinary_link.specs.Waiting.{wait_after}
use Rattle.ordinary_link.proofs.Places.{Sets-stored}
use Rattle.ordinary_link.proofs.Lanes.{loaded, length-loaded, slice_index-loaded}
use Rattle.ordinary_link.proofs.MarkLanes.{where_set, length-where_set, slice_index-where_set}
use Rattle.ordinary_link.proofs.SumLanes.{added, length-added, slice_index-added, taken_off, length-taken_off, slice_index-taken_off}
use Rattle.ordinary_link.proofs.rows.wait.wait_lanes.Goals as goal

-- the lanes that waited, and those that stay where the marks are set
abbrev next : ℕ → List ℕ → List ℕ → List ℕ → List ℕ → List ℕ
next at wait n out marks = added (loaded at wait) (where_set marks (taken_off (loaded at n) (loaded at out)))

waited_is : (wait n out more : ℕ) (waits : Bool) → out ≤ n → more ≡ (if waits then n - out else 0) → wait + more ≡ wait_after wait n out waits
waited_is wait n out more true within is = omega arith
waited_is wait n out more false within is = omega arith

lane : (at : ℕ) (wait n out marks : List ℕ) (k : ℕ) (waits : Bool) → at + 8 ≤ length wait → length n ≡ length wait → length out ≡ length wait
    → length marks ≡ 8 → k < 8 → slice_index marks k ≡ (if waits then 1 else 0)
    → slice_index out (at + k) ≤ slice_index n (at + k) → slice_index n (at + k) < 2 ^ 64
    → wait_after (slice_index wait (at + k)) (slice_index n (at + k)) (slice_index out (at + k)) waits < 2 ^ 64
    → slice_index (next at wait n out marks) k
    ≡ wait_after (slice_index wait (at + k)) (slice_index n (at + k)) (slice_index out (at + k)) waits
lane at wait n out marks k waits room n_len out_len m8 lt mark within small fits =
    let wait8 = length-loaded at wait room in
    let n8 = length-loaded at n (omega arith) in
    let out8 = length-loaded at out (omega arith) in
    let stay = taken_off (loaded at n) (loaded at out) in
    let stay8 : length stay ≡ 8 = length-taken_off (loaded at n) (loaded at out) n8 out8 in
    let more8 : length (where_set marks stay) ≡ 8 = length-where_set marks stay m8 stay8 in
    let held : slice_index (loaded at n) k ≡ slice_index n (at + k) = slice_index-loaded at n k lt in
    let leaves : slice_index (loaded at out) k ≡ slice_index out (at + k) = slice_index-loaded at out k lt in
    let before : slice_index (loaded at wait) k ≡ slice_index wait (at + k) = slice_index-loaded at wait k lt in
    let stays : slice_index stay k ≡ slice_index n (at + k) - slice_index out (at + k) =
    slice_index-taken_off (loaded at n) (loaded at out) k (omega arith) (omega arith) (omega arith) (omega arith) (omega arith) ∙ omega arith in
    let more : slice_index (where_set marks stay) k ≡ (if waits then slice_index n (at + k) - slice_index out (at + k) else 0) =
    slice_index-where_set marks stay k waits m8 stay8 lt mark ∙ ap (λ x. if waits then x else 0) stays in
    let is = waited_is (slice_index wait (at + k)) (slice_index n (at + k)) (slice_index out (at + k)) (slice_index (where_set marks stay) k) waits within more in
    slice_index-added (loaded at wait) (where_set marks stay) k (omega arith) (omega arith) (omega arith) ∙ omega arith

pub returns : goal.returns
returns c =
    let at = c.args.at in
    let wait = c.args.wait.now in
    let n = c.args.n.now in
    let out = c.args.out.now in
    let marks = c.mark_lanes.result in
    let wait8 = length-loaded at wait c.requires.room in
    let n8 = length-loaded at n (omega arith) in
    let out8 = length-loaded at out (omega arith) in
    let m8 = c.mark_lanes.ensures.len in
    let stay = taken_off (loaded at n) (loaded at out) in
    let stay8 = length-taken_off (loaded at n) (loaded at out) n8 out8 in
    Sets-stored at _ wait (next at wait n out marks)
    (length-added (loaded at wait) (where_set marks stay) wait8 (length-where_set marks stay m8 stay8))
    c.requires.room
    (λ k lt. lane at wait n out marks k (slice_index_or c.args.waits.now (at + k) false) c.requires.room c.requires.n_len c.requires.out_len m8 lt
    (c.mark_lanes.ensures.lanes k lt) (c.requires.within (at + k) (omega arith) (omega arith)) (c.type_inv.n (at + k)).fits
    (c.requires.sums (at + k) (omega arith) (omega arith)))
