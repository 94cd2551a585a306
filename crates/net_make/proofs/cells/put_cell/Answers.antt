use Rattle.std.specs.Prelude.{codes, decimal}
use Rattle.std.proofs.Common.{◌≡◌, ℕ, List, ◌++◌, append_assoc}
use Rattle.net_make.proofs.LineOrder.{ended, written-three}
use Rattle.net_make.proofs.cells.put_cell.Goals as goal

pub returns : goal.returns
returns c =
    let road : List ℕ = codes "road,m" ++ decimal c.args.i ++ codes ",12,4,1,2,0" in
    let written : c.extend_from_slice.new.self.items ≡ c.args.text.now.items ++ ended road =
    rw (c.in_ok-extend_from_slice.ensures.items, c.in_ok-put_number.ensures) (simp append_assoc) in
    written-three c.args.text.now.items road _ _ _ _ _ written c.in_ok-put_on_ramp.ensures c.in_ok-put_off_ramp.ensures
