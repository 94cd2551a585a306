use Rattle.std.proofs.Common.{FitsSigned, to_z-of_z}
use Rattle.std.specs.Int.{w128}
use Rattle.fixed_flow.specs.Middle.{middle_of}
use Rattle.fixed_flow.proofs.MiddleFacts.{middle_of-one, middle_of-between}
use Rattle.fixed_flow.proofs.median.middle.Goals as goal

pub returns-clause-equal : goal.returns-clause-equal
unfolding middle_of
returns-clause-equal c =
    let a_fits = c.ranges.a in
    let b_fits = c.ranges.b in
    let c_fits = c.ranges.c in
    let low_fits : FitsSigned w128 c.min.result = record { sfits = c.min.type_inv } in
    let high_fits : FitsSigned w128 c.max.result = record { sfits = c.max.type_inv } in
    let capped_fits : FitsSigned w128 c.min-2.result = record { sfits = c.min-2.type_inv } in
    let result_fits : FitsSigned w128 c.max-2.result = record { sfits = c.max-2.type_inv } in
    let low = simp to_z-of_z at c.min.ensures.value in
    let high = simp to_z-of_z at c.max.ensures.value in
    let capped = simp to_z-of_z at c.min-2.ensures.value in
    let result = simp to_z-of_z at c.max-2.ensures.value in
    simp to_z-of_z (rw (result, capped, high, low))

pub returns-clause-one : goal.returns-clause-one
returns-clause-one c = rw (returns-clause-equal c) (middle_of-one c.args.a c.args.b c.args.c)

pub returns-clause-between : goal.returns-clause-between
returns-clause-between c = rw (returns-clause-equal c) (middle_of-between c.args.a c.args.b c.args.c)
