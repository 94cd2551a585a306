use Rattle.std.proofs.Common.{◌≡◌, ◌≤◌, ◌*◌, ◌^◌, length, arith, ap, subst}
use Rattle.std.proofs.Math.Nat.{mul-le-mul_right}
use Rattle.network_file.specs.Sound.{IsNetwork}
use Rattle.network_file.proofs.NetworkFacts.{few_cells}
use Rattle.call_beginning.proofs.recording.records_too_much.Goals as goal

pub overflow_mul-result : goal.overflow_mul-result
overflow_mul-result c =
    let cells : length c.net.inside.cells.items ≡ length c.args.net.now.cells = ap (λ net. length net.cells) c.net.view_is in
    let few : c.len.result ≤ 2 ^ 32 = omega (arith, c.len.ensures, c.net.inside.cells.ok.0, cells, few_cells c.args.net.now (subst IsNetwork c.net.view_is c.net.invariant)) in
    let steps : c.recorded_steps.result ≤ 100_001 = omega (arith, c.recorded_steps.ensures.few, c.net.invariant.few_steps, ap (λ net. net.steps) c.net.view_is) in
    let wide : c.len.result * c.recorded_steps.result ≤ 2 ^ 32 * c.recorded_steps.result = mul-le-mul_right c.recorded_steps.result few in
    omega (arith, wide, steps)
