use Rattle.std.proofs.Common.{◌≡◌, ◌+◌, ◌*◌, ◌≤◌, ◌^◌, slice_index}
use Rattle.traffic_laws.specs.Area.{area_under}
use Rattle.traffic_laws.proofs.area.wait_area.Given as goal

abbrev pub invariant-loop-s : goal.invariant-loop-s
invariant-loop-s l = record {
  arrived : l.arrived ≡ area_under (λ s. l.first + slice_index l.come s) l.s;
  departed : l.departed ≡ area_under (λ s. slice_index l.gone (s + 1)) l.s;
  fits_arrived : l.arrived ≤ l.s * 2 ^ 65;
  fits_departed : l.departed ≤ l.s * 2 ^ 64;
}
