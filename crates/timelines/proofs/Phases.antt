-- A place in a signal's cycle, some steps on.
use Rattle.std.proofs.Common.{◌≡◌, ℕ, ◌+◌, ◌-◌, ◌*◌, ◌/◌, ◌%◌, ◌<◌, ◌≤◌, ap, ◌∙◌, arith}
use Rattle.std.proofs.lemmas.Bool.Decides.{nat_tests}
use Rattle.std.proofs.lemmas.Nat.{div-add-mod', mod-mul-add}
use Rattle.step_plan.specs.Records.{in_range}

-- as long as the cycle doesn't end
place_later : (a d cycle : ℕ) → a % cycle + d < cycle → (a + d) % cycle ≡ a % cycle + d
place_later a d cycle within =
    let split : a + d ≡ a / cycle * cycle + (a % cycle + d) = omega (arith, div-add-mod' a cycle) in
    ap (λ x. x % cycle) split ∙ mod-mul-add (a / cycle) cycle (a % cycle + d) within

-- from step t on up to the end of a phase
phase_place : (t s offset cycle end : ℕ) → t ≤ s → end ≤ cycle → s < t + end - (t + offset) % cycle →
    (s + offset) % cycle ≡ (t + offset) % cycle + (s - t)
phase_place t s offset cycle end later within before =
    let e : s + offset ≡ (t + offset) + (s - t) = omega arith in
    ap (λ x. x % cycle) e ∙ place_later (t + offset) (s - t) cycle (omega arith)

stays_before : (from to place d : ℕ) → place + d < from → in_range from to (place + d) ≡ in_range from to place
stays_before from to place d before = grind (arith, nat_tests)

stays_green : (from to place d : ℕ) → from ≤ place → place + d < to → in_range from to (place + d) ≡ in_range from to place
stays_green from to place d past before = grind (arith, nat_tests)

stays_behind : (from to place d : ℕ) → to ≤ place → in_range from to (place + d) ≡ in_range from to place
stays_behind from to place d past = grind (arith, nat_tests)

-- before its green, in it, and behind it the light stays up to the end of the phase
pub before_green : (from to t s offset cycle end : ℕ) → t ≤ s → end ≤ cycle → s < t + end - (t + offset) % cycle → end ≤ from →
    in_range from to ((s + offset) % cycle) ≡ in_range from to ((t + offset) % cycle)
before_green from to t s offset cycle end later within before phase =
    let place = phase_place t s offset cycle end later within before in
    rw place (stays_before from to ((t + offset) % cycle) (s - t) (omega arith))

pub in_green : (from to t s offset cycle end : ℕ) → t ≤ s → end ≤ cycle → s < t + end - (t + offset) % cycle →
    from ≤ (t + offset) % cycle → end ≤ to →
    in_range from to ((s + offset) % cycle) ≡ in_range from to ((t + offset) % cycle)
in_green from to t s offset cycle end later within before past phase =
    let place = phase_place t s offset cycle end later within before in
    rw place (stays_green from to ((t + offset) % cycle) (s - t) past (omega arith))

pub behind_green : (from to t s offset cycle end : ℕ) → t ≤ s → end ≤ cycle → s < t + end - (t + offset) % cycle →
    to ≤ (t + offset) % cycle →
    in_range from to ((s + offset) % cycle) ≡ in_range from to ((t + offset) % cycle)
behind_green from to t s offset cycle end later within before past =
    let place = phase_place t s offset cycle end later within before in
    rw place (stays_behind from to ((t + offset) % cycle) (s - t) past)
