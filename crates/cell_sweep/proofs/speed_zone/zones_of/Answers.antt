use Rattle.std.proofs.Common.{◌≡◌, ◌-◌, ◌/◌, ◌++◌, ◌∷◌, [], Bool, ℕ, sym, ap, subst, ◌∙◌, arith, length}
use Rattle.cell_sweep.specs.SpeedZones.{is_all_slow_four, is_slow_four}
use Rattle.cell_sweep.specs.Speeds.{is_slow}
use Rattle.cell_sweep.proofs.ZonesMade.{AreZonesTo, zones-all, zones-ended, zones-grown, zones-none, zones-passed}
use Rattle.cell_sweep.proofs.speed_zone.zones_of.Goals.{then-not-alike+then-slow+in_ok-push, then-not-alike+else-slow, else-not-alike, then-slow-2+in_ok-push-2, else-slow-2}
use Rattle.cell_sweep.proofs.speed_zone.zones_of.Goals as goal

pub loop-m-init : goal.loop-m-init
loop-m-init c =
    let slow : ℕ → Bool = is_slow c.args.net.now c.args.cells.now in
    rw c.new-zones.ensures.items (zones-none (is_slow_four slow) (is_all_slow_four slow))

pub loop-m-preserved : goal.loop-m-preserved
loop-m-preserved c =
    let slow : ℕ → Bool = is_slow c.args.net.now c.args.cells.now in
    let p : ℕ = c.loop-m.m in
    let from : ℕ = c.loop-m.from in
    let zones = c.loop-m.zones.items in
    let all : Bool = c.loop-m.all_slow in
    let are = c.loop-m.invariant in
    elim c.if-not-alike.branch [
      | then-not-alike+then-slow+in_ok-push w ↦
          rw (w.zones-is, w.from-is, w.slow-is, w.all_slow-is, w.in_ok-push.ensures.items, c.is_slow_four-some.ensures, c.is_all_slow_four-all.ensures)
          (zones-ended (is_slow_four slow) (is_all_slow_four slow) from p all zones
          (subst (λ any. AreZonesTo (is_slow_four slow) (is_all_slow_four slow) from p any all zones) w.if-slow.true are))
      | then-not-alike+else-slow w ↦
          rw (w.zones-is, w.from-is, w.slow-is, w.all_slow-is, c.is_slow_four-some.ensures, c.is_all_slow_four-all.ensures)
          (zones-passed (is_slow_four slow) (is_all_slow_four slow) from p all zones
          (subst (λ any. AreZonesTo (is_slow_four slow) (is_all_slow_four slow) from p any all zones) w.if-slow.false are))
      | else-not-alike w ↦
          rw (w.zones-is, w.from-is, w.slow-is, w.all_slow-is)
          (zones-grown (is_slow_four slow) (is_all_slow_four slow) from p c.loop-m.slow all zones are
          (sym c.is_slow_four-some.ensures ∙ (c.alike.ensures.0 w.if-not-alike.false).0)
          (sym c.is_all_slow_four-all.ensures ∙ (c.alike.ensures.0 w.if-not-alike.false).1))
    ]

pub returns : goal.returns
returns c =
    let cells = c.args.cells.now in
    let slow : ℕ → Bool = is_slow c.args.net.now cells in
    let last : ℕ = c.saturating_sub-fours.result / 4 in
    let from : ℕ = c.loop-m.from in
    let zones = c.loop-m.zones.items in
    let all : Bool = c.loop-m.all_slow in
    let end : c.loop-m.m ≡ last = omega (arith, c.loop-m.auto.m-end, c.loop-m-test.false) in
    let To : (p : ℕ) (any : Bool) → Type 0 = λ p any. AreZonesTo (is_slow_four slow) (is_all_slow_four slow) from p any all zones in
    let are : To last c.loop-m.slow = subst (λ p. To p c.loop-m.slow) end c.loop-m.invariant in
    let is : last ≡ (length cells - 1) / 4 = ap (λ n. n / 4) c.saturating_sub-fours.ensures in
    elim c.if-slow-2.branch [
      | then-slow-2+in_ok-push-2 w ↦
          rw (w.zones-is, w.in_ok-push-2.ensures.items, ← is)
          (zones-all slow last (is_slow_four slow last) (is_all_slow_four slow last) (zones ++ record { from = from; to = last; all_slow = all } ∷ [])
          (zones-ended (is_slow_four slow) (is_all_slow_four slow) from last all zones (subst (To last) w.if-slow-2.true are)))
      | else-slow-2 w ↦
          rw (w.zones-is, ← is)
          (zones-all slow last (is_slow_four slow last) (is_all_slow_four slow last) zones
          (zones-passed (is_slow_four slow) (is_all_slow_four slow) from last all zones (subst (To last) w.if-slow-2.false are)))
    ]
