use Rattle.std.specs.Prelude.{slice_index, ◌==◌, ◌||◌}
use Rattle.std.proofs.Common.{◌≡◌, Bool, true, false, inl, inr, ℕ, refl, ap, sym, ◌∙◌, arith}
use Rattle.std.proofs.lemmas.Bool.{cases_eq, eq-eqb}
use Rattle.std.proofs.lemmas.List.Elements.{All-push}
use Rattle.step_plan.specs.Speeds.{speed_at}
use Rattle.cell_sweep.specs.Speeds.{is_slow}
use Rattle.region_body.specs.FollowedSpeeds.{IsSpeedOpened, is_listed}
use Rattle.region_body.specs.declared.followed_speed.FollowedSpeed.{FollowedSpeed}
use Rattle.region_body.proofs.SpeedTimelines.{listed-push}
use Rattle.region_body.proofs.speeds.timelines_of.Goals.{then-is_slow+in_ok-speed_of+in_ok-push, else-is_slow}
use Rattle.region_body.proofs.speeds.timelines_of.Goals as goal

either-first : (a b : Bool) → a ≡ true → (a || b) ≡ true
either-first a b is = rw is refl

either-second : (a b : Bool) → b ≡ true → (a || b) ≡ true
either-second true b is = refl
either-second false b is = is

pub loop-p-preserved : goal.loop-p-preserved
loop-p-preserved c =
    let cells = c.args.cells.now in
    let net = c.args.net.now in
    let p : ℕ = c.loop-p.p in
    let items = c.loop-p.timelines.items in
    elim c.if-is_slow.branch [
      | then-is_slow+in_ok-speed_of+in_ok-push w ↦
          let one : FollowedSpeed = record { place = p; timeline = w.in_ok-speed_of.field-0 } in
          rw (w.timelines-is, w.in_ok-push.ensures.items) (record {
            opened = All-push (IsSpeedOpened net cells) items one c.loop-p.invariant.opened (record {
              place = omega arith;
              slow = sym c.is_slow.ensures ∙ w.if-is_slow.true;
              step = w.in_ok-speed_of.ensures.step;
              value = λ s. w.in_ok-speed_of.ensures.speed s ∙ ap (λ net. speed_at net.plan (slice_index cells p) s) c.net.view_is;
            });
            whole = λ q within slow. listed-push items one q ∙ elim (cases_eq q p) [
              | inl same ↦ either-second (is_listed items q) (p == q) (eq-eqb p q (sym same))
              | inr other ↦ either-first (is_listed items q) (p == q) (c.loop-p.invariant.whole q (omega (arith, within, other)) slow)
            ];
          })
      | else-is_slow w ↦
          let free : is_slow net cells p ≡ false = sym c.is_slow.ensures ∙ w.if-is_slow.false in
          rw w.timelines-is (record {
            opened = c.loop-p.invariant.opened;
            whole = λ q within slow. elim (cases_eq q p) [
              | inl same ↦ absurd (cc (same, slow, free))
              | inr other ↦ c.loop-p.invariant.whole q (omega (arith, within, other)) slow
            ];
          })
    ]
