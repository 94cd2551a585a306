use Rattle.std.proofs.Common.{◌≡◌, ℕ, ◌-◌, ◌*◌, ◌/◌, ◌^◌, ◌<◌, ap, ◌∙◌, arith}
use Rattle.connector_flow.specs.Ratios.{factor_of}
use Rattle.connector_flow.proofs.space.Space.of_road.Goals as goal
use Rattle.connector_flow.proofs.Ratios.{part-exact}

pub returns-else-room : goal.returns-else-room
returns-else-room c = λ n held.
    let d : ℕ = c.args.room.most - n in
    let small : c.args.room.den * d < 2 ^ 63 = grind arith in
    let doubled : d * (2 * factor_of (c.args.room.num, c.args.room.den)) ≡ 2 * (d * factor_of (c.args.room.num, c.args.room.den)) = grind arith in (
      held,
      ap (λ m. d * m / 2 ^ 64) (c.whole_factor.ensures ∙ ap (λ ratio. 2 * factor_of ratio) c.new.ensures) ∙ ap (λ x. x / 2 ^ 64) doubled
          ∙ part-exact c.args.room.num c.args.room.den d (omega arith) small,
    )
