-- What a road can hold.
use Rattle.std.specs.Prelude.{ℕ, ◌≤◌}
use Rattle.fixed_flow.specs.Limits.{most_ratio}
use Rattle.ordinary_link.specs.declared.space.Room.{Room}

-- the road can hold `n` parts, and its ratio A/B has 1 ≤ A ≤ B ≤ 1,000
pub record IsRoomHolding (n : ℕ) (room : Room) : Type 0 where
  pub within : n ≤ room.most
  pub positive : 1 ≤ room.num
  pub ratio : room.num ≤ room.den
  pub small : room.den ≤ most_ratio
