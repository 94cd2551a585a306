use Rattle.std.proofs.Common.{ℕ, length}
use Rattle.region_body.specs.FollowedLinks.{AreFollowed, IsLinkThere}
use Rattle.region_body.proofs.Following.{IsRefreshed}
use Rattle.region_body.proofs.followed_link.refresh.Given as goal
use Rattle.std.specs.Prelude.{All}

abbrev pub invariant-loop-m : goal.invariant-loop-m
invariant-loop-m l = record {
  there : All (IsLinkThere (length l.states) l.t) l.links;
  refreshed : (most : ℕ → ℕ → ℕ) → AreFollowed most l.initial.states l.initial.links l.t → IsRefreshed most l.initial.states l.states l.links l.t l.m;
}
