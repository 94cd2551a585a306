use Rattle.std.specs.Prelude.{MatchOption, Option, Some, None}
use Rattle.std.proofs.Common.{◌≡◌, ℕ, List, true, false, refl}
use Rattle.network_file.specs.declared.connector.Connector.TheVariants.{Link, Merge, Diverge}
use Rattle.region_body.specs.Chains.{HasNoNext, IsNextAt, is_chained, is_link}
use Rattle.region_body.proofs.Links.{next-link, next-none, not_chained}
use Rattle.region_body.proofs.chain.chained.Goals as goal

next : (cells : List ℕ) (up down : ℕ) (result : Option ℕ) → MatchOption result (HasNoNext cells up down) (IsNextAt cells up down) →
    MatchOption result (is_chained cells (Link up down) ≡ false) (λ p. is_link cells p (Link up down) ≡ true)
next cells up down None none = next-none cells up down none
next cells up down (Some p) has = next-link cells up down p has

pub returns-in-Link : goal.returns-in-Link
returns-in-Link c = rw c.in-Link.is (next c.args.region.now.order.now.placed c.in-Link.up c.in-Link.down c.next_place.result c.next_place.ensures)

pub returns-in-Merge : goal.returns-in-Merge
returns-in-Merge c = rw c.in-Merge.is (not_chained c.args.region.now.order.now.placed (Merge c.in-Merge.up1 c.in-Merge.up2 c.in-Merge.down c.in-Merge.p1 c.in-Merge.p2) (λ p. refl))

pub returns-in-Diverge : goal.returns-in-Diverge
returns-in-Diverge c = rw c.in-Diverge.is (not_chained c.args.region.now.order.now.placed (Diverge c.in-Diverge.up c.in-Diverge.down1 c.in-Diverge.down2 c.in-Diverge.b1 c.in-Diverge.b2) (λ p. refl))
