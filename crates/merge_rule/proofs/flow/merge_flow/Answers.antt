use Rattle.std.proofs.Common.{◌≡◌, ℕ, ◌+◌, ◌*◌, ◌/◌, ap, ◌∙◌, arith, mul_comm}
use Rattle.merge_rule.specs.Merge.{first_share, merge_of}
use Rattle.merge_rule.proofs.MergeFacts.{first_share-le, merge_of-room, merge_of-first_rule, merge_of-second_rule, merge_of-first_sends, merge_of-second_sends, merge_of-none_is_lost, exchanged_first, exchanged_second, exchanged_same}
use Rattle.merge_rule.proofs.flow.merge_flow.Goals as goal

-- the share that the code takes is that of the rule
share_is : (r p1 p2 share : ℕ) → share ≡ r * p1 / (p1 + p2) → share ≡ first_share r p1 p2
share_is r p1 p2 share e = e ∙ ap (λ n. n / (p1 + p2)) (mul_comm r p1)

pub merge_by_share-requires : goal.merge_by_share-requires
merge_by_share-requires c = omega (arith, share_is c.args.r c.args.p1 c.args.p2 _ c.share_floor-share.ensures, first_share-le c.args.r c.args.p1 c.args.p2 c.requires)

flows : (c : goal.After-merge_by_share) → c.merge_by_share.result ≡ merge_of c.args.s1 c.args.s2 c.args.r c.args.p1 c.args.p2
flows c = c.merge_by_share.ensures.flows c.args.p1 c.args.p2 c.requires (share_is c.args.r c.args.p1 c.args.p2 c.share_floor-share.result c.share_floor-share.ensures)

pub returns-clause-flows : goal.returns-clause-flows
returns-clause-flows c = flows c

pub returns-clause-first_rule : goal.returns-clause-first_rule
returns-clause-first_rule c = rw (flows c) (merge_of-first_rule c.args.s1 c.args.s2 c.args.r c.args.p1 c.args.p2 c.requires)

pub returns-clause-second_rule : goal.returns-clause-second_rule
returns-clause-second_rule c = rw (flows c) (merge_of-second_rule c.args.s1 c.args.s2 c.args.r c.args.p1 c.args.p2 c.requires)

pub returns-clause-first_sends : goal.returns-clause-first_sends
returns-clause-first_sends c = rw (flows c) (merge_of-first_sends c.args.s1 c.args.s2 c.args.r c.args.p1 c.args.p2 c.requires)

pub returns-clause-second_sends : goal.returns-clause-second_sends
returns-clause-second_sends c = rw (flows c) (merge_of-second_sends c.args.s1 c.args.s2 c.args.r c.args.p1 c.args.p2 c.requires)

pub returns-clause-all_go : goal.returns-clause-all_go
returns-clause-all_go c = λ room.
    let all = flows c ∙ merge_of-room c.args.s1 c.args.s2 c.args.r c.args.p1 c.args.p2 room in
    (ap (λ (f : ℕ × ℕ). f.0) all, ap (λ (f : ℕ × ℕ). f.1) all)

pub returns-clause-none_is_lost : goal.returns-clause-none_is_lost
returns-clause-none_is_lost c = rw (flows c) (merge_of-none_is_lost c.args.s1 c.args.s2 c.args.r c.args.p1 c.args.p2 c.requires)

pub returns-clause-exchanged_first : goal.returns-clause-exchanged_first
returns-clause-exchanged_first c = rw (flows c) (exchanged_first c.args.s1 c.args.s2 c.args.r c.args.p1 c.args.p2 c.requires)

pub returns-clause-exchanged_second : goal.returns-clause-exchanged_second
returns-clause-exchanged_second c = rw (flows c) (exchanged_second c.args.s1 c.args.s2 c.args.r c.args.p1 c.args.p2 c.requires)

pub returns-clause-exchanged_same : goal.returns-clause-exchanged_same
returns-clause-exchanged_same c = rw (flows c) (exchanged_same c.args.s1 c.args.s2 c.args.r c.args.p1 c.args.p2 c.requires)
