use Rattle.std.proofs.Common.{◌≡◌, arith, ap, map, ◌*◌, ◌/◌, ◌∙◌}
use Rattle.std.specs.List.{range_with_len}
use Rattle.region_cut.proofs.ListsByRegion.{by_number_more}
use Rattle.region_cut.specs.Cuttings.{even_cutting}
use Rattle.region_cut.proofs.even.even_list.Goals as goal

pub loop-i-preserved : goal.loop-i-preserved
loop-i-preserved c = by_number_more _ c.loop-i.i _ _ _ c.loop-i.invariant c.in_ok-push.ensures.items c.even_region.ensures

pub returns : goal.returns
unfolding even_cutting
returns c =
    let all : c.loop-i.i ≡ c.args.cells = omega arith in
    c.loop-i.invariant ∙ ap (λ n. map (λ i. i * c.args.k / c.args.cells) (range_with_len 0 n)) all
