use Rattle.std.specs.Prelude.{◌==◌, if◌then◌else◌}
use Rattle.std.specs.List.{range_with_len}
use Rattle.std.proofs.Common.{◌∙◌, ◌∷◌, [], ◌++◌, ap, arith, length, sym}
use Rattle.region_cut.specs.Cuttings.{region_at}
use Rattle.region_cut.specs.Gathered.{inside}
use Rattle.region_cut.proofs.ListsByRegion.{lists_are}
use Rattle.region_cut.proofs.Ranges.{filter_range_more}
use Rattle.region_cut.proofs.cell_lists.cells_by_region.Goals as goal

pub loop-i-preserved : goal.loop-i-preserved
loop-i-preserved c = record {
  count = c.in_ok-push.ensures.count ∙ c.loop-i.invariant.count;
  lists = λ r within.
      c.in_ok-push.ensures.lists r ∙
      ap (λ before. before ++ (if region_at c.args.cut.now c.loop-i.i == r then c.loop-i.i ∷ [] else [])) (c.loop-i.invariant.lists r within) ∙
      sym (filter_range_more (λ i. region_at c.args.cut.now i == r) c.loop-i.i);
}

pub returns : goal.returns
returns c =
    lists_are (λ r. inside c.args.cut.now r (range_with_len 0 (length c.args.cut.now))) c.loop-i.lists c.args.regions c.loop-i.invariant.count
    (λ r within. c.loop-i.invariant.lists r within ∙ ap (λ n. inside c.args.cut.now r (range_with_len 0 n)) (omega arith))
