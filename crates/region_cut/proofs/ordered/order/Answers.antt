use Rattle.std.proofs.Common.{◌≡◌, sym, ap, subst, ◌∙◌, eqb}
use Rattle.std.specs.List.{dedup, list_any}
use Rattle.std.specs.List.Sorted.{IsStrictlyIncreasing}
use Rattle.std.proofs.lemmas.List.Filters.{dedup_is}
use Rattle.std.proofs.lemmas.List.Kept.{Contains-dedup_nat, Contains-from_dedup}
use Rattle.std.proofs.lemmas.List.Sorted.{list_any-IsPermutation}
use Rattle.std.proofs.lemmas.Map.Keys.{IsStrictlyIncreasing-dedup}
use Rattle.region_cut.proofs.Anys.{same_found}
use Rattle.region_cut.proofs.ordered.order.Goals as goal

pub returns-clause-increasing : goal.returns-clause-increasing
returns-clause-increasing c =
    let is : c.dedup.new.self.items ≡ dedup eqb c.sort_unstable.new.self.items = dedup_is eqb _ _ c.dedup.ensures.filtered in
    subst IsStrictlyIncreasing (sym is) (IsStrictlyIncreasing-dedup c.sort_unstable.new.self.items c.sort_unstable.ensures.sorted)

pub returns-clause-same : goal.returns-clause-same
returns-clause-same c = λ test.
    let is : c.dedup.new.self.items ≡ dedup eqb c.sort_unstable.new.self.items = dedup_is eqb _ _ c.dedup.ensures.filtered in
    ap (list_any test) is ∙
    same_found (dedup eqb c.sort_unstable.new.self.items) c.sort_unstable.new.self.items
    (Contains-from_dedup eqb c.sort_unstable.new.self.items) (Contains-dedup_nat c.sort_unstable.new.self.items) test ∙
    sym (list_any-IsPermutation test _ _ c.sort_unstable.ensures.permutation)
