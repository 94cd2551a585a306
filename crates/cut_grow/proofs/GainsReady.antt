-- What the table asks of the gains of both sizes of even runs.
use Rattle.std.proofs.Common.{◌≡◌, ℕ, ◌<◌, ◌≤◌, ◌+◌, ◌-◌, ◌/◌, ◌%◌, ◌^◌, length, ap, sym, subst, div-le_self, arith, ◌∙◌}
use Rattle.cut_grow.specs.Most.{AreGainsOf, start_of}
use Rattle.cut_grow.specs.Spans.{AreGains}
use Rattle.cut_grow.specs.declared.gains.Gains.{Gains}
use Rattle.cut_grow.specs.declared.sizes.Sizes.{Sizes}
use Rattle.cut_grow.proofs.EvenSizes.{floor-some, sizes-whole}

pub gains-ready : (cells k : ℕ) (sizes : Sizes) (gains : Gains) → 1 ≤ k → k ≤ 512 → k ≤ cells → cells + 1 < 2 ^ 32 → length gains.spans.items < 2 ^ 32 →
    sizes.floor ≡ cells / k → sizes.smalls ≡ k - cells % k → sizes.larges ≡ cells % k →
    AreGains gains.spans.items cells sizes.floor gains.small.items → AreGains gains.spans.items cells (sizes.floor + 1) gains.large.items →
    AreGainsOf (length gains.small.items) sizes gains
gains-ready cells k sizes gains some few enough fits few_spans floor smalls larges small large =
    let below : cells / k ≤ cells = div-le_self cells k in
    let start : start_of sizes.floor sizes.smalls sizes.larges ≡ start_of (cells / k) (k - cells % k) (cells % k) =
    ap (λ n. start_of n sizes.smalls sizes.larges) floor ∙ ap (λ n. start_of (cells / k) n sizes.larges) smalls ∙ ap (start_of (cells / k) (k - cells % k)) larges in
    subst (λ n. AreGainsOf n sizes gains) (sym small.long) (record {
      whole = start ∙ sizes-whole cells k some;
      few_cells = omega arith;
      some = omega (arith, floor, floor-some cells k some enough);
      fits = omega (arith, floor, below);
      few_runs = omega (arith, smalls, larges);
      few_spans = few_spans;
      small = small;
      large = large;
    })
