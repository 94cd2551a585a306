use Rattle.std.specs.Prelude.{min}
use Rattle.std.proofs.Common.{◌≡◌, length, ap, arith, subst, sym, ◌∙◌}
use Rattle.region_cut.proofs.Cuttings.{cutting-alone}
use Rattle.cut_grow.specs.Grown.{IsGrown}
use Rattle.call_beginning.proofs.used_cutting.grown_cut.Goals as goal

pub known-requires : goal.known-requires
known-requires c = cutting-alone c.in_ok-list.ensures.cutting

pub returns-clause-grown : goal.returns-clause-grown
returns-clause-grown c =
    let cells : length c.net.inside.cells.items ≡ length c.args.net.now.cells = ap (λ net. length net.cells) c.net.view_is in
    let k : c.min.result ≡ min c.args.regions (length c.args.net.now.cells) = omega (arith, c.min.ensures, c.len.ensures, c.net.inside.cells.ok.0, cells) in
    subst (λ n. IsGrown c.args.net.now n c.known.result) k (subst (IsGrown c.args.net.now c.min.result) (sym c.known.ensures) c.in_ok-list.ensures.grown)

pub returns-clause-one_each : goal.returns-clause-one_each
returns-clause-one_each c = ap length c.known.ensures ∙ c.in_ok-list.ensures.cutting.one_each
