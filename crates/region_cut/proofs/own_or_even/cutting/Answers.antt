use Rattle.std.proofs.Common.{◌≡◌, ◌≢◌, length, ap, arith, subst, sym, ◌∙◌}
use Rattle.network_file.specs.Cutting.{IsCutting}
use Rattle.network_file.specs.Sound.{IsNetwork}
use Rattle.region_cut.proofs.Anys.{not_same}
use Rattle.region_cut.proofs.Cuttings.{cutting-alone, own-cutting}
use Rattle.region_cut.proofs.own_or_even.cutting.Goals as goal

pub known-requires : goal.known-requires
known-requires c =
    let list : c.in_ok-own.own.items ≡ c.args.net.now.regions = c.in_ok-own.ensures ∙ c.deref.ensures.value ∙ ap (λ net. net.regions) c.net.view_is in
    let some : length c.args.net.now.regions ≢ 0 =
    λ none. not_same _ 0 (sym c.is_empty.ensures ∙ c.if-is_empty.false) (omega (arith, none, ap (λ net. length net.regions) c.net.view_is, c.net.inside.regions.ok.0)) in
    subst (λ list. IsCutting (length list) list) (sym list) (cutting-alone (own-cutting c.args.net.now (subst IsNetwork c.net.view_is c.net.invariant) some))

pub returns-clause-own : goal.returns-clause-own
returns-clause-own c = λ some. c.known.ensures ∙ c.in_ok-own.ensures ∙ c.deref.ensures.value ∙ ap (λ net. net.regions) c.net.view_is

pub returns-clause-one_each : goal.returns-clause-one_each
returns-clause-one_each c =
    let list : c.known.result ≡ c.args.net.now.regions = c.known.ensures ∙ c.in_ok-own.ensures ∙ c.deref.ensures.value ∙ ap (λ net. net.regions) c.net.view_is in
    let some : length c.args.net.now.regions ≢ 0 =
    λ none. not_same _ 0 (sym c.is_empty.ensures ∙ c.if-is_empty.false) (omega (arith, none, ap (λ net. length net.regions) c.net.view_is, c.net.inside.regions.ok.0)) in
    ap length list ∙ (own-cutting c.args.net.now (subst IsNetwork c.net.view_is c.net.invariant) some).one_each
