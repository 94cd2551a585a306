use Rattle.std.specs.Prelude.{All, slice_index}
use Rattle.std.specs.List.{Contains}
use Rattle.std.proofs.Common.{◌≡◌, ◌+◌, ◌∷◌, ◌++◌, [], inr, List, length, sym, ap, subst, ◌∙◌, arith}
use Rattle.std.proofs.lemmas.List.{length-append}
use Rattle.region_cut.specs.Cuttings.{region_count}
use Rattle.region_slots.specs.FieldView.{PassValue}
use Rattle.network_run.proofs.Crewing.{All-fewer, All-last}
use Rattle.wait_call.specs.Seats.{HasCome}
use Rattle.wait_call.proofs.Uniting.{among-more, from-more, united-all}
use Rattle.wait_call.proofs.seats.unite_all.Goals as goal

pub unite-requires-clause-also : goal.unite-requires-clause-also
unite-requires-clause-also c =
    let come : All (HasCome c.args.field.now) (c.pop.new.self.items ++ c.in-Some.other ∷ []) = subst (All (HasCome c.args.field.now)) c.in-Some.ensures.items c.loop-other.invariant.3 in
    (All-last (HasCome c.args.field.now) c.pop.new.self.items c.in-Some.other come).seat.belongs

pub loop-other-preserved : goal.loop-other-preserved
loop-other-preserved c =
    let field = c.args.field.now in
    let inv = c.loop-other.invariant in
    let left : List PassValue = c.pop.new.self.items in
    let other : PassValue = c.in-Some.other in
    let come : All (HasCome field) (left ++ other ∷ []) = subst (All (HasCome field)) c.in-Some.ensures.items inv.3 in
    let one = All-last (HasCome field) left other come in
    let knows = c.unite.ensures.knows in
    let among : (pass : PassValue) → Contains (left ++ other ∷ []) pass → Contains c.args.passes.now.items pass =
    λ pass has. inv.5 pass (subst (λ list. Contains list pass) (sym c.in-Some.ensures.items) has) in
    let fewer : length c.loop-other.passes.items ≡ length left + 1 = ap length c.in-Some.ensures.items ∙ length-append left (other ∷ []) in (
      c.unite.ensures.belongs,
      omega (arith, ap (λ v. v.share) knows, inv.1, fewer, one.seat.share),
      omega (arith, ap (λ v. v.reach) knows, inv.2, one.seat.reach),
      All-fewer (HasCome field) left other come,
      inr (λ r there. omega (
        arith,
        ap (λ v. slice_index v.seen r) knows,
        united-all c.loop-other.pass.knows other.knows (region_count field.terms.setup.now.chart.cut) field.terms.setup.now.net.steps inv.0.counts.seen one.seen r there,
      )),
      among-more c.args.passes.now.items left other among,
      from-more c.args.pass.now.knows.log c.args.passes.now.items left other c.loop-other.pass.knows.log c.unite.new.pass.knows.log among inv.6 (ap (λ v. v.log) knows),
    )
