use Rattle.std.specs.Prelude.{All}
use Rattle.std.proofs.Common.{◌≡◌, ◌+◌, ◌∷◌, [], length, ap, subst, sym, ◌∙◌, arith}
use Rattle.std.proofs.lemmas.List.{length-append}
use Rattle.region_slots.specs.FieldView.{PassValue}
use Rattle.network_run.proofs.Crewing.{All-one_more}
use Rattle.wait_call.specs.Seats.{IsSeat}
use Rattle.wait_call.proofs.seats.share_off.Goals as goal

pub loop-passes-preserved : goal.loop-passes-preserved
loop-passes-preserved c =
    let field = c.args.field.now in
    let shared = c.share.ensures in
    let other : PassValue = c.share.result in
    let inv = c.loop-passes.invariant in
    let silent : PassValue → Type 0 = λ pass. pass.knows.log ≡ [] in
    let one : IsSeat field other = record {
      belongs = shared.also;
      share = ap (λ v. v.share) shared.off;
      reach = omega (arith, ap (λ v. v.reach) shared.off, inv.2, c.requires.reach);
    } in
    let more : length c.push_reserved.new.self.items ≡ length c.loop-passes.passes.items + 1 =
    ap length c.push_reserved.ensures.items ∙ length-append c.loop-passes.passes.items (other ∷ []) in (
      shared.belongs,
      omega (arith, ap (λ v. v.share) shared.keeps, inv.1, more),
      ap (λ v. v.reach) shared.keeps ∙ inv.2,
      omega (arith, more, c.loop-passes-test.true),
      omega (arith, inv.4, c.push_reserved.ensures.capacity),
      subst (All (IsSeat field)) (sym c.push_reserved.ensures.items) (All-one_more (IsSeat field) c.loop-passes.passes.items other inv.5 one),
      ap (λ v. v.log) shared.keeps ∙ inv.6,
      subst (All silent) (sym c.push_reserved.ensures.items) (All-one_more silent c.loop-passes.passes.items other inv.7 (ap (λ v. v.log) shared.off)),
    )
