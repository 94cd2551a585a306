use Rattle.std.specs.Prelude.{slice_index}
use Rattle.std.proofs.Common.{◌≡◌, inl, inr, [], ◌∷◌, ◌++◌, length, get_or, arith, ap, subst, sym, ◌∙◌}
use Rattle.std.proofs.lemmas.Bool.{cases_lt}
use Rattle.std.proofs.lemmas.List.{get_or_append_left, length-append}
use Rattle.region_step.specs.Setup.{setup_of}
use Rattle.region_step.specs.Standing.{Stands}
use Rattle.region_step.proofs.Lists.{pushed-at}
use Rattle.region_step.proofs.first_regions.open_all.Goals as goal

pub loop-r-preserved : goal.loop-r-preserved
loop-r-preserved c =
    let more : c.push.new.self.items ≡ c.loop-r.regions.items ++ c.in_ok-open.field-0 ∷ [] = c.in_ok-push.ensures.items in
    let opened : Stands (setup_of c.args.layout.now c.args.start.now c.args.every) c.loop-r.r (slice_index c.args.start.now.steps c.loop-r.r) c.in_ok-open.field-0 =
    record {
      opened = c.in_ok-open.ensures.opened;
      state = c.in_ok-open.ensures.state;
    } in (
      omega (arith, ap length more, length-append c.loop-r.regions.items (c.in_ok-open.field-0 ∷ []), c.loop-r.invariant.0),
      λ q region within. elim (cases_lt q c.loop-r.r) [
        | inl before ↦
            subst (Stands (setup_of c.args.layout.now c.args.start.now c.args.every) q (slice_index c.args.start.now.steps q))
            (sym (ap (λ items. get_or items q region) more ∙ get_or_append_left c.loop-r.regions.items (c.in_ok-open.field-0 ∷ []) region q (omega (arith, before, c.loop-r.invariant.0))))
            (c.loop-r.invariant.1 q region before)
        | inr last ↦
            let here : q ≡ c.loop-r.r = omega (arith, within, last) in
            subst (Stands (setup_of c.args.layout.now c.args.start.now c.args.every) q (slice_index c.args.start.now.steps q))
            (sym (ap (λ items. get_or items q region) more ∙ pushed-at c.loop-r.regions.items c.in_ok-open.field-0 region q (here ∙ sym c.loop-r.invariant.0)))
            (subst (λ p. Stands (setup_of c.args.layout.now c.args.start.now c.args.every) p (slice_index c.args.start.now.steps p) c.in_ok-open.field-0) (sym here) opened)
      ],
    )
