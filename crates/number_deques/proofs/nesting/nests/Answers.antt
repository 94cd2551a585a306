use Rattle.std.proofs.Common.{◌≡◌, ◌+◌, All, vec_len, length, IfOk, sym, subst, arith, ap, ◌∙◌}
use Rattle.std.proofs.lemmas.List.{with_items_is}
use Rattle.std.proofs.lemmas.List.Elements.{All-push}
use Rattle.number_deques.proofs.nesting.nests.Goals as goal

pub loop-number-preserved : goal.loop-number-preserved
loop-number-preserved c =
    let long : length c.thieves.new.deques ≡ c.loop-number.owns.len = omega (arith, ap length c.thieves.ensures.same, ap length c.deref_mut.ensures.value, c.loop-number.owns.ok.0) in
    let same = with_items_is c.loop-number.owns c.thieves.new.deques long ∙ c.thieves.ensures.same ∙ c.deref_mut.ensures.value in (
      c.loop-number.invariant.0,
      subst (All (λ own. own ≡ c.args.regions)) (sym same) c.loop-number.invariant.1,
      omega (arith, c.in_ok-push.ensures.len, c.loop-number.invariant.2),
      subst (All (λ thieves. (vec_len thieves + 1 ≡ c.args.members) × All (λ thief. thief ≡ c.args.regions) thieves.items)) (sym c.in_ok-push.ensures.items)
          (All-push (λ thieves. (vec_len thieves + 1 ≡ c.args.members) × All (λ thief. thief ≡ c.args.regions) thieves.items) c.loop-number.others.items c.in_ok-thieves.field-0 c.loop-number.invariant.3 (
            omega (arith, c.in_ok-thieves.ensures.others, ap length c.deref_mut.ensures.value, c.loop-number.owns.ok.0, c.loop-number.invariant.0),
            c.in_ok-thieves.ensures.knows c.args.regions (subst (All (λ own. own ≡ c.args.regions)) (sym c.deref_mut.ensures.value) c.loop-number.invariant.1),
          )),
    )

pub joined-requires-clause-knows : goal.joined-requires-clause-knows
joined-requires-clause-knows c = (c.args.regions, c.loop-number.invariant.1, λ k d low. (c.loop-number.invariant.3 k d low).1)

pub returns-clause-made : goal.returns-clause-made
returns-clause-made c =
    subst (λ n. IfOk c.joined.result (λ nests. All (λ nest. nest ≡ record { members = n; regions = c.args.regions }) nests.items)) c.loop-number.invariant.0
    (c.joined.ensures.made c.args.regions c.loop-number.invariant.1)
