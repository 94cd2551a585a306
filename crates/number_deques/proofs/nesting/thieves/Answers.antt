use Rattle.std.specs.Prelude.{slice_set}
use Rattle.std.proofs.Common.{◌≡◌, ◌+◌, ◌%◌, ◌<◌, ℕ, All, length, sym, subst, ap, ◌∙◌, arith}
use Rattle.std.proofs.Math.Nat.{mod-lt}
use Rattle.std.proofs.lemmas.List.{set-get_or}
use Rattle.std.proofs.lemmas.List.Elements.{All-push}
use Rattle.number_deques.proofs.nesting.thieves.Goals as goal

pub loop-k-preserved : goal.loop-k-preserved
loop-k-preserved c =
    let at : ℕ = (c.args.number + c.loop-k.k) % length c.args.deques.now in
    let there : at < length c.args.deques.now = mod-lt (c.args.number + c.loop-k.k) (omega (arith, c.requires.one_of)) in
    let same : slice_set c.loop-k.deques at c.thief.new.self ≡ c.args.deques.now =
    ap (λ n. slice_set c.loop-k.deques at n) c.thief.ensures.same ∙ set-get_or c.loop-k.deques at c.index-deques-other.result ∙ c.loop-k.invariant.0 in (
      same,
      omega (arith, c.in_ok-push.ensures.len, c.loop-k.invariant.1),
      λ regions all.
          let every : All (λ deque. deque ≡ regions) c.loop-k.deques = subst (All (λ deque. deque ≡ regions)) (same ∙ sym c.loop-k.invariant.0) all in
          subst (All (λ thief. thief ≡ regions)) (sym c.in_ok-push.ensures.items)
          (All-push (λ thief. thief ≡ regions) c.loop-k.thieves.items c.in_ok-thief.field-0 (c.loop-k.invariant.2 regions every)
          (c.in_ok-thief.ensures.knows ∙ every at c.index-deques-other.result (omega (arith, there, ap length c.loop-k.invariant.0)))),
    )

pub returns-clause-knows : goal.returns-clause-knows
returns-clause-knows c = λ regions all. c.loop-k.invariant.2 regions (subst (All (λ deque. deque ≡ regions)) (sym c.loop-k.invariant.0) all)
