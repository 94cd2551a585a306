use Rattle.std.proofs.Common.{◌≡◌, ◌+◌, ℕ, All, Some, vec_len, sym, subst, ◌∙◌, arith}
use Rattle.std.proofs.lemmas.List.Elements.{All-pop, All-push}
use Rattle.number_deques.specs.Nests.{NestValue}
use Rattle.number_deques.proofs.nesting.joined.Goals as goal

abbrev nest : (members regions : ℕ) → NestValue
nest members regions = record { members = members; regions = regions }

same-nest : (m n r s : ℕ) → m ≡ n → r ≡ s → nest m r ≡ nest n s
same-nest m n r s members regions = λ i. nest (members i) (regions i)

pub loop-own-preserved : goal.loop-own-preserved
loop-own-preserved c =
    let knows = c.loop-own.invariant.2 in
    let regions : ℕ = knows.0 in
    let owns = All-pop (λ own. own ≡ regions) c.loop-own.owns.items c.pop.new.self.items (Some c.in-Some-Some.own) c.in-Some-Some.ensures.items knows.1 in
    let others = All-pop (λ thieves. All (λ thief. thief ≡ regions) thieves.items) c.loop-own.others.items c.pop-in-loop-own.new.self.items (Some c.in-Some-Some.thieves) c.in-Some-Some.ensures'.items knows.3 in
    let many = All-pop (λ thieves. vec_len thieves + 1 ≡ vec_len c.args.owns) c.loop-own.others.items c.pop-in-loop-own.new.self.items (Some c.in-Some-Some.thieves) c.in-Some-Some.ensures'.items c.loop-own.invariant.3 in (
      omega (arith, c.in-Some-Some.ensures.len, c.in-Some-Some.ensures'.len, c.loop-own.invariant.0),
      omega (arith, c.in-Some-Some.ensures.len, c.in_ok-push.ensures.len, c.loop-own.invariant.1),
      (
        regions,
        owns.0,
        knows.2,
        others.0,
        subst (All (λ n. n ≡ nest (vec_len c.args.owns) regions)) (sym c.in_ok-push.ensures.items)
            (All-push (λ n. n ≡ nest (vec_len c.args.owns) regions) c.loop-own.nests.items c.new.result knows.4 (c.new.ensures ∙ same-nest _ _ _ _ many.1 owns.1)),
      ),
      many.0,
    )

pub new-requires-clause-knows : goal.new-requires-clause-knows
new-requires-clause-knows c =
    let knows = c.loop-own.invariant.2 in
    let regions : ℕ = knows.0 in
    let owns = All-pop (λ own. own ≡ regions) c.loop-own.owns.items c.pop.new.self.items (Some c.in-Some-Some.own) c.in-Some-Some.ensures.items knows.1 in
    let others = All-pop (λ thieves. All (λ thief. thief ≡ regions) thieves.items) c.loop-own.others.items c.pop-in-loop-own.new.self.items (Some c.in-Some-Some.thieves) c.in-Some-Some.ensures'.items knows.3 in
    λ k d within. others.1 k d within ∙ sym owns.1
