-- The regions of drives, in the order of their turns.
use Rattle.std.proofs.Common.{◌≡◌, ℕ, suc, ◌+◌, List, ◌++◌, refl, ap, ◌∙◌, arith}
use Rattle.std.proofs.lemmas.List.{append_assoc}
use Rattle.worker_claim.specs.Driving.{round_from}
use Rattle.sweeping_crew.specs.Driving.{rounds_from}

-- one round more
pub rounds-more : (old between new : List ℕ) (count first made : ℕ) → between ≡ old ++ rounds_from count first made → new ≡ between ++ round_from count first → new ≡ old ++ rounds_from count first (made + 1)
rounds-more old between new count first made before one =
    let next : suc made ≡ made + 1 = omega arith in
    one ∙ ap (λ l. l ++ round_from count first) before ∙ append_assoc old (rounds_from count first made) (round_from count first) ∙ ap (λ n. old ++ rounds_from count first n) next
