-- The weights of a network's connectors are within range.
use Rattle.std.specs.Prelude.{All}
use Rattle.std.proofs.Common.{◌≡◌, ℕ, ◌≤◌, sym, subst}
use Rattle.std.proofs.lemmas.List.Elements.{All-weaker}
use Rattle.step_plan.specs.Records.{TurnRecord}
use Rattle.step_plan.specs.Sound.{IsSoundTurn}
use Rattle.step_plan.specs.Turning.{shares_at}
use Rattle.step_plan.specs.Limits.{most_steps}
use Rattle.step_plan.proofs.Laws.{shares_at-all}
use Rattle.network_file.specs.Network.{Network}
use Rattle.network_file.specs.Sound.{IsNetwork}
use Rattle.network_file.proofs.PlanFacts.{all-planned}
use Rattle.timelines.specs.Timelines.{TimelineValue, value_at}
use Rattle.connector_flow.specs.Weights.{AreBoth, AreWeights, IsWeight}

-- those that never change
pub constant-within : (weights : TimelineValue (ℕ × ℕ)) (a b : ℕ) → ((t : ℕ) → value_at weights t ≡ (a, b)) → IsWeight a → IsWeight b → AreWeights weights
constant-within weights a b is first second = λ t. subst (λ pair. AreBoth pair) (sym (is t)) (record { first = first; second = second })

-- turning shares
pub shares-within : (net : Network) (weights : TimelineValue (ℕ × ℕ)) (up b1 b2 : ℕ) → IsNetwork net → IsWeight b1 → IsWeight b2 →
    ((t : ℕ) → value_at weights t ≡ shares_at net.plan up t (b1, b2)) → AreWeights weights
shares-within net weights up b1 b2 sound first second is =
    let turns : All (λ planned. All (λ turn. AreBoth (turn.b1, turn.b2)) planned.records.turns) net.plan.cells =
    all-planned (λ planned. All (λ turn. AreBoth (turn.b1, turn.b2)) planned.records.turns) net sound
    (λ k planned fits. All-weaker (λ (turn : TurnRecord). (turn.to ≤ most_steps) × IsSoundTurn turn) (λ turn. AreBoth (turn.b1, turn.b2))
    (λ turn within. record { first = (within.1.some_first, within.1.first); second = (within.1.some_second, within.1.second) })
    planned.records.turns fits.turns) in
    λ t. subst (λ pair. AreBoth pair) (sym (is t)) (shares_at-all AreBoth net.plan up t (b1, b2) (record { first = first; second = second }) turns)
