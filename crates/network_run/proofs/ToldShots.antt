-- Shots that were told, one after the other.
use Rattle.std.proofs.Common.{◌≡◌, ℕ, ◌+◌, ◌<◌, ◌++◌, List, sym, subst}
use Rattle.network_file.specs.Network.{Network}
use Rattle.region_cut.specs.Chart.{list_at}
use Rattle.snapshot.specs.Shots.{AreStepsBetween, goal_of}
use Rattle.shot_lines.specs.Shots.{AreShots}
use Rattle.shot_lines.proofs.ManyShots.{AreFirstShots, shot_of, shots-more}
use Rattle.region_slots.specs.CutRun.{CutRun}
use Rattle.network_run.specs.ToldShots.{AreToldShots, HasToldShot, TellingOfShots, TellingOfWatchers}

-- the first shots, and what was told of them
abbrev pub AreFirstTold : TellingOfWatchers → TellingOfShots → CutRun → Network → (cut : List ℕ) → (shots count : ℕ) → (text : List ℕ) → Type 0
AreFirstTold watching watched run net cut shots count text =
    (are : AreFirstShots net cut shots count text) × ((k : ℕ) → k < count → HasToldShot watching watched run (goal_of net.steps shots k) (list_at are.steps k))

-- one shot more
pub first_told-more : (watching : TellingOfWatchers) (watched : TellingOfShots) (run : CutRun) (net : Network) (cut : List ℕ) (shots k : ℕ) (text steps : List ℕ) →
    AreFirstTold watching watched run net cut shots k text → AreStepsBetween net cut (goal_of net.steps shots k) (goal_of net.steps shots (k + 1)) steps →
    HasToldShot watching watched run (goal_of net.steps shots k) steps → AreFirstTold watching watched run net cut shots (k + 1) (text ++ shot_of net cut (k + 1) steps)
first_told-more watching watched run net cut shots k text steps (are, told) next here =
    shots-more (λ i. HasToldShot watching watched run (goal_of net.steps shots i)) net cut shots k text steps are told next here

-- all of them
pub first_told-all : (watching : TellingOfWatchers) (watched : TellingOfShots) (run : CutRun) (net : Network) (cut : List ℕ) (shots : ℕ) (text : List ℕ) → run.net ≡ net → run.cut ≡ cut →
    AreFirstTold watching watched run net cut shots shots text → AreToldShots watching watched run shots text
first_told-all watching watched run net cut shots text same_net same_cut (are, told) =
    let all : AreShots net cut shots text = record { steps = are.steps; one_each = are.one_each; each = are.each; lines = are.lines } in
    subst (λ (n : Network). (a : AreShots n run.cut shots text) × ((k : ℕ) → k < shots → HasToldShot watching watched run (goal_of n.steps shots k) (list_at a.steps k))) (sym same_net)
    (subst (λ (c : List ℕ). (a : AreShots net c shots text) × ((k : ℕ) → k < shots → HasToldShot watching watched run (goal_of net.steps shots k) (list_at a.steps k))) (sym same_cut) (all, told))
