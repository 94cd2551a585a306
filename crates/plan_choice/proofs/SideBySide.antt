-- The delays of networks, one after the other.
use Rattle.std.specs.Prelude.{All, IfOk, Ok, Result, ◌^◌, map, slice_index_or, take}
use Rattle.std.proofs.Common.{◌≡◌, ℕ, ◌+◌, ◌<◌, List, [], ◌∷◌, ◌++◌, length, ap, arith, subst, sym, ◌∙◌}
use Rattle.std.proofs.lemmas.List.{map_more}
use Rattle.std.proofs.lemmas.List.Elements.{All-push}
use Rattle.no_memory.specs.declared.memory.NoMemory.{NoMemory}
use Rattle.network_file.specs.Network.{Network}
use Rattle.plan_choice.specs.Choice.{AreDelayResults, IsDelay, whole_delay}

-- those of the first networks, none of them large
pub record AreDelays (nets : List Network) (count : ℕ) (delays : List ℕ) : Type 0 where
  pub delays_are : delays ≡ map whole_delay (take count nets)
  pub few : All (λ delay. delay < 2 ^ 96) delays

found : (nets : List Network) (results : List (Result ℕ NoMemory)) (p delay : ℕ) (net : Network) → p < length nets → AreDelayResults nets results →
    slice_index_or results p (Ok 0) ≡ Ok delay → IsDelay (slice_index_or nets p net) delay
found nets results p delay net there are is = subst (λ result. IfOk result (IsDelay (slice_index_or nets p net))) is (are.each p net (Ok 0) there)

-- one more
pub more-delays : (nets : List Network) (results : List (Result ℕ NoMemory)) (p delay : ℕ) (delays : List ℕ) → p < length nets → AreDelayResults nets results →
    slice_index_or results p (Ok 0) ≡ Ok delay → AreDelays nets p delays → AreDelays nets (p + 1) (delays ++ delay ∷ [])
more-delays [] results p delay delays there are is so_far = absurd (omega arith)
more-delays (net ∷ nets) results p delay delays there are is so_far =
    let one = found (net ∷ nets) results p delay net there are is in
    record {
      delays_are = ap (λ front. front ++ delay ∷ []) so_far.delays_are ∙ ap (λ last. map whole_delay (take p (net ∷ nets)) ++ last ∷ []) one.is ∙
          sym (map_more whole_delay (net ∷ nets) p net there);
      few = All-push (λ d. d < 2 ^ 96) delays delay so_far.few one.small;
    }
