-- Runs found from the last one on: what those found and the most before them have inside.
use Rattle.std.specs.Prelude.{All, reverse, sum}
use Rattle.std.proofs.Common.{◌≡◌, ℕ, ◌≤◌, ◌+◌, ◌-◌, ◌*◌, List, [], ◌∷◌, ◌++◌, length, inl, inr, refl, ap, ◌∙◌, arith}
use Rattle.std.proofs.lemmas.List.{reverse-append}
use Rattle.std.proofs.lemmas.List.Elements.{All-cons}
use Rattle.cut_grow.specs.BestRuns.{AreBestRuns, IsSize}
use Rattle.cut_grow.specs.Most.{most, start_of}
use Rattle.cut_grow.specs.Spans.{inside, inside_runs}
use Rattle.cut_grow.specs.declared.sizes.Sizes.{Sizes}
use Rattle.cut_grow.specs.declared.span.Span.{Span}
use Rattle.cut_grow.proofs.MostRuns.{most-none}
use Rattle.cut_grow.proofs.RunNumbers.{sum-cons}

-- runs that follow so many small and large ones
pub record AreLastRuns (sizes : Sizes) (spans : List Span) (small large : ℕ) (runs : List ℕ) : Type 0 where
  pub in_smalls : small ≤ sizes.smalls
  pub in_larges : large ≤ sizes.larges
  pub long : length runs + small + large ≡ sizes.smalls + sizes.larges
  pub each : All (IsSize sizes) runs
  pub whole : sum runs + start_of sizes.floor small large ≡ start_of sizes.floor sizes.smalls sizes.larges
  pub best : most spans sizes.floor small large + inside_runs spans (start_of sizes.floor small large) runs ≡ most spans sizes.floor sizes.smalls sizes.larges

pub last-small : (sizes : Sizes) (spans : List Span) (small large : ℕ) (runs : List ℕ) → AreLastRuns sizes spans small large runs → 1 ≤ small →
    most spans sizes.floor small large ≡ most spans sizes.floor (small - 1) large + inside spans (start_of sizes.floor (small - 1) large) sizes.floor →
    AreLastRuns sizes spans (small - 1) large (sizes.floor ∷ runs)
last-small sizes spans small large runs before some is =
    let product : small * sizes.floor ≡ (small - 1 + 1) * sizes.floor = (let one : small ≡ small - 1 + 1 = omega arith in ap (λ n. n * sizes.floor) one) in
    let next : start_of sizes.floor (small - 1) large + sizes.floor ≡ start_of sizes.floor small large = omega (arith, product) in
    record {
      in_smalls = omega (arith, before.in_smalls);
      in_larges = before.in_larges;
      long = omega (arith, before.long);
      each = All-cons (IsSize sizes) sizes.floor runs (inl refl) before.each;
      whole = omega (arith, before.whole, next, sum-cons sizes.floor runs);
      best = omega (arith, before.best, is, ap (λ from. inside_runs spans from runs) next);
    }

pub last-large : (sizes : Sizes) (spans : List Span) (small large : ℕ) (runs : List ℕ) → AreLastRuns sizes spans small large runs → 1 ≤ large →
    most spans sizes.floor small large ≡ most spans sizes.floor small (large - 1) + inside spans (start_of sizes.floor small (large - 1)) (sizes.floor + 1) →
    AreLastRuns sizes spans small (large - 1) ((sizes.floor + 1) ∷ runs)
last-large sizes spans small large runs before some is =
    let product : large * (sizes.floor + 1) ≡ (large - 1 + 1) * (sizes.floor + 1) = (let one : large ≡ large - 1 + 1 = omega arith in ap (λ n. n * (sizes.floor + 1)) one) in
    let next : start_of sizes.floor small (large - 1) + (sizes.floor + 1) ≡ start_of sizes.floor small large = omega (arith, product) in
    record {
      in_smalls = before.in_smalls;
      in_larges = omega (arith, before.in_larges);
      long = omega (arith, before.long);
      each = All-cons (IsSize sizes) (sizes.floor + 1) runs (inr (refl, omega (arith, before.in_larges))) before.each;
      whole = omega (arith, before.whole, next, sum-cons (sizes.floor + 1) runs);
      best = omega (arith, before.best, is, ap (λ from. inside_runs spans from runs) next);
    }

-- of all runs
pub last-all : (sizes : Sizes) (spans : List Span) (small large : ℕ) (runs : List ℕ) → AreLastRuns sizes spans small large runs → small ≡ 0 → large ≡ 0 →
    AreBestRuns sizes spans runs
last-all sizes spans small large runs last no_small no_large =
    let start : start_of sizes.floor small large ≡ 0 =
    ap (λ n. start_of sizes.floor n large) no_small ∙ ap (start_of sizes.floor 0) no_large ∙ omega arith in
    let none : most spans sizes.floor small large ≡ 0 =
    ap (λ n. most spans sizes.floor n large) no_small ∙ ap (most spans sizes.floor 0) no_large ∙ most-none spans sizes.floor in
    record {
      long = omega (arith, last.long, no_small, no_large);
      each = last.each;
      whole = omega (arith, last.whole, start);
      best = omega (arith, last.best, none, ap (λ from. inside_runs spans from runs) start);
    }

-- a list that was pushed to, from behind
pub reverse-push : (xs : List ℕ) (x : ℕ) → reverse (xs ++ x ∷ []) ≡ x ∷ reverse xs
reverse-push xs x = reverse-append xs (x ∷ [])
