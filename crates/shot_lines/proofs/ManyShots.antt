-- The shots of a run, one after the other.
use Rattle.std.specs.Prelude.{flat_map}
use Rattle.std.specs.List.{range_with_len}
use Rattle.std.proofs.Common.{◌≡◌, ℕ, ◌+◌, ◌<◌, inl, inr, List, [], ◌∷◌, ◌++◌, length, sym, ap, subst, ◌∙◌, arith}
use Rattle.std.proofs.Math.ListN.{get_or-append}
use Rattle.std.proofs.Math.Seq.{get_or-append_seam}
use Rattle.std.proofs.lemmas.Bool.{cases_eq}
use Rattle.std.proofs.lemmas.List.{length-append}
use Rattle.network_file.specs.Network.{Network}
use Rattle.line_fields.specs.Fields.{lines_of}
use Rattle.line_fields.proofs.Lines.{lines_of-more, lines_of-same}
use Rattle.region_cut.specs.Chart.{list_at}
use Rattle.snapshot.specs.Shots.{AreStepsBetween, goal_of, rows_at}
use Rattle.shot_lines.specs.ShotText.{shot_lines}

-- the text of a shot, whose rows are those of the plain recurrences
abbrev pub shot_of : Network → (cut : List ℕ) → (number : ℕ) → (steps : List ℕ) → List ℕ
shot_of net cut number steps = shot_lines net cut number steps (rows_at net cut steps)

-- the text of the first shots, `count` of `shots` that are taken in all
pub record AreFirstShots (net : Network) (cut : List ℕ) (shots count : ℕ) (text : List ℕ) : Type 0 where
  pub steps : List (List ℕ)
  pub one_each : length steps ≡ count
  pub each : (i : ℕ) → i < count → AreStepsBetween net cut (goal_of net.steps shots i) (goal_of net.steps shots (i + 1)) (list_at steps i)
  pub lines : text ≡ flat_map (λ i. shot_of net cut (i + 1) (list_at steps i)) (range_with_len 0 count)

-- one shot more, and what holds of each
pub shots-more : (Holds : ℕ → List ℕ → Type 0) (net : Network) (cut : List ℕ) (shots k : ℕ) (text steps : List ℕ) (are : AreFirstShots net cut shots k text) →
    ((i : ℕ) → i < k → Holds i (list_at are.steps i)) → AreStepsBetween net cut (goal_of net.steps shots k) (goal_of net.steps shots (k + 1)) steps → Holds k steps →
    (more : AreFirstShots net cut shots (k + 1) (text ++ shot_of net cut (k + 1) steps)) × ((i : ℕ) → i < k + 1 → Holds i (list_at more.steps i))
unfolding lines_of
shots-more Holds net cut shots k text steps are hold next here =
    let all : List (List ℕ) = are.steps ++ steps ∷ [] in
    let line : List (List ℕ) → ℕ → List ℕ = λ taken i. shot_of net cut (i + 1) (list_at taken i) in
    let front : (i : ℕ) → i < k → list_at are.steps i ≡ list_at all i = λ i before. sym (get_or-append are.steps (steps ∷ []) [] i (omega (arith, before, are.one_each))) in
    let last : steps ≡ list_at all k = sym (get_or-append_seam are.steps steps [] []) ∙ ap (list_at all) are.one_each in
    let each : (Each : ℕ → List ℕ → Type 0) → ((i : ℕ) → i < k → Each i (list_at are.steps i)) → Each k steps → (i : ℕ) → i < k + 1 → Each i (list_at all i) = λ Each earlier now i within. elim (cases_eq i k) [
      | inl is ↦ subst (λ j. Each j (list_at all j)) (sym is) (subst (Each k) last now)
      | inr other ↦ let before : i < k = omega (arith, within, other) in subst (Each i) (front i before) (earlier i before)
    ] in (
      record {
        steps = all;
        one_each = length-append are.steps (steps ∷ []) ∙ ap (λ n. n + 1) are.one_each;
        each = each (λ i. AreStepsBetween net cut (goal_of net.steps shots i) (goal_of net.steps shots (i + 1))) are.each next;
        lines = ap (λ begun. begun ++ shot_of net cut (k + 1) steps) (are.lines ∙ lines_of-same (line are.steps) (line all) k (λ i before. ap (shot_of net cut (i + 1)) (front i before))) ∙
            ap (λ taken. lines_of (line all) k ++ shot_of net cut (k + 1) taken) last ∙ sym (lines_of-more (line all) k);
      },
      each Holds hold here,
    )
