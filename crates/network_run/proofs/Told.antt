-- What the observer of a run was told, from part to part.
use Rattle.std.specs.Prelude.{All, ◌==◌, ◌&&◌, if◌then◌else◌, slice_index, slice_index_or}
use Rattle.std.specs.List.{Contains}
use Rattle.std.proofs.Common.{◌≡◌, ℕ, suc, ◌+◌, ◌-◌, ◌<◌, ◌≤◌, inl, inr, List, [], ◌∷◌, ◌++◌, length, get_or, refl, sym, ap, subst, ◌∙◌, arith}
use Rattle.std.proofs.lemmas.Bool.{cases_eq, ne_eqb}
use Rattle.std.proofs.lemmas.List.{get_or-map, length-map}
use Rattle.std.proofs.lemmas.List.Sums.{sum_by-cons}
use Rattle.std.proofs.lemmas.List.Elements.{Contains-append_cases, Contains-append_left, Contains-append_right}
use Rattle.std.proofs.Math.Bool.{and-false}
use Rattle.region_cut.specs.Cuttings.{region_count}
use Rattle.region_step.specs.Start.{StartLists}
use Rattle.border_rows.specs.Views.{times_in}
use Rattle.border_rows.specs.declared.view.PublishedStep.{PublishedStep}
use Rattle.region_slots.specs.Closing.{AreLogged}
use Rattle.region_slots.specs.Moments.{AreTold}
use Rattle.region_slots.specs.CutRun.{CutRun}
use Rattle.worker_claim.specs.Telling.{AreHelpersTold, AreMembersTold}
use Rattle.worker_claim.specs.declared.helper.Helper.{Helper}
use Rattle.worker_claim.specs.declared.member.Member.{Member}
use Rattle.region_slots.proofs.Observed.{told-more, told-none}
use Rattle.network_run.specs.Run.{HasLogged, AreFrom}
use Rattle.network_run.specs.Telling.{HasTold, Telling}
use Rattle.network_run.proofs.Crewing.{members_of}

-- members that have made no turn
pub members_none : (held freed : ℕ → ℕ → Type 0) (members : List Member) → AreMembersTold held freed members members
members_none held freed members = record { each = λ k d within. told-none held freed (slice_index_or members k d).pass.knows.log }

-- some turns, and then others
pub members_more : (held freed : ℕ → ℕ → Type 0) (old between new : List Member) → length between ≡ length old → AreMembersTold held freed old between → AreMembersTold held freed between new →
    AreMembersTold held freed old new
members_more held freed old between new long before after = record {
  each = λ k d within.
      told-more held freed (slice_index_or old k d).pass.knows.log (slice_index_or between k d).pass.knows.log (slice_index_or new k d).pass.knows.log (before.each k d within)
      (after.each k d (omega (arith, within, long)));
}

-- what helpers have published their members have
pub helpers-told : (held freed : ℕ → ℕ → Type 0) (old new : List Helper) → length new ≡ length old → AreHelpersTold held freed old new → AreMembersTold held freed (members_of old) (members_of new)
helpers-told held freed [] new long told = record { each = λ k d within. absurd (omega (arith, within)) }
helpers-told held freed (x ∷ xs) new long told = record {
  each = λ k d within.
      let member : Helper → Member = λ helper. helper.member in
      let inside : k < length (x ∷ xs) = omega (arith, within, length-map (x ∷ xs) member) in
      subst (λ (m : Member). AreTold held freed m.pass.knows.log (get_or (members_of new) k d).pass.knows.log) (sym (get_or-map member (x ∷ xs) k x d inside))
      (subst (λ (m : Member). AreTold held freed (get_or (x ∷ xs) k x).member.pass.knows.log m.pass.knows.log) (sym (get_or-map member new k x d (omega (arith, inside, long)))) (told.each k x inside));
}

-- one member more is united
pub from-more : (own : List PublishedStep) (members left : List Member) (member : Member) (old new : List PublishedStep) → ((m : Member) → Contains (left ++ member ∷ []) m → Contains members m) →
    AreFrom own members old → new ≡ old ++ member.pass.knows.log → AreFrom own members new
from-more own members left member old new among from more = λ entry has.
    elim (Contains-append_cases old member.pass.knows.log entry (subst (λ log. Contains log entry) more has)) [
      | inl was ↦ from entry was
      | inr here ↦ inr (member, among member (Contains-append_right left (member ∷ []) member (0, omega arith, refl)), here)
    ]

pub among-more : (members left : List Member) (member : Member) → ((m : Member) → Contains (left ++ member ∷ []) m → Contains members m) → (m : Member) → Contains left m → Contains members m
among-more members left member among m has = among m (Contains-append_left left (member ∷ []) m has)

-- members that had published nothing have taken their turns and are united, and the caller has finished
pub told-taken : (held freed : ℕ → ℕ → Type 0) (own between last : List PublishedStep) (before after : List Member) → length after ≡ length before →
    All (λ (member : Member). member.pass.knows.log ≡ []) before → AreMembersTold held freed before after → AreFrom own after between → AreTold held freed between last → AreTold held freed own last
told-taken held freed own between last before after long nothing told from finished =
    told-more held freed own between last (λ entry has. elim (from entry has) [
      | inl was ↦ inl was
      | inr (member, (k, within, is), here) ↦
          let inside : k < length before = omega (arith, within, long) in
          elim (told.each k member inside entry (subst (λ (m : Member). Contains m.pass.knows.log entry) (sym is) here)) [
            | inl was ↦ let none : Contains [] entry = subst (λ log. Contains log entry) (nothing k member inside) was in absurd (omega (arith, none.1))
            | inr new ↦ inr new
          ]
    ])
    finished

-- what is counted in a log stands there
times-Contains : (log : List PublishedStep) (r s : ℕ) → 1 ≤ times_in log r s → Contains log (record { region = r; step = s })
times-Contains [] r s some = absurd (omega (arith, some))
times-Contains (entry ∷ log) r s some =
    let count = sum_by-cons (λ (e : PublishedStep). if (e.region == r) && (e.step == s) then 1 else 0) entry log in
    let later : times_in log r s ≡ times_in (entry ∷ log) r s → Contains (entry ∷ log) (record { region = r; step = s }) = λ same.
    let has = times-Contains log r s (omega (arith, some, same)) in (suc has.0, omega (arith, has.1), has.2) in
    elim (cases_eq entry.region r) [
      | inr other ↦
          let none : ◌≡◌ {A = ℕ} (if (entry.region == r) && (entry.step == s) then 1 else 0) 0 = rw (ne_eqb entry.region r other) refl in
          later (omega (arith, count, none))
      | inl own ↦ elim (cases_eq entry.step s) [
        | inr other ↦
            let none : ◌≡◌ {A = ℕ} (if (entry.region == r) && (entry.step == s) then 1 else 0) 0 = rw (ne_eqb entry.step s other, and-false (entry.region == r)) refl in
            later (omega (arith, count, none))
        | inl also ↦ (0, omega arith, ap (λ n. record { region = n; step = entry.step }) own ∙ ap (λ n. record { region = r; step = n }) also)
      ]
    ]

-- the log of regions that have all come to a goal or past it
pub logged-ended : (start : StartLists) (count : ℕ) (steps : List ℕ) (log : List PublishedStep) (goal : ℕ) → AreLogged start count steps log →
    ((r : ℕ) → r < count → goal ≤ slice_index steps r) → HasLogged count start.steps goal log
logged-ended start count steps log goal logged reach = λ r s within started below.
    let once : times_in log r (s + 1) ≡ 1 = logged.each r (s + 1) within (omega (arith, started)) (omega (arith, reach r within, below)) in
    times-Contains log r (s + 1) (omega (arith, once))

-- what was told of such a log
pub told-logged : (held freed : Telling) (run : CutRun) (goal : ℕ) (log : List PublishedStep) → HasLogged (region_count run.cut) run.start.steps goal log →
    AreTold (held run) (freed run) [] log → HasTold held freed run goal
told-logged held freed run goal log logged told = λ r s within started below.
    let before : s + 1 - 1 ≡ s = omega arith in
    elim (told (record { region = r; step = s + 1 }) (logged r s within started below)) [
      | inl was ↦ absurd (omega (arith, was.1))
      | inr both ↦ (subst (held run r) before both.0, both.1)
    ]
