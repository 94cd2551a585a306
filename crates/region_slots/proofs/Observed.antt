-- Logs whose new steps were told.
use Rattle.std.specs.Prelude.{slice_index}
use Rattle.std.specs.List.{Contains}
use Rattle.std.proofs.Common.{◌≡◌, ◌⊎◌, ℕ, zero, suc, ◌+◌, ◌-◌, ◌≤◌, inl, inr, List, ◌∷◌, refl, sym, ap, subst, arith}
use Rattle.border_rows.specs.Kinds.{found_taken}
use Rattle.border_rows.specs.declared.view.PublishedStep.{PublishedStep}
use Rattle.border_rows.specs.declared.view.Terms.{Terms}
use Rattle.border_rows.specs.declared.view.View.{View}
use Rattle.region_slots.specs.Moments.{AreTold}
use Rattle.region_slots.specs.Turning.{IsBehind, IsMoved, took_at}
use Rattle.region_slots.specs.declared.turn.Turn.{Turn}
use Rattle.region_slots.specs.declared.turn.Turn.TheVariants.{Behind, Ended, Held, Moved}

-- nothing new
pub told-none : (held freed : ℕ → ℕ → Type 0) (log : List PublishedStep) → AreTold held freed log log
told-none held freed log = λ entry has. inl has

told-same : (held freed : ℕ → ℕ → Type 0) (old new : List PublishedStep) → new ≡ old → AreTold held freed old new
told-same held freed old new same = λ entry has. inl (subst (λ log. Contains log entry) same has)

-- something new, and then more
pub told-more : (held freed : ℕ → ℕ → Type 0) (old between new : List PublishedStep) → AreTold held freed old between → AreTold held freed between new → AreTold held freed old new
told-more held freed old between new before after = λ entry has. elim (after entry has) [
  | inl was ↦ before entry was
  | inr told ↦ inr told
]

-- one step more
told-one : (held freed : ℕ → ℕ → Type 0) (old : List PublishedStep) (one entry : PublishedStep) → held one.region (one.step - 1) × freed one.region one.step → Contains (one ∷ old) entry →
    Contains old entry ⊎ (held entry.region (entry.step - 1) × freed entry.region entry.step)
told-one held freed old one entry told (zero, within, is) = inr (subst (λ (e : PublishedStep). held e.region (e.step - 1) × freed e.region e.step) is told)
told-one held freed old one entry told (suc k, within, is) = inl (k, omega (arith, within), is)

-- whatever came of a turn
pub told-turn : (held freed : ℕ → ℕ → Type 0) (terms : Terms) (old new : View) (goal r : ℕ) (answer : Turn) → (answer ≡ Held → new ≡ found_taken old r) →
    ((s : ℕ) → answer ≡ Ended s → (goal ≤ s) × (new ≡ took_at old r s) × (slice_index new.seen r ≡ s) × (slice_index old.seen r ≤ s)) →
    ((q s : ℕ) → answer ≡ Behind q s → IsBehind terms old new goal r q s) → ((s : ℕ) → answer ≡ Moved s → IsMoved terms old new goal r s) →
    ((s : ℕ) → answer ≡ Moved (s + 1) → held r s × freed r (s + 1)) → AreTold held freed old.log new.log
told-turn held freed terms old new goal r Held is_held ended behind moved told = told-same held freed old.log new.log (ap (λ (v : View). v.log) (is_held refl))
told-turn held freed terms old new goal r (Ended s) is_held ended behind moved told = told-same held freed old.log new.log (ap (λ (v : View). v.log) (ended s refl).1)
told-turn held freed terms old new goal r (Behind q s) is_held ended behind moved told = told-same held freed old.log new.log (behind q s refl).still.log
told-turn held freed terms old new goal r (Moved s) is_held ended behind moved told =
    let is = moved s refl in
    let next : s ≡ s - 1 + 1 = omega (arith, is.own) in
    let were = told (s - 1) (ap Moved next) in
    λ entry has. told-one held freed old.log (record { region = r; step = s }) entry (were.0, subst (freed r) (sym next) were.1) (subst (λ log. Contains log entry) is.log has)
