-- The members of a crew, and their nests.
use Rattle.std.specs.Prelude.{All, map, max, slice_index}
use Rattle.std.proofs.Common.{◌≡◌, ℕ, ◌<◌, ◌≤◌, inl, inr, List, [], ◌∷◌, ◌++◌, length, refl, sym, ap, subst, ◌∙◌, arith}
use Rattle.std.proofs.lemmas.Bool.{cases_lt}
use Rattle.std.proofs.lemmas.List.{get_or-map, get_or_append_left, get_or_past, length-append, length-map}
use Rattle.std.proofs.lemmas.List.Elements.{All-append, All-cons, All-map, All-nil}
use Rattle.std.proofs.lemmas.List.FromFn.{get_or-map-range_with_len}
use Rattle.border_rows.specs.Kinds.{united}
use Rattle.border_rows.specs.declared.view.View.{View}
use Rattle.region_cut.specs.Cuttings.{region_count}
use Rattle.region_slots.specs.FieldView.{FieldValue}
use Rattle.region_step.proofs.Lists.{pushed-at}
use Rattle.worker_claim.specs.Helping.{AreHelped, AreHelpersOf}
use Rattle.worker_claim.specs.declared.helper.Helper.{Helper}
use Rattle.worker_claim.specs.declared.member.Member.{Member}
use Rattle.network_run.specs.Crews.{AreHelpersFor}
use Rattle.network_run.specs.Enlisted.{AreEnlisted, IsEnlisted}

-- the members of helpers
abbrev pub members_of : List Helper → List Member
members_of helpers = map (λ helper. helper.member) helpers

-- one more, one fewer, and the last

pub All-one_more : {X : Type 0} (P : X → Type 0) (xs : List X) (x : X) → All P xs → P x → All P (xs ++ x ∷ [])
All-one_more P xs x all one = All-append P xs (x ∷ []) all (All-cons P x [] one (All-nil P))

pub All-fewer : {X : Type 0} (P : X → Type 0) (xs : List X) (x : X) → All P (xs ++ x ∷ []) → All P xs
All-fewer P xs x all = λ k d within. subst P (get_or_append_left xs (x ∷ []) d k within) (all k d (omega (arith, within, length-append xs (x ∷ []))))

pub All-last : {X : Type 0} (P : X → Type 0) (xs : List X) (x : X) → All P (xs ++ x ∷ []) → P x
All-last P xs x all = subst P (pushed-at xs x x (length xs) refl) (all (length xs) x (omega (arith, length-append xs (x ∷ []))))

-- what holds of each image holds of each element's
pub All-from_map : {X Y : Type 0} (P : Y → Type 0) (f : X → Y) (xs : List X) → All P (map f xs) → All (λ x. P (f x)) xs
All-from_map P f xs all = λ k d within. subst P (get_or-map f xs k d (f d) within) (all k (f d) (omega (arith, within, length-map xs f)))

-- helpers whose members are enlisted, with nests for the field's regions
pub helpers-of : (field : FieldValue) (goal workers regions : ℕ) (helpers : List Helper) → regions ≡ region_count field.terms.setup.now.chart.cut →
    AreEnlisted field goal (members_of helpers) → AreHelpersFor workers regions helpers → AreHelpersOf field helpers
helpers-of field goal workers regions helpers many enlisted nests = λ k d within. record {
  member = (All-from_map (IsEnlisted field goal) (λ (helper : Helper). helper.member) helpers enlisted k d within).belongs;
  nest = ap (λ nest. nest.regions) (nests k d within) ∙ many;
}

-- after their turns the members are still enlisted
pub enlisted-helped : (field : FieldValue) (goal sweeps : ℕ) (old new : List Helper) → AreEnlisted field goal (members_of old) → AreHelped field goal sweeps old new →
    AreEnlisted field goal (members_of new)
enlisted-helped field goal sweeps old new all helped =
    All-map (IsEnlisted field goal) (λ (helper : Helper). helper.member) new (λ k d within.
    let inside : k < length old = omega (arith, within, helped.one_each) in
    let was = All-from_map (IsEnlisted field goal) (λ (helper : Helper). helper.member) old all k d inside in
    let is = helped.each k d inside in
    record {
      belongs = record { belongs = is.kept.belongs; there = omega (arith, is.kept.first, was.belongs.there) };
      share = is.helped.keeps.share ∙ was.share;
      reach = omega (arith, is.helped.keeps.reach, was.reach);
    })

-- and the nests are theirs
pub nests-kept : (field : FieldValue) (goal sweeps workers regions : ℕ) (old new : List Helper) → AreHelpersFor workers regions old → AreHelped field goal sweeps old new →
    AreHelpersFor workers regions new
nests-kept field goal sweeps workers regions old new nests helped = λ k d within.
    let inside : k < length old = omega (arith, within, helped.one_each) in (helped.each k d inside).kept.nest ∙ nests k d inside

-- the last of some helpers is enlisted, where their members are
pub last-enlisted : (field : FieldValue) (goal : ℕ) (members : List Member) (helpers left : List Helper) (helper : Helper) → members_of helpers ≡ members → helpers ≡ left ++ helper ∷ [] →
    AreEnlisted field goal members → IsEnlisted field goal helper.member
last-enlisted field goal members helpers left helper are split all =
    All-last (λ (h : Helper). IsEnlisted field goal h.member) left helper (subst (λ (hs : List Helper). All (λ (h : Helper). IsEnlisted field goal h.member) hs) split
    (All-from_map (IsEnlisted field goal) (λ (h : Helper). h.member) helpers (subst (AreEnlisted field goal) (sym are) all)))

-- two passes that become one have seen no less
pub united-later : (view other : View) (r : ℕ) → slice_index view.seen r ≤ slice_index (united view other).seen r
united-later view other r = elim (cases_lt r (length view.seen)) [
  | inl within ↦ omega (arith, get_or-map-range_with_len (λ q. max (slice_index view.seen q) (slice_index other.seen q)) 0 (length view.seen) r r 0 within (omega arith))
  | inr past ↦ omega (arith, get_or_past view.seen r 0 past)
]
