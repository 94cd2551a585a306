-- What the last state of a field says of its regions, where one seat has all shares and holds nothing.
use Rattle.std.specs.Prelude.{max, slice_index, sum_by}
use Rattle.std.proofs.Common.{◌≡◌, ℕ, zero, suc, ◌+◌, ◌-◌, ◌<◌, ◌≤◌, inl, inr, Bool, false, List, [], ◌∷◌, ◌++◌, length, take, get_or, set, refl, sym, ap, subst, ◌∙◌, arith}
use Rattle.std.proofs.lemmas.Bool.{cases_lt}
use Rattle.std.proofs.lemmas.List.Sums.{sum_by-cons}
use mathlib.Core.Option.{some, some-injective}
use lib.ListN.{get_elem?}
use Rattle.atomic_table.specs.Table.{Final, Seen}
use Rattle.atomic_table.proofs.Lists.{at_set}
use Rattle.region_cut.specs.Cuttings.{region_count}
use Rattle.region_cut.specs.LawfulSteps.{AreLawful}
use Rattle.region_step.specs.Region.{RegionValue}
use Rattle.region_step.specs.Regions.{HaveCome}
use Rattle.region_step.specs.Standing.{Stands}
use Rattle.border_rows.specs.Standing.{FieldState, IsStanding, steps_made, times_made}
use Rattle.border_rows.specs.Views.{times_in}
use Rattle.border_rows.specs.Words.{step_of, steps_of}
use Rattle.border_rows.specs.declared.view.PublishedStep.{PublishedStep}
use Rattle.border_rows.specs.declared.view.Terms.{Terms}
use Rattle.border_rows.specs.declared.view.View.{View}
use Rattle.border_rows.proofs.ClaimKinds.{whole_knowers, whole_spent, whole_spent-other}
use Rattle.border_rows.proofs.Counting.{sum-range-same}
use Rattle.border_rows.proofs.Logs.{times_made-one, times_made-other}
use Rattle.border_rows.proofs.LookKinds.{steps_of-at}
use Rattle.border_rows.proofs.ViewUpdates.{Contains-elem, sum-set}
use Rattle.region_slots.specs.Closing.{AreLogged, steps_since}

-- an item that stands there is read there
pub get_or-elem : {X : Type 0} (xs : List X) (i : ℕ) (x d : X) → get_elem? xs i ≡ some x → get_or xs i d ≡ x
get_or-elem [] i x d is = absurd cc
get_or-elem (y ∷ ys) zero x d is = some-injective y x is
get_or-elem (y ∷ ys) (suc i) x d is = get_or-elem ys i x d is

-- one item more of a list
take-suc : {X : Type 0} (xs : List X) (i : ℕ) (x : X) → get_elem? xs i ≡ some x → take (suc i) xs ≡ take i xs ++ x ∷ []
take-suc [] i x is = absurd cc
take-suc (y ∷ ys) zero x is = ap (λ z. z ∷ []) (some-injective y x is)
take-suc (y ∷ ys) (suc i) x is = ap (λ l. y ∷ l) (take-suc ys i x is)

pub take-more : {X : Type 0} (xs : List X) (i : ℕ) (x : X) → get_elem? xs i ≡ some x → take (i + 1) xs ≡ take i xs ++ x ∷ []
take-more xs i x is = let next : i + 1 ≡ suc i = omega arith in ap (λ n. take n xs) next ∙ take-suc xs i x is

-- where a mark was taken off, none is found
pub off-here : (marks : List Bool) (i : ℕ) → get_or (set marks i false) i false ≡ false
off-here [] i = refl
off-here (mark ∷ marks) zero = refl
off-here (mark ∷ marks) (suc i) = off-here marks i

-- a sum of terms that are all 0
none-sum : {X : Type 0} (f : X → ℕ) (xs : List X) → ((k : ℕ) (x : X) → get_elem? xs k ≡ some x → f x ≡ 0) → sum_by f xs ≡ 0
none-sum f [] none = refl
none-sum f (x ∷ xs) none =
    let first : f x ≡ 0 = none 0 x refl in
    let later : sum_by f xs ≡ 0 = none-sum f xs (λ k y is. none (suc k) y is) in
    omega (arith, first, later, sum_by-cons f x xs)

-- what counts nothing of an empty log counts of all logs what it counts of that of the seat with all shares
whole_logs : (terms : Terms) (s : FieldState) (id : ℕ) (view : View) (f : List PublishedStep → ℕ) → IsStanding terms s → get_elem? s.views id ≡ some view → view.share ≡ terms.seats → f [] ≡ 0 →
    sum_by (λ v. f v.log) s.views ≡ f view.log
whole_logs terms s id view f old is all empty =
    let gone : View = record view { log = [] } in
    let rest = sum-set (λ (v : View). f v.log) s.views id gone view is in
    let none : sum_by (λ v. f v.log) (set s.views id gone) ≡ 0 = none-sum (λ v. f v.log) (set s.views id gone) (λ k v here. elim (at_set s.views id k gone v here) [
      | inl own ↦ ap (λ (x : View). f x.log) (sym own.1) ∙ empty
      | inr other ↦ ap f (whole_spent-other terms s id k view v old is all other.0 other.1).log ∙ empty
    ]) in
    omega (arith, rest, none, empty)

-- the moves of the seat with all shares are those of all views
pub whole_moves : (terms : Terms) (s : FieldState) (id : ℕ) (view : View) → IsStanding terms s → get_elem? s.views id ≡ some view → view.share ≡ terms.seats →
    sum_by (λ v. length v.log) s.views ≡ length view.log
whole_moves terms s id view old is all = whole_logs terms s id view length old is all refl

-- so is what they count of each step
whole_logged : (terms : Terms) (s : FieldState) (id r step : ℕ) (view : View) → IsStanding terms s → get_elem? s.views id ≡ some view → view.share ≡ terms.seats →
    times_in view.log r step ≡ times_made terms.setup.now.chart terms.setup.now.start s.words r step
whole_logged terms s id r step view old is all =
    sym (whole_logs terms s id view (λ log. times_in log r step) old is all refl) ∙ old.counts.logged r step

-- no region stands past its start and past the reach of the seat with all shares
pub whole_reach : (terms : Terms) (s : FieldState) (id r : ℕ) (view : View) → IsStanding terms s → get_elem? s.views id ≡ some view → view.share ≡ terms.seats →
    r < region_count terms.setup.now.chart.cut → step_of terms.setup.now.chart s.words r ≤ max (slice_index terms.setup.now.start.steps r) view.reach
whole_reach terms s id r view old is all within = elim (old.counts.reach r within) [
  | inl low ↦ omega (arith, low)
  | inr far ↦ elim (whole_spent terms s id view far.0 old is all far.1) [
    | inl own ↦ omega (arith, far.2, ap (λ (v : View). v.reach) own)
    | inr gone ↦ omega (arith, far.2, gone.reach)
  ]
]

-- what is said of a field's regions when it is closed
pub record IsClosed (terms : Terms) (view : View) (steps : List ℕ) (regions : List RegionValue) : Type 0 where
  pub come : HaveCome terms.setup.now steps regions
  pub lawful : AreLawful terms.setup.now.net terms.setup.now.chart.cut steps
  pub later : (r : ℕ) → r < region_count terms.setup.now.chart.cut → slice_index view.seen r ≤ slice_index steps r
  pub reached : (r : ℕ) → r < region_count terms.setup.now.chart.cut → slice_index steps r ≤ max (slice_index terms.setup.now.start.steps r) view.reach
  pub moves : steps_since terms.setup.now.start (region_count terms.setup.now.chart.cut) steps ≡ length view.log
  pub logged : AreLogged terms.setup.now.start (region_count terms.setup.now.chart.cut) steps view.log

-- the steps since the start are those that were made
pub since-made : (terms : Terms) (words : List ℕ) →
    steps_since terms.setup.now.start (region_count terms.setup.now.chart.cut) (steps_of terms.setup.now.chart words) ≡ steps_made terms.setup.now.chart terms.setup.now.start words
since-made terms words =
    sum-range-same (λ r. slice_index (steps_of terms.setup.now.chart words) r - slice_index terms.setup.now.start.steps r)
    (λ r. step_of terms.setup.now.chart words r - slice_index terms.setup.now.start.steps r) (region_count terms.setup.now.chart.cut)
    (λ r within. ap (λ t. t - slice_index terms.setup.now.start.steps r) (steps_of-at terms.setup.now.chart words r within))

pub closing : (terms : Terms) (id : ℕ) (view : View) (words : List ℕ) (regions : List RegionValue) → view.share ≡ terms.seats → view.holds ≡ [] →
    Final (Seen (IsStanding terms) id view) words regions → IsClosed terms view (steps_of terms.setup.now.chart words) regions
closing terms id view words regions all empty (s, (old, is), same, long, homes) =
    let count : ℕ = region_count terms.setup.now.chart.cut in
    let stood : (r : ℕ) → r < count → slice_index (steps_of terms.setup.now.chart words) r ≡ step_of terms.setup.now.chart s.words r =
    λ r within. steps_of-at terms.setup.now.chart words r within ∙ ap (λ w. step_of terms.setup.now.chart w r) (sym same) in
    let lawful : AreLawful terms.setup.now.net terms.setup.now.chart.cut (steps_of terms.setup.now.chart words) = subst (λ w. AreLawful terms.setup.now.net terms.setup.now.chart.cut (steps_of terms.setup.now.chart w)) same old.steps.lawful in
    record {
      come = record {
        one_each = lawful.one_each;
        later = λ r within. omega (arith, old.steps.started r within, stood r within);
        stand = record {
          one_each = sym long ∙ old.claims.homes;
          each = λ q d within.
              let inside : q < count = omega (arith, within, long, old.claims.homes) in
              let (home, at, stands) = old.claims.at_home q inside (whole_knowers terms s id q view old is all empty) in
              subst (λ x. Stands terms.setup.now q (slice_index (steps_of terms.setup.now.chart words) q) x) (sym (get_or-elem regions q home d (homes q home at)))
              (subst (λ t. Stands terms.setup.now q t home) (sym (stood q inside)) stands);
        };
      };
      lawful = lawful;
      later = λ r within. omega (arith, old.counts.seen view r (Contains-elem s.views id view is) within, stood r within);
      reached = λ r within. omega (arith, whole_reach terms s id r view old is all within, stood r within);
      moves = since-made terms words ∙ ap (steps_made terms.setup.now.chart terms.setup.now.start) (sym same) ∙ sym old.counts.moves ∙ whole_moves terms s id view old is all;
      logged = record {
        each = λ r step within later there.
            whole_logged terms s id r step view old is all ∙ times_made-one terms.setup.now.chart terms.setup.now.start s.words r step within later (omega (arith, stood r within, there));
        others = λ r step other. whole_logged terms s id r step view old is all ∙ elim (cases_lt r count) [
          | inr past ↦ times_made-other terms.setup.now.chart terms.setup.now.start s.words r step (inl past)
          | inl within ↦ times_made-other terms.setup.now.chart terms.setup.now.start s.words r step (elim other [
            | inl past ↦ inl past
            | inr (inl early) ↦ inr (inl early)
            | inr (inr late) ↦ inr (inr (omega (arith, stood r within, late)))
          ])
        ];
      };
    }
