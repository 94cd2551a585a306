-- Tables of the connectors of each cell, by side.
use Rattle.std.specs.Prelude.{count_by, eqb, nat_lt, ◌&&◌, ◌||◌}
use Rattle.std.specs.List.{list_any}
use Rattle.std.proofs.Common.{◌≡◌, ℕ, zero, suc, ◌<◌, ◌≤◌, ◌+◌, ◌⊎◌, Bool, true, false, List, [], ◌∷◌, length, get_or, set, inl, inr, sym, refl, ap, subst, ◌∙◌, arith}
use Rattle.std.proofs.lemmas.Bool.{and_from, and_parts, cases_eq, cases_lt, eq-eqb, lt-ltb, ltb-true, ne_eqb, or_cases, or_from, or_left, or_right}
use Rattle.std.proofs.lemmas.List.{get_or-set_other, get_or-set_same, get_or_default, length-set}
use Rattle.std.proofs.lemmas.List.Elements.{Contains-get_or}
use Rattle.std.proofs.lemmas.List.Folds.{list_any-append}
use Rattle.step_plan.proofs.Sums.{count_by-cons, count_by-some}
use Rattle.network_file.specs.Connectors.{are_joined, downstream_of, touches, upstream_of}
use Rattle.network_file.specs.Numbered.{connector_at}
use Rattle.network_file.specs.declared.connector.Connector.{Connector}
use Rattle.network_file.specs.declared.connector.Connector.TheVariants.{Link}
use Rattle.region_cut.proofs.Anys.{finds, found, same_tests}
use Rattle.cut_grow.proofs.Counted.{counted, true-not_false}
use Rattle.cut_grow.specs.Sides.{AreJoints, IsSideTable, has_on, touches_at}
use Rattle.cut_grow.specs.declared.side.Side.{Side}
use Rattle.cut_grow.specs.declared.side.Side.TheVariants.{Upstream, Downstream}

-- of a list in which at most one passes, the places of two that pass are one
only-one : {X : Type 0} (p : X → Bool) (xs : List X) (a b : ℕ) (d : X) → count_by p xs ≤ 1 → a < length xs → b < length xs →
    p (get_or xs a d) ≡ true → p (get_or xs b d) ≡ true → a ≡ b
only-one p [] a b d few first second at_first at_second = absurd (omega arith)
only-one p (x ∷ xs) zero zero d few first second at_first at_second = refl
only-one p (x ∷ xs) zero (suc b) d few first second at_first at_second =
    absurd (omega (arith, count_by-cons p x xs, counted (p x) at_first, count_by-some p xs b d (omega arith) at_second))
only-one p (x ∷ xs) (suc a) zero d few first second at_first at_second =
    absurd (omega (arith, count_by-cons p x xs, counted (p x) at_second, count_by-some p xs a d (omega arith) at_first))
only-one p (x ∷ xs) (suc a) (suc b) d few first second at_first at_second =
    ap suc (only-one p xs a b d (omega (arith, count_by-cons p x xs)) (omega arith) (omega arith) at_first at_second)

-- what a cell's entry is after one connector more
after : (side : Side) (cells : ℕ) (connectors : List Connector) (k a b i : ℕ) (table : List ℕ) → length table ≡ cells → a < cells → b < cells →
    list_any (eqb i) (a ∷ b ∷ []) ≡ has_on side i (connector_at connectors k) →
    ((get_or (set (set table a k) b k) i 0 ≡ k) × (has_on side i (connector_at connectors k) ≡ true)) ⊎
    ((get_or (set (set table a k) b k) i 0 ≡ get_or table i 0) × (has_on side i (connector_at connectors k) ≡ false))
after side cells connectors k a b i table long first second same = elim (cases_eq i b) [
  | inl second_here ↦ inl (
    ap (λ j. get_or (set (set table a k) b k) j 0) second_here ∙ get_or-set_same (set table a k) b k 0 (omega (arith, length-set table a k)),
    sym same ∙ or_right (eqb i a) (eqb i b || false) (or_left (eqb i b) false (eq-eqb i b second_here)),
  )
  | inr not_second ↦ elim (cases_eq i a) [
    | inl first_here ↦ inl (
      get_or-set_other (set table a k) b i k 0 not_second ∙ ap (λ j. get_or (set table a k) j 0) first_here ∙ get_or-set_same table a k 0 (omega (arith, long)),
      sym same ∙ or_left (eqb i a) (eqb i b || false) (eq-eqb i a first_here),
    )
    | inr not_first ↦ inr (
      get_or-set_other (set table a k) b i k 0 not_second ∙ get_or-set_other table a i k 0 not_first,
      sym same ∙ or_from (eqb i a) (eqb i b || false) (ne_eqb i a not_first) (or_from (eqb i b) false (ne_eqb i b not_second) refl),
    )
  ]
]

pub side-more : (side : Side) (cells : ℕ) (connectors : List Connector) (k a b : ℕ) (table : List ℕ) → IsSideTable side cells connectors k table →
    k < length connectors → a < cells → b < cells → ((i : ℕ) → list_any (eqb i) (a ∷ b ∷ []) ≡ has_on side i (connector_at connectors k)) →
    IsSideTable side cells connectors (k + 1) (set (set table a k) b k)
side-more side cells connectors k a b table before there first second same = record {
  one_each = length-set (set table a k) b k ∙ length-set table a k ∙ before.one_each;
  told = λ i within below. elim (after side cells connectors k a b i table before.one_each first second (same i)) [
    | inl new ↦ subst (λ j. has_on side i (connector_at connectors j) ≡ true) (sym new.0) new.1
    | inr old ↦
        subst (λ j. has_on side i (connector_at connectors j) ≡ true) (sym old.0) (before.told i within (omega (arith, old.0)))
  ];
  all = λ i j within low has. elim (after side cells connectors k a b i table before.one_each first second (same i)) [
    | inl new ↦ omega (arith, new.0)
    | inr old ↦ elim (cases_lt j k) [
      | inl earlier ↦ omega (arith, old.0, before.all i j within earlier has)
      | inr last ↦
          let is : j ≡ k = omega arith in
          let other : has_on side i (connector_at connectors j) ≡ false = subst (λ m. has_on side i (connector_at connectors m) ≡ false) (sym is) old.1 in
          absurd (true-not_false (sym has ∙ other))
    ]
  ];
}

-- the connectors of a cell's sides

side-touches : (side : Side) (i : ℕ) (connector : Connector) → has_on side i connector ≡ true → touches i connector ≡ true
side-touches Upstream i connector has =
    list_any-append (eqb i) (upstream_of connector) (downstream_of connector) ∙ or_left (has_on Upstream i connector) (has_on Downstream i connector) has
side-touches Downstream i connector has =
    list_any-append (eqb i) (upstream_of connector) (downstream_of connector) ∙ or_right (has_on Upstream i connector) (has_on Downstream i connector) has

-- what a connector that has cell x on a side touches is touched by the connector in the table
at_table : (side : Side) (cells : ℕ) (connectors : List Connector) (table : List ℕ) (x i k : ℕ) → IsSideTable side cells connectors (length connectors) table →
    count_by (has_on side x) connectors ≤ 1 → x < cells → k < length connectors → has_on side x (connector_at connectors k) ≡ true →
    touches i (connector_at connectors k) ≡ true → touches_at connectors (get_or table x 0) i ≡ true
at_table side cells connectors table x i k tells few within there has touched =
    let told : ℕ = get_or table x 0 in
    let below : told < length connectors = tells.all x k within there has in
    let same : k ≡ told = only-one (has_on side x) connectors k told (Link 0 0) few there below has (tells.told x within below) in
    and_from (nat_lt told (length connectors)) (touches i (connector_at connectors told)) (lt-ltb told (length connectors) below)
    (subst (λ j. touches i (connector_at connectors j) ≡ true) same touched)

from_table : (side : Side) (cells : ℕ) (connectors : List Connector) (table : List ℕ) (x i : ℕ) → IsSideTable side cells connectors (length connectors) table →
    x < cells → touches_at connectors (get_or table x 0) i ≡ true → are_joined connectors x i ≡ true
from_table side cells connectors table x i tells within touched =
    let told : ℕ = get_or table x 0 in
    let both = and_parts (nat_lt told (length connectors)) (touches i (connector_at connectors told)) touched in
    let below : told < length connectors = ltb-true told (length connectors) both.0 in
    finds (λ connector. touches x connector && touches i connector) connectors (connector_at connectors told) (Contains-get_or connectors told (Link 0 0) below)
    (and_from (touches x (connector_at connectors told)) (touches i (connector_at connectors told))
    (side-touches side x (connector_at connectors told) (tells.told x within below)) both.1)

pub joints-are : (cells : ℕ) (connectors : List Connector) (out into : List ℕ) → IsSideTable Upstream cells connectors (length connectors) out →
    IsSideTable Downstream cells connectors (length connectors) into → ((i : ℕ) → count_by (has_on Upstream i) connectors ≤ 1) →
    ((i : ℕ) → count_by (has_on Downstream i) connectors ≤ 1) → AreJoints cells connectors out into
joints-are cells connectors out into up down one_out one_in = record {
  each_out = up.one_each;
  each_into = down.one_each;
  joins = λ x i within.
      let by_out : Bool = touches_at connectors (get_or out x 0) i in
      let by_into : Bool = touches_at connectors (get_or into x 0) i in
      same_tests (are_joined connectors x i) (by_out || by_into)
      (λ joined.
      let here = found (λ connector. touches x connector && touches i connector) connectors joined in
      let k : ℕ = here.1.0 in
      let is : connector_at connectors k ≡ here.0 = get_or_default connectors k (Link 0 0) here.0 here.1.1 ∙ here.1.2 in
      let both = and_parts (touches x here.0) (touches i here.0) here.2 in
      let touched : touches i (connector_at connectors k) ≡ true = subst (λ connector. touches i connector ≡ true) (sym is) both.1 in
      let sides : (has_on Upstream x here.0 || has_on Downstream x here.0) ≡ true = sym (list_any-append (eqb x) (upstream_of here.0) (downstream_of here.0)) ∙ both.0 in
      elim (or_cases (has_on Upstream x here.0) (has_on Downstream x here.0) sides) [
        | inl out_of ↦
            or_left by_out by_into
            (at_table Upstream cells connectors out x i k up (one_out x) within here.1.1 (subst (λ connector. has_on Upstream x connector ≡ true) (sym is) out_of) touched)
        | inr in_to ↦
            or_right by_out by_into
            (at_table Downstream cells connectors into x i k down (one_in x) within here.1.1 (subst (λ connector. has_on Downstream x connector ≡ true) (sym is) in_to) touched)
      ])
      (λ by_either. elim (or_cases by_out by_into by_either) [
        | inl out_of ↦ from_table Upstream cells connectors out x i up within out_of
        | inr in_to ↦ from_table Downstream cells connectors into x i down within in_to
      ]);
}
