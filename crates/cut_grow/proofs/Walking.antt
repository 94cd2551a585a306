-- A walk on its way: what its two pointers and its marks say, one cell more, and its end.
use Rattle.std.specs.Prelude.{All, cond, count_by, eqb, not, replicate, ◌&&◌, ◌||◌}
use Rattle.std.specs.List.{list_any}
use Rattle.std.proofs.Common.{◌≡◌, ℕ, zero, suc, ◌<◌, ◌≤◌, ◌+◌, Bool, true, false, List, [], ◌∷◌, ◌++◌, length, get_or, set, inl, inr, sym, refl, ap, subst, ◌∙◌, add-one, arith}
use Rattle.std.proofs.lemmas.Bool.{and_from, and_parts, cases_Bool, cases_eq, cases_lt, eq-eqb, false_from_ne_true, ne_eqb, or_left, or_right}
use Rattle.std.proofs.lemmas.List.{get_or-replicate, get_or-set_other, get_or-set_same, get_or_append_left, get_or_past, get_or_push, length-replicate, length-set, length_push}
use Rattle.std.proofs.lemmas.List.Elements.{All-nil, All-push}
use Rattle.std.proofs.lemmas.List.Folds.{list_any-append, list_any_at, sum_by-replicate}
use Rattle.std.proofs.lemmas.List.Sums.{sum_by-set}
use Rattle.step_plan.proofs.Sums.{count_by-cons}
use Rattle.network_file.specs.Connectors.{are_joined}
use Rattle.network_file.specs.Network.{Network}
use Rattle.network_file.specs.declared.connector.Connector.{Connector}
use Rattle.region_cut.proofs.Anys.{Contains-from_test, found}
use Rattle.region_cut.proofs.Ranges.{Contains-range}
use Rattle.cut_grow.specs.Least.{IsLeast}
use Rattle.cut_grow.specs.Orders.{IsPermutation}
use Rattle.cut_grow.specs.Sides.{IsClosed, IsOpen, is_free}
use Rattle.cut_grow.specs.Walk.{file_order, is_missing, is_missing_beside, next_of, walk_to}
use Rattle.cut_grow.proofs.Counted.{true-not_false}
use Rattle.cut_grow.proofs.NextCells.{closed-from, is_open, next-beside, next-lowest, open-from}

-- marks that count themselves

some_mark : (marks : List Bool) → count_by (λ mark. mark) marks ≡ length marks → (i : ℕ) → i < length marks → get_or marks i false ≡ true
some_mark [] all i within = absurd (omega arith)
some_mark (true ∷ marks) all zero within = refl
some_mark (true ∷ marks) all (suc i) within = some_mark marks (omega (arith, count_by-cons (λ mark. mark) true marks)) i (omega arith)
some_mark (false ∷ marks) all i within = absurd (omega (arith, count_by-cons (λ mark. mark) false marks, few marks))
  where
    few : (marks : List Bool) → count_by (λ mark. mark) marks ≤ length marks
    few [] = omega arith
    few (true ∷ marks) = omega (arith, count_by-cons (λ mark. mark) true marks, few marks)
    few (false ∷ marks) = omega (arith, count_by-cons (λ mark. mark) false marks, few marks)

all_marked : (marks : List Bool) → ((i : ℕ) → i < length marks → get_or marks i false ≡ true) → count_by (λ mark. mark) marks ≡ length marks
all_marked [] each = refl
all_marked (true ∷ marks) each = omega (arith, count_by-cons (λ mark. mark) true marks, all_marked marks (λ i within. each (suc i) (omega arith)))
all_marked (false ∷ marks) each = absurd (true-not_false (sym (each 0 (omega arith))))

-- the order is the walk so far; the marks say which cells it has; no cell before the first pointer is place, and each cell
-- before the second is in it
pub record IsWalking (net : Network) (order : List ℕ) (placed : List Bool) (place lowest : ℕ) : Type 0 where
  pub so_far : order ≡ walk_to net (length order)
  pub one_each : length placed ≡ length net.cells
  pub marks : (i : ℕ) → get_or placed i false ≡ list_any (eqb i) order
  pub counted : count_by (λ mark. mark) placed ≡ length order
  pub there : All (λ i. i < length net.cells) order
  pub once : (p q : ℕ) → p < length order → q < length order → get_or order p 0 ≡ get_or order q 0 → p ≡ q
  pub within : place ≤ length order
  pub closed : (k : ℕ) → k < place → is_open net order (get_or order k 0) ≡ false
  pub low : lowest ≤ length net.cells
  pub full : (i : ℕ) → i < lowest → get_or placed i false ≡ true

walk_to-none : (net : Network) → [] ≡ walk_to net 0
unfolding walk_to
walk_to-none net = refl

walk_to-more : (net : Network) (n : ℕ) → walk_to net (n + 1) ≡ walk_to net n ++ next_of net (walk_to net n) ∷ []
unfolding walk_to
walk_to-more net n = rw add-one refl

pub walking-none : (net : Network) (placed : List Bool) → placed ≡ replicate (length net.cells) false → IsWalking net [] placed 0 0
walking-none net placed is = record {
  so_far = walk_to-none net;
  one_each = ap length is ∙ length-replicate (length net.cells) false;
  marks = λ i. ap (λ marks. get_or marks i false) is ∙ unmarked (length net.cells) i;
  counted = ap (count_by (λ mark. mark)) is ∙ uncounted (length net.cells);
  there = All-nil (λ i. i < length net.cells);
  once = λ p q first second same. absurd (omega arith);
  within = omega arith;
  closed = λ k low. absurd (omega arith);
  low = omega arith;
  full = λ i low. absurd (omega arith);
}
  where
    unmarked : (n i : ℕ) → get_or (replicate n false) i false ≡ false
    unmarked n i = elim (cases_lt i n) [
      | inl within ↦ get_or-replicate n i false false within
      | inr past ↦ get_or_past (replicate n false) i false (omega (arith, length-replicate n false))
    ]

    uncounted : (n : ℕ) → count_by (λ mark. mark) (replicate n false) ≡ 0
    uncounted n = omega (arith, sum_by-replicate (λ mark. cond mark 1 0) n false)

-- which cells are missing, by the marks

free-missing : (order : List ℕ) (placed : List Bool) (i : ℕ) → get_or placed i false ≡ list_any (eqb i) order → is_free placed i ≡ is_missing order i
free-missing order placed i same = ap not same

walking-closed : (net : Network) (order : List ℕ) (placed : List Bool) (place lowest x : ℕ) → IsWalking net order placed place lowest →
    IsClosed net.connectors placed x → is_open net order x ≡ false
walking-closed net order placed place lowest x walking none =
    closed-from net order x (λ i within.
    ap (λ free. free && are_joined net.connectors x i) (sym (free-missing order placed i (walking.marks i))) ∙ none i (omega (arith, walking.one_each)))

walking-open : (net : Network) (order : List ℕ) (placed : List Bool) (place lowest x : ℕ) → IsWalking net order placed place lowest →
    IsOpen net.connectors placed x → is_open net order x ≡ true
walking-open net order placed place lowest x walking some =
    open-from net order x some.0 (omega (arith, walking.one_each, some.1))
    (ap (λ free. free && are_joined net.connectors x some.0) (sym (free-missing order placed some.0 (walking.marks some.0))) ∙ some.2)

-- a cell that isn't place stays so
missing-before : (order : List ℕ) (next i : ℕ) → is_missing (order ++ next ∷ []) i ≡ true → is_missing order i ≡ true
missing-before order next i missing = elim (cases_Bool (list_any (eqb i) order)) [
  | inl has ↦
      let still : list_any (eqb i) (order ++ next ∷ []) ≡ true =
      list_any-append (eqb i) order (next ∷ []) ∙ or_left (list_any (eqb i) order) (list_any (eqb i) (next ∷ [])) has in
      let not_missing : is_missing (order ++ next ∷ []) i ≡ false = ap not still in
      absurd (true-not_false (sym missing ∙ not_missing))
  | inr none ↦ ap not none
]

closed-stays : (net : Network) (order : List ℕ) (next x : ℕ) → is_open net order x ≡ false → is_open net (order ++ next ∷ []) x ≡ false
closed-stays net order next x closed = false_from_ne_true (is_open net (order ++ next ∷ []) x) (λ opens.
    let here = found (is_missing_beside net (order ++ next ∷ []) x) (file_order net) opens in
    let both = and_parts (is_missing (order ++ next ∷ []) here.0) (are_joined net.connectors x here.0) here.2 in
    let before : is_open net order x ≡ true =
    open-from net order x here.0 (Contains-range (length net.cells) here.0 here.1)
    (and_from (is_missing order here.0) (are_joined net.connectors x here.0) (missing-before order next here.0 both.0) both.1) in
    true-not_false (sym before ∙ closed))

-- numbers that stand once each, and one more that isn't among them
once-push : (order : List ℕ) (next : ℕ) → ((p : ℕ) → p < length order → get_or order p 0 ≡ next → ⊥) →
    ((p q : ℕ) → p < length order → q < length order → get_or order p 0 ≡ get_or order q 0 → p ≡ q) →
    (p q : ℕ) → p < length (order ++ next ∷ []) → q < length (order ++ next ∷ []) →
    get_or (order ++ next ∷ []) p 0 ≡ get_or (order ++ next ∷ []) q 0 → p ≡ q
once-push order next new once p q first second same =
    let long : length (order ++ next ∷ []) ≡ length order + 1 = length_push order next in
    elim (cases_lt p (length order)) [
      | inl before_p ↦ elim (cases_lt q (length order)) [
        | inl before_q ↦
            once p q before_p before_q
            (sym (get_or_append_left order (next ∷ []) 0 p before_p) ∙ same ∙ get_or_append_left order (next ∷ []) 0 q before_q)
        | inr at_q ↦
            absurd (new p before_p
            (sym (get_or_append_left order (next ∷ []) 0 p before_p) ∙ same ∙ get_or_push order next 0 q (omega (arith, long))))
      ]
      | inr at_p ↦ elim (cases_lt q (length order)) [
        | inl before_q ↦
            absurd (new q before_q
            (sym (get_or_append_left order (next ∷ []) 0 q before_q) ∙ sym same ∙ get_or_push order next 0 p (omega (arith, long))))
        | inr at_q ↦ omega (arith, long)
      ]
    ]

-- where the two pointers stand before a cell is added
pub record IsPointed (net : Network) (order : List ℕ) (placed : List Bool) (place lowest next : ℕ) : Type 0 where
  pub within : place ≤ length order
  pub closed : (k : ℕ) → k < place → is_open net order (get_or order k 0) ≡ false
  pub low : lowest ≤ length net.cells
  pub full : (i : ℕ) → i < lowest → get_or placed i false ≡ true
  pub is_next : next ≡ next_of net order
  pub there : next < length net.cells
  pub missing : get_or placed next false ≡ false

pub walking-more : (net : Network) (order : List ℕ) (placed : List Bool) (was_place was_lowest place lowest next : ℕ) →
    IsWalking net order placed was_place was_lowest → IsPointed net order placed place lowest next →
    IsWalking net (order ++ next ∷ []) (set placed next true) place lowest
walking-more net order placed was_place was_lowest place lowest next walking pointed =
    let inside : next < length placed = omega (arith, walking.one_each, pointed.there) in record {
      so_far =
          ap (λ walk. walk ++ next ∷ []) walking.so_far ∙
          ap (λ i. walk_to net (length order) ++ i ∷ []) (pointed.is_next ∙ ap (next_of net) walking.so_far) ∙
          sym (walk_to-more net (length order)) ∙ ap (walk_to net) (sym (length_push order next));
      one_each = length-set placed next true ∙ walking.one_each;
      marks = λ i. elim (cases_eq i next) [
        | inl same ↦
            ap (λ j. get_or (set placed next true) j false) same ∙ get_or-set_same placed next true false inside ∙
            sym (list_any-append (eqb i) order (next ∷ []) ∙
            or_right (list_any (eqb i) order) (eqb i next || false) (or_left (eqb i next) false (eq-eqb i next same)))
        | inr other ↦
            get_or-set_other placed next i true false other ∙ walking.marks i ∙
            sym (list_any-append (eqb i) order (next ∷ []) ∙ ap (λ here. list_any (eqb i) order || (here || false)) (ne_eqb i next other) ∙ or_false (list_any (eqb i) order))
      ];
      counted =
          let f : Bool → ℕ = λ mark. cond mark 1 0 in
          let changed = sum_by-set f placed next true false inside in
          let before : f (get_or placed next false) ≡ 0 = ap f pointed.missing in
          omega (arith, changed, before, walking.counted, length_push order next);
      there = All-push (λ i. i < length net.cells) order next walking.there pointed.there;
      once = once-push order next (λ p within same. true-not_false (sym (marked placed order next walking.marks p within same) ∙ pointed.missing)) walking.once;
      within = omega (arith, pointed.within, length_push order next);
      closed = λ k low.
          subst (λ x. is_open net (order ++ next ∷ []) x ≡ false) (sym (get_or_append_left order (next ∷ []) 0 k (omega (arith, pointed.within))))
          (closed-stays net order next (get_or order k 0) (pointed.closed k low));
      low = pointed.low;
      full = λ i low. elim (cases_eq i next) [
        | inl same ↦ ap (λ j. get_or (set placed next true) j false) same ∙ get_or-set_same placed next true false inside
        | inr other ↦ get_or-set_other placed next i true false other ∙ pointed.full i low
      ];
    }
  where
    or_false : (a : Bool) → (a || false) ≡ a
    or_false true = refl
    or_false false = refl

    marked : (placed : List Bool) (order : List ℕ) (next : ℕ) → ((i : ℕ) → get_or placed i false ≡ list_any (eqb i) order) →
        (p : ℕ) → p < length order → get_or order p 0 ≡ next → get_or placed next false ≡ true
    marked placed order next marks p within same = marks next ∙ list_any_at (eqb next) order p 0 within (eq-eqb next (get_or order p 0) (sym same))

-- the least free cell beside an open one is there
pub open-least : (connectors : List Connector) (placed : List Bool) (x next : ℕ) → IsOpen connectors placed x →
    IsLeast (length placed) (λ i. is_free placed i && are_joined connectors x i) next → next < length placed
open-least connectors placed x next some least = elim (cases_lt next (length placed)) [
  | inl lower ↦ lower
  | inr past ↦ absurd (true-not_false (sym some.2 ∙ least.before some.0 (omega (arith, some.1))))
]

-- the least free cell is there, as long as the order is shorter than all cells
pub lowest-below : (net : Network) (order : List ℕ) (placed : List Bool) (place was_lowest lowest : ℕ) → IsWalking net order placed place was_lowest →
    length order < length net.cells → lowest ≤ length placed → ((i : ℕ) → was_lowest ≤ i → i < lowest → get_or placed i false ≡ true) → lowest < length placed
lowest-below net order placed place was_lowest lowest walking short low full = elim (cases_lt lowest (length placed)) [
  | inl lower ↦ lower
  | inr past ↦ absurd (omega (
    arith,
    walking.one_each,
    walking.counted,
    all_marked placed (λ i within. elim (cases_lt i was_lowest) [
      | inl earlier ↦ walking.full i earlier
      | inr later ↦ full i later (omega arith)
    ]),
  ))
]

-- the pointers after they moved, where the first stands at an open cell
pub pointed-beside : (net : Network) (order : List ℕ) (placed : List Bool) (was_place was_lowest place lowest next : ℕ) →
    IsWalking net order placed was_place was_lowest → place < length order →
    ((k : ℕ) → was_place ≤ k → k < place → IsClosed net.connectors placed (get_or order k 0)) → IsOpen net.connectors placed (get_or order place 0) →
    lowest ≤ length placed → ((i : ℕ) → was_lowest ≤ i → i < lowest → get_or placed i false ≡ true) →
    IsLeast (length placed) (λ i. is_free placed i && are_joined net.connectors (get_or order place 0) i) next →
    IsPointed net order placed place lowest next
pointed-beside net order placed was_place was_lowest place lowest next walking inside closed some low full least =
    let all_closed : (k : ℕ) → k < place → is_open net order (get_or order k 0) ≡ false =
    λ k before. elim (cases_lt k was_place) [
      | inl earlier ↦ walking.closed k earlier
      | inr later ↦ walking-closed net order placed was_place was_lowest (get_or order k 0) walking (closed k later before)
    ] in
    let below : next < length placed = open-least net.connectors placed (get_or order place 0) next some least in
    let both = and_parts (is_free placed next) (are_joined net.connectors (get_or order place 0) next) (least.here below) in
    record {
      within = omega arith;
      closed = all_closed;
      low = omega (arith, walking.one_each);
      full = λ i before. elim (cases_lt i was_lowest) [
        | inl earlier ↦ walking.full i earlier
        | inr later ↦ full i later before
      ];
      is_next = sym (next-beside net order place next inside all_closed
          (walking-open net order placed was_place was_lowest (get_or order place 0) walking some)
          (record {
            within = omega (arith, walking.one_each, least.within);
            before = λ i lower.
                ap (λ free. free && are_joined net.connectors (get_or order place 0) i) (sym (free-missing order placed i (walking.marks i))) ∙ least.before i lower;
            here = λ _.
                ap (λ free. free && are_joined net.connectors (get_or order place 0) next) (sym (free-missing order placed next (walking.marks next))) ∙ least.here below;
          }));
      there = omega (arith, walking.one_each);
      missing = unfree (get_or placed next false) both.0;
    }
  where
    unfree : (mark : Bool) → not mark ≡ true → mark ≡ false
    unfree true free = cc
    unfree false free = refl

-- and where no cell of the order is place
pub pointed-lowest : (net : Network) (order : List ℕ) (placed : List Bool) (was_place was_lowest place lowest : ℕ) →
    IsWalking net order placed was_place was_lowest → length order < length net.cells → place ≡ length order →
    ((k : ℕ) → was_place ≤ k → k < place → IsClosed net.connectors placed (get_or order k 0)) →
    lowest ≤ length placed → ((i : ℕ) → was_lowest ≤ i → i < lowest → get_or placed i false ≡ true) →
    (lowest < length placed → get_or placed lowest false ≡ false) → IsPointed net order placed place lowest lowest
pointed-lowest net order placed was_place was_lowest place lowest walking short ends closed low full free =
    let all_closed : (k : ℕ) → k < place → is_open net order (get_or order k 0) ≡ false =
    λ k before. elim (cases_lt k was_place) [
      | inl earlier ↦ walking.closed k earlier
      | inr later ↦ walking-closed net order placed was_place was_lowest (get_or order k 0) walking (closed k later before)
    ] in
    let all_full : (i : ℕ) → i < lowest → get_or placed i false ≡ true =
    λ i before. elim (cases_lt i was_lowest) [
      | inl earlier ↦ walking.full i earlier
      | inr later ↦ full i later before
    ] in
    let below : lowest < length placed = lowest-below net order placed was_place was_lowest lowest walking short low full in
    record {
      within = omega arith;
      closed = all_closed;
      low = omega (arith, walking.one_each);
      full = all_full;
      is_next = sym (next-lowest net order lowest (λ k before. all_closed k (omega arith)) (record {
        within = omega (arith, walking.one_each);
        before = λ i lower. ap not (sym (walking.marks i) ∙ all_full i lower);
        here = λ _. ap not (sym (walking.marks lowest) ∙ free below);
      }));
      there = omega (arith, walking.one_each);
      missing = free below;
    }

-- a walk as long as there are cells
pub walking-all : (net : Network) (order : List ℕ) (placed : List Bool) (place lowest : ℕ) → IsWalking net order placed place lowest →
    length order ≡ length net.cells → (order ≡ walk_to net (length net.cells)) × IsPermutation (length net.cells) order
walking-all net order placed place lowest walking long = (
  walking.so_far ∙ ap (walk_to net) long,
  record {
    long = long;
    there = walking.there;
    once = walking.once;
    each = λ i within.
        Contains-from_test order i (sym (walking.marks i) ∙ some_mark placed (omega (arith, walking.counted, walking.one_each)) i (omega (arith, walking.one_each)));
  },
)
