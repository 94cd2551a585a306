-- Lists by region, each the same function of its region.
use Rattle.std.specs.Prelude.{◌==◌, if◌then◌else◌}
use Rattle.std.specs.List.{range_with_len}
use Rattle.std.proofs.Common.{◌≡◌, ℕ, ◌<◌, ◌+◌, inl, inr, List, [], ◌∷◌, ◌++◌, append-nil, length, map, set, get_or, ap, sym, ◌∙◌, zero-add}
use Rattle.std.proofs.lemmas.Bool.{cases_Bool, eqb-true}
use Rattle.std.proofs.lemmas.List.{get_or-map, get_or-set_same, get_or-set_other, length-map, map-set}
use Rattle.std.proofs.lemmas.List.FromFn.{fill_by_all, get_or-map-range_with_len, map-range_with_len_more}
use Rattle.region_cut.proofs.Anys.{not_same}
use Rattle.region_cut.specs.Chart.{list_at}

pub list_at-map : {X : Type 0} (f : ℕ → List X) (n r : ℕ) → r < n → list_at (map f (range_with_len 0 n)) r ≡ f r
list_at-map f n r within = get_or-map-range_with_len f 0 n r r [] within (zero-add r)

pub lists_are : {X : Type 0} (f : ℕ → List X) (lists : List (List X)) (n : ℕ) → length lists ≡ n → ((r : ℕ) → r < n → list_at lists r ≡ f r) → lists ≡ map f (range_with_len 0 n)
lists_are f lists n long each = fill_by_all f lists n [] long each

-- one more
pub by_number_more : {X : Type 0} (f : ℕ → X) (n : ℕ) (before after : List X) (last : X) → before ≡ map f (range_with_len 0 n) → after ≡ before ++ last ∷ [] → last ≡ f n
    → after ≡ map f (range_with_len 0 (n + 1))
by_number_more f n before after last is more is_last =
    more ∙ ap (λ front. front ++ last ∷ []) is ∙ ap (λ x. map f (range_with_len 0 n) ++ x ∷ []) is_last ∙ sym (map-range_with_len_more f 0 n n (zero-add n))

-- one item more for region r
set_at : {X : Type 0} (lists : List (List X)) (r : ℕ) (item : X) → r < length lists → (q : ℕ) →
    list_at (set lists r (list_at lists r ++ item ∷ [])) q ≡ list_at lists q ++ (if r == q then item ∷ [] else [])
set_at lists r item within q = elim (cases_Bool (r == q)) [
  | inl same ↦
      let here : r ≡ q = eqb-true r q same in
      rw (same, ← here) (get_or-set_same lists r (list_at lists r ++ item ∷ []) [] within)
  | inr other ↦
      rw (other, append-nil) (get_or-set_other lists r q (list_at lists r ++ item ∷ []) [] (λ same. not_same r q other (sym same)))
]

pub pushed : {X V : Type 0} (items : V → List X) (vectors : List V) (lists : List (List X)) (r : ℕ) (before after : V) (item : X) → map items vectors ≡ lists → r < length lists →
    before ≡ get_or vectors r before → items after ≡ items before ++ item ∷ [] →
    (q : ℕ) → list_at (map items (set vectors r after)) q ≡ list_at lists q ++ (if r == q then item ∷ [] else [])
pushed items vectors lists r before after item is within read more q =
    let has : r < length vectors = rw (sym is, length-map) at within in
    let old : items before ≡ list_at lists r = ap items read ∙ sym (get_or-map items vectors r before [] has) ∙ ap (λ ls. list_at ls r) is in
    ap (λ ls. list_at ls q) (map-set items vectors r after ∙ ap (λ ls. set ls r (items after)) is ∙ ap (set lists r) (more ∙ ap (λ front. front ++ item ∷ []) old)) ∙
    set_at lists r item within q
