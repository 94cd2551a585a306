-- The least and the greatest place of the three cells that are read of a connector.
use Rattle.std.specs.Prelude.{All, max, min}
use Rattle.std.specs.List.{Contains}
use Rattle.std.proofs.Common.{◌≡◌, ℕ, ◌≤◌, List, [], ◌∷◌, get_or, inl, inr, sym, refl, ap, subst, ◌∙◌, arith}
use Rattle.std.proofs.lemmas.Bool.{cases_lt}
use Rattle.std.proofs.lemmas.List.Elements.{All-cons, All-nil}
use Rattle.network_file.specs.declared.connector.Connector.{Connector}
use Rattle.network_file.specs.declared.connector.Connector.TheVariants.{Link, Merge, Diverge}
use Rattle.region_cut.specs.ConnectorCells.{three_cells}
use Rattle.cut_grow.specs.Spans.{IsSpan}

-- the least and the greatest place of three cells
abbrev pub least_of : (places cells : List ℕ) → ℕ
least_of places cells = min (min (get_or places (get_or cells 0 0) 0) (get_or places (get_or cells 1 0) 0)) (get_or places (get_or cells 2 0) 0)

abbrev pub greatest_of : (places cells : List ℕ) → ℕ
greatest_of places cells = max (max (get_or places (get_or cells 0 0) 0) (get_or places (get_or cells 1 0) 0)) (get_or places (get_or cells 2 0) 0)

abbrev Around : (places : List ℕ) → (first last i : ℕ) → Type 0
Around places first last i = (first ≤ get_or places i 0) × (get_or places i 0 ≤ last)

around_two : (places : List ℕ) (a b : ℕ) → All (Around places (least_of places (a ∷ b ∷ b ∷ [])) (greatest_of places (a ∷ b ∷ b ∷ []))) (a ∷ b ∷ [])
around_two places a b =
    let P : ℕ → Type 0 = Around places (least_of places (a ∷ b ∷ b ∷ [])) (greatest_of places (a ∷ b ∷ b ∷ [])) in
    All-cons P a (b ∷ []) (omega arith, omega arith) (All-cons P b [] (omega arith, omega arith) (All-nil P))

around_three : (places : List ℕ) (a b c : ℕ) → All (Around places (least_of places (a ∷ b ∷ c ∷ [])) (greatest_of places (a ∷ b ∷ c ∷ []))) (a ∷ b ∷ c ∷ [])
around_three places a b c =
    let P : ℕ → Type 0 = Around places (least_of places (a ∷ b ∷ c ∷ [])) (greatest_of places (a ∷ b ∷ c ∷ [])) in
    All-cons P a (b ∷ c ∷ []) (omega arith, omega arith) (All-cons P b (c ∷ []) (omega arith, omega arith) (All-cons P c [] (omega arith, omega arith) (All-nil P)))

-- a cell that stands at a place
abbrev StandsAt : (places cells : List ℕ) → (place : ℕ) → Type 0
StandsAt places cells place = (i : ℕ) × Contains cells i × (get_or places i 0 ≡ place)

first_of_two : (places : List ℕ) (a b : ℕ) → StandsAt places (a ∷ b ∷ []) (least_of places (a ∷ b ∷ b ∷ []))
first_of_two places a b = elim (cases_lt (get_or places b 0) (get_or places a 0)) [
  | inl lower ↦ (b, (1, omega arith, refl), omega arith)
  | inr higher ↦ (a, (0, omega arith, refl), omega arith)
]

last_of_two : (places : List ℕ) (a b : ℕ) → StandsAt places (a ∷ b ∷ []) (greatest_of places (a ∷ b ∷ b ∷ []))
last_of_two places a b = elim (cases_lt (get_or places b 0) (get_or places a 0)) [
  | inl lower ↦ (a, (0, omega arith, refl), omega arith)
  | inr higher ↦ (b, (1, omega arith, refl), omega arith)
]

first_of_three : (places : List ℕ) (a b c : ℕ) → StandsAt places (a ∷ b ∷ c ∷ []) (least_of places (a ∷ b ∷ c ∷ []))
first_of_three places a b c = elim (cases_lt (get_or places c 0) (min (get_or places a 0) (get_or places b 0))) [
  | inl lower ↦ (c, (2, omega arith, refl), omega arith)
  | inr higher ↦ elim (cases_lt (get_or places b 0) (get_or places a 0)) [
    | inl second ↦ (b, (1, omega arith, refl), omega arith)
    | inr first ↦ (a, (0, omega arith, refl), omega arith)
  ]
]

last_of_three : (places : List ℕ) (a b c : ℕ) → StandsAt places (a ∷ b ∷ c ∷ []) (greatest_of places (a ∷ b ∷ c ∷ []))
last_of_three places a b c = elim (cases_lt (get_or places c 0) (max (get_or places a 0) (get_or places b 0))) [
  | inl lower ↦ elim (cases_lt (get_or places b 0) (get_or places a 0)) [
    | inl first ↦ (a, (0, omega arith, refl), omega arith)
    | inr second ↦ (b, (1, omega arith, refl), omega arith)
  ]
  | inr higher ↦ (c, (2, omega arith, refl), omega arith)
]

by_three : (places : List ℕ) (connector : Connector) →
    IsSpan places connector (record { first = least_of places (three_cells connector); last = greatest_of places (three_cells connector) })
by_three places (Link up down) = record { around = around_two places up down; first = first_of_two places up down; last = last_of_two places up down }
by_three places (Merge up1 up2 down p1 p2) =
    record { around = around_three places up1 up2 down; first = first_of_three places up1 up2 down; last = last_of_three places up1 up2 down }
by_three places (Diverge up down1 down2 b1 b2) =
    record { around = around_three places up down1 down2; first = first_of_three places up down1 down2; last = last_of_three places up down1 down2 }

pub span-is : (places three : List ℕ) (connector : Connector) (first last : ℕ) → three ≡ three_cells connector → first ≡ least_of places three →
    last ≡ greatest_of places three → IsSpan places connector (record { first = first; last = last })
span-is places three connector first last is least greatest =
    let first_is : least_of places (three_cells connector) ≡ first = ap (least_of places) (sym is) ∙ sym least in
    let last_is : greatest_of places (three_cells connector) ≡ last = ap (greatest_of places) (sym is) ∙ sym greatest in
    subst (λ f. IsSpan places connector (record { first = f; last = last })) first_is
    (subst (λ l. IsSpan places connector (record { first = least_of places (three_cells connector); last = l })) last_is (by_three places connector))
