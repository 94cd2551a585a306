-- The first line of a text.
use Rattle.std.specs.Prelude.{◌==◌, None, Some, drop, position, take}
use Rattle.std.specs.List.{onto_first, position_or_len}
use Rattle.std.proofs.Common.{◌≡◌, ℕ, suc, ◌+◌, ◌<◌, ◌≤◌, inl, inr, true, false, List, [], ◌∷◌, length, ap, arith, refl, sym, ◌∙◌}
use Rattle.std.proofs.lemmas.Bool.{cases_Bool, cases_lt, le-ltb, lt-ltb}
use Rattle.std.proofs.lemmas.List.{drop_all, take_all}
use Rattle.plan_choice.specs.Pieces.{lines_in}

-- how many bytes stand before the first line feed
abbrev pub before_feed : List ℕ → ℕ
before_feed text = position_or_len (λ byte. byte == 10) text

lines-none : lines_in [] ≡ []
unfolding lines_in
lines-none = refl

lines-feed : (byte : ℕ) (text : List ℕ) → (byte == 10) ≡ true → lines_in (byte ∷ text) ≡ (byte ∷ []) ∷ lines_in text
unfolding lines_in
lines-feed byte text is = rw is refl

lines-byte : (byte : ℕ) (text : List ℕ) → (byte == 10) ≡ false → lines_in (byte ∷ text) ≡ onto_first byte (lines_in text)
unfolding lines_in
lines-byte byte text other = rw other refl

lines-found : (text : List ℕ) → before_feed text < length text → lines_in text ≡ take (before_feed text + 1) text ∷ lines_in (drop (before_feed text + 1) text)
lines-found [] within = absurd (omega arith)
lines-found (byte ∷ text) within = elim (cases_Bool (byte == 10)) [
  | inl is ↦
      let here : before_feed (byte ∷ text) + 1 ≡ 1 = rw is refl in
      lines-feed byte text is ∙ ap (λ n. take n (byte ∷ text) ∷ lines_in (drop n (byte ∷ text))) (sym here)
  | inr other ↦
      let further : before_feed (byte ∷ text) ≡ 1 + before_feed text = rw other refl in
      let later : suc (before_feed text + 1) ≡ before_feed (byte ∷ text) + 1 = omega (arith, further) in
      let inside : before_feed text < length text = omega (arith, within, further) in
      lines-byte byte text other ∙ ap (onto_first byte) (lines-found text inside) ∙
      ap (λ n. take n (byte ∷ text) ∷ lines_in (drop n (byte ∷ text))) later
]

lines-alone : (text : List ℕ) → 1 ≤ length text → length text ≤ before_feed text → lines_in text ≡ text ∷ []
lines-alone [] some none = absurd (omega arith)
lines-alone (byte ∷ []) some none = elim (cases_Bool (byte == 10)) [
  | inl is ↦
      let here : before_feed (byte ∷ []) ≡ 0 = rw is refl in
      absurd (omega (arith, some, none, here))
  | inr other ↦ lines-byte byte [] other ∙ ap (onto_first byte) lines-none
]
lines-alone (byte ∷ (next ∷ text)) some none = elim (cases_Bool (byte == 10)) [
  | inl is ↦
      let here : before_feed (byte ∷ (next ∷ text)) ≡ 0 = rw is refl in
      absurd (omega (arith, some, none, here))
  | inr other ↦
      let further : before_feed (byte ∷ (next ∷ text)) ≡ 1 + before_feed (next ∷ text) = rw other refl in
      let outside : length (next ∷ text) ≤ before_feed (next ∷ text) = omega (arith, none, further) in
      lines-byte byte (next ∷ text) other ∙ ap (onto_first byte) (lines-alone (next ∷ text) (omega arith) outside)
]

-- a line feed ends it
pub line-found : (text : List ℕ) (at : ℕ) → position (λ byte. byte == 10) text ≡ Some at →
    (at < length text) × (lines_in text ≡ take (at + 1) text ∷ lines_in (drop (at + 1) text))
line-found text at is = elim (cases_lt (before_feed text) (length text)) [
  | inl inside ↦
      let found : Some (before_feed text) ≡ Some at = rw (lt-ltb (before_feed text) (length text) inside) at is in
      let same : before_feed text ≡ at = cc in
      (omega (arith, inside, same), lines-found text inside ∙ ap (λ n. take (n + 1) text ∷ lines_in (drop (n + 1) text)) same)
  | inr outside ↦
      let none : None ≡ Some at = rw (le-ltb (before_feed text) (length text) outside) at is in
      absurd cc
]

-- or it is the whole text
pub line-whole : (text : List ℕ) → 1 ≤ length text → position (λ byte. byte == 10) text ≡ None →
    lines_in text ≡ take (length text) text ∷ lines_in (drop (length text) text)
line-whole text some is = elim (cases_lt (before_feed text) (length text)) [
  | inl inside ↦
      let found : Some (before_feed text) ≡ None = rw (lt-ltb (before_feed text) (length text) inside) at is in
      absurd cc
  | inr outside ↦
      lines-alone text some outside ∙
      ap (λ line. line ∷ []) (sym (take_all (length text) text (omega arith))) ∙
      ap (λ lines. take (length text) text ∷ lines) (sym (ap lines_in (drop_all (length text) text (omega arith)) ∙ lines-none))
]
