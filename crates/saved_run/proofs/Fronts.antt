-- What is printed at the front of a text is read there, and what is read there was printed.
use Rattle.std.specs.Prelude.{bytes_eq, codes, option_and_then}
use Rattle.std.specs.Char.{is_ascii_digit}
use Rattle.std.specs.Fmt.{decimal}
use Rattle.std.specs.List.{list_all, prefix_len}
use Rattle.std.proofs.Common.{◌≡◌, ℕ, zero, suc, ◌+◌, ◌<◌, ◌≤◌, ◌^◌, ◌==◌, Bool, true, false, cond, get_or, List, [], ◌∷◌, ◌++◌, length, take, drop, Option, Some, None, refl, sym, ap, subst, ◌∙◌, arith, append_assoc}
use Rattle.std.proofs.Math.Seq.{drop-append_seam, take-append_seam}
use Rattle.std.proofs.lemmas.Bool.{and_parts, eq-eqb}
use Rattle.std.proofs.lemmas.List.{take-append-drop}
use Rattle.std.proofs.lemmas.List.Folds.{prefix_len-append}
use Rattle.std.proofs.lemmas.Slice.Eq.{bytes_eq-Decides}
use Rattle.line_fields.specs.Fields.{count_field}
use Rattle.saved_run.specs.Content.{IsRowLine}
use Rattle.saved_run.specs.Fronts.{Front, behind, counted_line_at, field_at, row_line_at}
use Rattle.saved_run.specs.Numbers.{number_of}
use Rattle.saved_run.specs.SavedText.{counted_line, row_line}
use Rattle.saved_run.specs.declared.row_line.RowLine.{RowLine}
use Rattle.saved_run.proofs.Numbers.{decimal-number_of, digits_of-decimal, none_is_no_some, number_of-decimal, passed, some_same}

-- a chain that gave something had something to go on with
pub chained : {A B : Type 0} (found : Option A) (next : A → Option B) (b : B) → option_and_then next found ≡ Some b → (a : A) × (found ≡ Some a) × (next a ≡ Some b)
chained None next b same = absurd (none_is_no_some b same)
chained (Some a) next b same = (a, refl, same)

pub behind-word : (word rest : List ℕ) → behind word (word ++ rest) ≡ Some rest
unfolding behind
behind-word word rest =
    let same : bytes_eq (take (length word) (word ++ rest)) word ≡ true = (bytes_eq-Decides _ _).1 (take-append_seam word rest) in
    ap (λ t. cond t (Some (drop (length word) (word ++ rest))) None) same ∙ ap Some (drop-append_seam word rest)

pub word-behind : (word text rest : List ℕ) → behind word text ≡ Some rest → text ≡ word ++ rest
unfolding behind
word-behind word text rest reads =
    let found = passed (bytes_eq (take (length word) text) word) (drop (length word) text) rest reads in
    let front : take (length word) text ≡ word = (bytes_eq-Decides _ _).0 found.0 in
    sym (take-append-drop (length word) text) ∙ ap (λ front. front ++ drop (length word) text) front ∙ ap (λ rest. word ++ rest) found.1

all_pass : (p : ℕ → Bool) (xs : List ℕ) → list_all p xs ≡ true → prefix_len p xs ≡ length xs
all_pass p [] all = refl
all_pass p (x ∷ xs) all =
    let parts = and_parts (p x) (list_all p xs) all in
    let rest = all_pass p xs parts.1 in
    ap (λ t. cond t (1 + prefix_len p xs) 0) parts.0 ∙ omega (arith, rest)

-- how many digits stand at the front
abbrev pub digit_count : List ℕ → ℕ
digit_count text = prefix_len is_ascii_digit text

-- they, by their places
pub digit_count_is : (text : List ℕ) (i : ℕ) → i ≤ length text → ((k : ℕ) → k < i → is_ascii_digit (get_or text k 0) ≡ true) → (i < length text → is_ascii_digit (get_or text i 0) ≡ false) →
    digit_count text ≡ i
digit_count_is [] i within pass stops = omega (arith, within)
digit_count_is (x ∷ xs) zero within pass stops = ap (λ t. cond t (1 + prefix_len is_ascii_digit xs) 0) (stops (omega arith))
digit_count_is (x ∷ xs) (suc i) within pass stops =
    let rest = digit_count_is xs i (omega (arith, within)) (λ k below. pass (suc k) (omega (arith, below))) (λ more. stops (omega (arith, more))) in
    ap (λ t. cond t (1 + prefix_len is_ascii_digit xs) 0) (pass 0 (omega arith)) ∙ omega (arith, rest)

-- the digits of a number, where no digit follows
digit_count-decimal : (n : ℕ) (rest : List ℕ) → n < 2 ^ 64 → digit_count rest ≡ 0 → digit_count (decimal n ++ rest) ≡ length (decimal n)
digit_count-decimal n rest small ends =
    let own : prefix_len is_ascii_digit (decimal n) ≡ length (decimal n) = all_pass is_ascii_digit (decimal n) (digits_of-decimal n small) in
    let all : (prefix_len is_ascii_digit (decimal n) == length (decimal n)) ≡ true = eq-eqb _ _ own in
    prefix_len-append is_ascii_digit (decimal n) rest
    ∙ ap (λ t. cond t (length (decimal n) + prefix_len is_ascii_digit rest) (prefix_len is_ascii_digit (decimal n))) all
    ∙ omega (arith, ends)

pub field_at-count : (n : ℕ) (rest : List ℕ) → n < 2 ^ 64 → digit_count rest ≡ 0 → field_at (count_field n ++ rest) ≡ Some (record { value = n; rest = rest })
unfolding field_at
field_at-count n rest small ends =
    let digits = decimal n ++ rest in
    let comma : behind (codes ",") (codes "," ++ decimal n ++ rest) ≡ Some digits = ap (behind (codes ",")) (append_assoc (codes ",") (decimal n) rest) ∙ behind-word (codes ",") digits in
    let count = digit_count-decimal n rest small ends in
    let front : take (digit_count digits) digits ≡ decimal n = ap (λ k. take k digits) count ∙ take-append_seam (decimal n) rest in
    let back : drop (digit_count digits) digits ≡ rest = ap (λ k. drop k digits) count ∙ drop-append_seam (decimal n) rest in
    let number : number_of (take (digit_count digits) digits) ≡ Some n = ap number_of front ∙ number_of-decimal n small in
    rw (comma, number, back) refl

pub count-field_at : (text : List ℕ) (field : Front ℕ) → field_at text ≡ Some field → (field.value < 2 ^ 64) × (text ≡ count_field field.value ++ field.rest)
unfolding field_at
count-field_at text field reads =
    let comma = chained (behind (codes ",") text) _ field reads in
    let digits = comma.0 in
    let number = chained (number_of (take (digit_count digits) digits)) _ field comma.2 in
    let printed = decimal-number_of (take (digit_count digits) digits) number.0 number.1 in
    let same : record { value = number.0; rest = drop (digit_count digits) digits } ≡ field = some_same _ _ number.2 in
    let shown : digits ≡ decimal number.0 ++ drop (digit_count digits) digits = sym (take-append-drop (digit_count digits) digits) ∙ ap (λ front. front ++ drop (digit_count digits) digits) printed.1 in
    let text_is : text ≡ count_field number.0 ++ drop (digit_count digits) digits =
    word-behind (codes ",") text digits comma.1 ∙ ap (λ rest. codes "," ++ rest) shown ∙ sym (append_assoc (codes ",") (decimal number.0) (drop (digit_count digits) digits)) in
    subst (λ field. (field.value < 2 ^ 64) × (text ≡ count_field field.value ++ field.rest)) same (printed.0, text_is)

three : (a b c rest : List ℕ) → a ++ b ++ c ++ rest ≡ a ++ (b ++ (c ++ rest))
three a b c rest = simp append_assoc refl

pub counted_line_at-line : (word : List ℕ) (n : ℕ) (rest : List ℕ) → n < 2 ^ 64 → counted_line_at word (counted_line word n ++ rest) ≡ Some (record { value = n; rest = rest })
unfolding counted_line_at counted_line
counted_line_at-line word n rest small =
    let end = codes "\n" ++ rest in
    let fields : behind word (word ++ count_field n ++ codes "\n" ++ rest) ≡ Some (count_field n ++ end) =
    ap (behind word) (three word (count_field n) (codes "\n") rest) ∙ behind-word word (count_field n ++ end) in
    let count : field_at (count_field n ++ end) ≡ Some (record { value = n; rest = end }) = field_at-count n end small refl in
    let last : behind (codes "\n") end ≡ Some rest = behind-word (codes "\n") rest in
    rw (fields, count, last) refl

pub line-counted_line_at : (word text : List ℕ) (line : Front ℕ) → counted_line_at word text ≡ Some line → (line.value < 2 ^ 64) × (text ≡ counted_line word line.value ++ line.rest)
unfolding counted_line_at counted_line
line-counted_line_at word text line reads =
    let fields = chained (behind word text) _ line reads in
    let count = chained (field_at fields.0) _ line fields.2 in
    let last = chained (behind (codes "\n") count.0.rest) _ line count.2 in
    let printed = count-field_at fields.0 count.0 count.1 in
    let same : record { value = count.0.value; rest = last.0 } ≡ line = some_same _ _ last.2 in
    let text_is : text ≡ word ++ count_field count.0.value ++ codes "\n" ++ last.0 =
    word-behind word text fields.0 fields.1 ∙ ap (λ rest. word ++ rest) (printed.1 ∙ ap (λ rest. count_field count.0.value ++ rest) (word-behind (codes "\n") count.0.rest last.0 last.1))
    ∙ sym (three word (count_field count.0.value) (codes "\n") last.0) in
    subst (λ line. (line.value < 2 ^ 64) × (text ≡ word ++ count_field line.value ++ codes "\n" ++ line.rest)) same (printed.0, text_is)

eight : (a b c d e f g h rest : List ℕ) → a ++ b ++ c ++ d ++ e ++ f ++ g ++ h ++ rest ≡ a ++ (b ++ (c ++ (d ++ (e ++ (f ++ (g ++ (h ++ rest)))))))
eight a b c d e f g h rest = simp append_assoc refl

pub row_line_at-line : (line : RowLine) (rest : List ℕ) → IsRowLine line → row_line_at (row_line line ++ rest) ≡ Some (record { value = line; rest = rest })
unfolding row_line_at row_line
row_line_at-line line rest fits =
    let row = line.row in
    let end = codes "\n" ++ rest in
    let from5 = count_field line.earlier ++ end in
    let from4 = count_field row.wait ++ from5 in
    let from3 = count_field row.gone ++ from4 in
    let from2 = count_field row.come ++ from3 in
    let from1 = count_field row.n ++ from2 in
    let fields = count_field line.region ++ from1 in
    let shape = eight (codes "row") (count_field line.region) (count_field row.n) (count_field row.come) (count_field row.gone) (count_field row.wait) (count_field line.earlier) (codes "\n") rest in
    let word : behind (codes "row") (codes "row" ++ count_field line.region ++ count_field row.n ++ count_field row.come ++ count_field row.gone ++ count_field row.wait ++ count_field line.earlier
    ++ codes "\n" ++ rest) ≡ Some fields = ap (behind (codes "row")) shape ∙ behind-word (codes "row") fields in
    let region : field_at fields ≡ Some (record { value = line.region; rest = from1 }) = field_at-count line.region from1 fits.region refl in
    let n : field_at from1 ≡ Some (record { value = row.n; rest = from2 }) = field_at-count row.n from2 fits.row.n refl in
    let come : field_at from2 ≡ Some (record { value = row.come; rest = from3 }) = field_at-count row.come from3 fits.row.come refl in
    let gone : field_at from3 ≡ Some (record { value = row.gone; rest = from4 }) = field_at-count row.gone from4 fits.row.gone refl in
    let wait : field_at from4 ≡ Some (record { value = row.wait; rest = from5 }) = field_at-count row.wait from5 fits.row.wait refl in
    let earlier : field_at from5 ≡ Some (record { value = line.earlier; rest = end }) = field_at-count line.earlier end fits.earlier refl in
    let last : behind (codes "\n") end ≡ Some rest = behind-word (codes "\n") rest in
    rw (word, region, n, come, gone, wait, earlier, last) refl

joined : (a b c d e f g h t t1 t2 t3 t4 t5 t6 t7 rest : List ℕ) → t ≡ a ++ t1 → t1 ≡ b ++ t2 → t2 ≡ c ++ t3 → t3 ≡ d ++ t4 → t4 ≡ e ++ t5 → t5 ≡ f ++ t6 → t6 ≡ g ++ t7 → t7 ≡ h ++ rest →
    t ≡ a ++ b ++ c ++ d ++ e ++ f ++ g ++ h ++ rest
joined a b c d e f g h t t1 t2 t3 t4 t5 t6 t7 rest p p1 p2 p3 p4 p5 p6 p7 = rw (p, p1, p2, p3, p4, p5, p6, p7) (sym (eight a b c d e f g h rest))

pub line-row_line_at : (text : List ℕ) (line : Front RowLine) → row_line_at text ≡ Some line → IsRowLine line.value × (text ≡ row_line line.value ++ line.rest)
unfolding row_line_at row_line
line-row_line_at text line reads =
    let word = chained (behind (codes "row") text) _ line reads in
    let region = chained (field_at word.0) _ line word.2 in
    let n = chained (field_at region.0.rest) _ line region.2 in
    let come = chained (field_at n.0.rest) _ line n.2 in
    let gone = chained (field_at come.0.rest) _ line come.2 in
    let wait = chained (field_at gone.0.rest) _ line gone.2 in
    let earlier = chained (field_at wait.0.rest) _ line wait.2 in
    let last = chained (behind (codes "\n") earlier.0.rest) _ line earlier.2 in
    let p = word-behind (codes "row") text word.0 word.1 in
    let p1 = count-field_at word.0 region.0 region.1 in
    let p2 = count-field_at region.0.rest n.0 n.1 in
    let p3 = count-field_at n.0.rest come.0 come.1 in
    let p4 = count-field_at come.0.rest gone.0 gone.1 in
    let p5 = count-field_at gone.0.rest wait.0 wait.1 in
    let p6 = count-field_at wait.0.rest earlier.0 earlier.1 in
    let p7 = word-behind (codes "\n") earlier.0.rest last.0 last.1 in
    let value : RowLine = record {
      region = region.0.value;
      row = record { n = n.0.value; come = come.0.value; gone = gone.0.value; wait = wait.0.value };
      earlier = earlier.0.value;
    } in
    let same : record { value = value; rest = last.0 } ≡ line = some_same _ _ last.2 in
    let text_is : text ≡ row_line value ++ last.0 =
    joined (codes "row") (count_field region.0.value) (count_field n.0.value) (count_field come.0.value) (count_field gone.0.value) (count_field wait.0.value) (count_field earlier.0.value) (codes "\n")
    text word.0 region.0.rest n.0.rest come.0.rest gone.0.rest wait.0.rest earlier.0.rest last.0 p p1.1 p2.1 p3.1 p4.1 p5.1 p6.1 p7 in
    subst (λ line. IsRowLine line.value × (text ≡ row_line line.value ++ line.rest)) same
    (record { region = p1.0; row = record { n = p2.0; come = p3.0; gone = p4.0; wait = p5.0 }; earlier = p6.0 }, text_is)
