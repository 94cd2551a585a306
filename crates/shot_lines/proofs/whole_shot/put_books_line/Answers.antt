use Rattle.std.specs.Prelude.{codes}
use Rattle.std.proofs.Common.{◌≡◌, ℕ, List, ◌++◌, append_assoc, rules}
use Rattle.std.proofs.Transfers.{starts_with_of_append, starts_with_trans}
use Rattle.line_fields.specs.Fields.{count_field}
use Rattle.line_fields.specs.SignedFields.{signed_field}
use Rattle.shot_lines.specs.ShotText.{books_line}
use Rattle.shot_lines.proofs.whole_shot.put_books_line.Goals as goal

eight : (text a b c d e f g h : List ℕ) → (((((((text ++ a) ++ b) ++ c) ++ d) ++ e) ++ f) ++ g) ++ h ≡ text ++ (((((((a ++ b) ++ c) ++ d) ++ e) ++ f) ++ g) ++ h)
eight text a b c d e f g h = simp append_assoc

pub returns-in_err-put_signed-5-clause-kept : goal.returns-in_err-put_signed-5-clause-kept
returns-in_err-put_signed-5-clause-kept c =
    let begun : c.extend_from_slice.new.self.items ≡ c.args.text.now.items ++ codes "shot" = search rules in
    starts_with_trans _ _ _ c.put_signed-5.ensures.kept (starts_with_trans _ _ _ c.put_signed-4.ensures.kept (starts_with_trans _ _ _ c.put_signed-3.ensures.kept
    (starts_with_trans _ _ _ c.put_signed-2.ensures.kept (starts_with_trans _ _ _ c.put_signed.ensures.kept
    (starts_with_trans _ _ _ c.put_count.ensures.kept (starts_with_of_append _ _ _ begun))))))

pub returns-clause-line : goal.returns-clause-line
unfolding books_line
returns-clause-line c =
    let begun : c.extend_from_slice.new.self.items ≡ c.args.text.now.items ++ codes "shot" = search rules in
    let number : c.put_count.new.text.items ≡ c.extend_from_slice.new.self.items ++ count_field c.args.number = search rules in
    let inside : c.put_signed.new.text.items ≡ c.put_count.new.text.items ++ signed_field c.args.books.now.inside = search rules in
    let flight : c.put_signed-2.new.text.items ≡ c.put_signed.new.text.items ++ signed_field c.args.books.now.flight = search rules in
    let initial : c.put_signed-3.new.text.items ≡ c.put_signed-2.new.text.items ++ signed_field c.args.books.now.initial = search rules in
    let entered : c.put_signed-4.new.text.items ≡ c.put_signed-3.new.text.items ++ signed_field c.args.books.now.entered = search rules in
    let left : c.put_signed-5.new.text.items ≡ c.put_signed-4.new.text.items ++ signed_field c.args.books.now.left = search rules in
    let ended : c.extend_from_slice-2.new.self.items ≡ c.put_signed-5.new.text.items ++ codes "\n" = search rules in
    rw (ended, left, entered, initial, flight, inside, number, begun) (eight c.args.text.now.items (codes "shot") (count_field c.args.number) (signed_field c.args.books.now.inside) (signed_field c.args.books.now.flight)
    (signed_field c.args.books.now.initial) (signed_field c.args.books.now.entered) (signed_field c.args.books.now.left) (codes "\n"))

pub returns-clause-kept : goal.returns-clause-kept
returns-clause-kept c = starts_with_of_append _ _ _ (returns-clause-line c)
