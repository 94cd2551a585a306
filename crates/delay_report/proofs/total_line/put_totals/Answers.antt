use Rattle.std.specs.Int.{w128}
use Rattle.std.proofs.Common.{◌≡◌, ◌<◌, ◌^◌, ℕ, List, ◌++◌, ap, append_assoc, arith, length, pos, rules, subst, to_z, of_z, ◌∙◌}
use Rattle.network_file.specs.Sound.{IsNetwork}
use Rattle.network_file.proofs.NetworkFacts.{few_cells}
use Rattle.flow_ledger.specs.Books.{entered_of, inside_of, left_of}
use Rattle.flow_ledger.specs.Balances.{books_of}
use Rattle.line_fields.specs.Fields.{amount_field}
use Rattle.flow_model.specs.State.{delay_of}
use Rattle.delay_report.specs.Report.{totals}
use Rattle.delay_report.proofs.total_line.put_totals.Goals as goal

four : (text a b c d : List ℕ) → (((text ++ a) ++ b) ++ c) ++ d ≡ text ++ (((a ++ b) ++ c) ++ d)
four text a b c d = simp append_assoc

pub returns : goal.returns
unfolding books_of totals
returns c =
    let books = c.books-books.ensures.books in
    let whole_inside : to_z w128 (of_z w128 c.books-books.result.inside) ≡ c.books-books.result.inside = search rules in
    let whole_entered : to_z w128 (of_z w128 c.books-books.result.entered) ≡ c.books-books.result.entered = search rules in
    let whole_left : to_z w128 (of_z w128 c.books-books.result.left) ≡ c.books-books.result.left = search rules in
    let inside = c.in_ok-put_signed.ensures.amount (inside_of c.args.net.now c.args.rows.now) (whole_inside ∙ ap (λ books. books.inside) books) in
    let entered = c.in_ok-put_signed-2.ensures.amount (entered_of c.args.net.now c.args.rows.now) (whole_entered ∙ ap (λ books. books.entered) books) in
    let left = c.in_ok-put_signed-3.ensures.amount (left_of c.args.net.now c.args.rows.now) (whole_left ∙ ap (λ books. books.left) books) in
    let few : length c.args.rows.now < 2 ^ 32 = omega (arith, c.requires, few_cells c.args.net.now (subst IsNetwork c.net.view_is c.net.invariant)) in
    let small : c.total_delay.result < 2 ^ 127 = omega (arith, c.total_delay.ensures.most, few) in
    let whole_delay : to_z w128 c.total_delay.result ≡ pos c.total_delay.result = search (small, rules) in
    let delay = c.in_ok-put_signed-4.ensures.amount (delay_of c.args.rows.now) (whole_delay ∙ ap pos c.total_delay.ensures.sum) in
    let begun = left ∙ ap (λ text. text ++ amount_field (left_of c.args.net.now c.args.rows.now)) (entered ∙ ap (λ text. text ++ amount_field (entered_of c.args.net.now c.args.rows.now)) inside) in
    delay ∙ ap (λ text. text ++ amount_field (delay_of c.args.rows.now)) begun ∙
    four c.args.text.now.items (amount_field (inside_of c.args.net.now c.args.rows.now)) (amount_field (entered_of c.args.net.now c.args.rows.now))
    (amount_field (left_of c.args.net.now c.args.rows.now)) (amount_field (delay_of c.args.rows.now))
