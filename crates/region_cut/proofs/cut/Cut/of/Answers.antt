use Rattle.std.proofs.Common.{◌≡◌, length, arith, ap, sym, ◌∙◌, Ok}
use Rattle.region_cut.proofs.CutFaults.{cut_of-Length, cut_of-Many, cut_of-Gap, cut_of-Ok}
use Rattle.region_cut.proofs.cut.Cut.of.Goals as goal

pub returns-then-list-len-clause-refusal : goal.returns-then-list-len-clause-refusal
returns-then-list-len-clause-refusal c =
    let cells : length c.net.inside.cells.items ≡ length c.args.net.now.cells = ap (λ net. length net.cells) c.net.view_is in
    cut_of-Length c.args.net.now c.args.list.now (λ same. absurd (c.if-list-len.true (omega (arith, cells, same, c.net.inside.cells.ok.0))))

pub returns-then-not-are_few-clause-refusal : goal.returns-then-not-are_few-clause-refusal
returns-then-not-are_few-clause-refusal c =
    let cells : length c.net.inside.cells.items ≡ length c.args.net.now.cells = ap (λ net. length net.cells) c.net.view_is in
    let same : length c.args.list.now ≡ length c.args.net.now.cells = omega (arith, cells, c.net.inside.cells.ok.0) in
    cut_of-Many c.args.net.now c.args.list.now same (sym c.are_few.ensures ∙ c.if-not-are_few.true)

pub returns-then-not-branch-clause-refusal : goal.returns-then-not-branch-clause-refusal
returns-then-not-branch-clause-refusal c =
    let cells : length c.net.inside.cells.items ≡ length c.args.net.now.cells = ap (λ net. length net.cells) c.net.view_is in
    let same : length c.args.list.now ≡ length c.args.net.now.cells = omega (arith, cells, c.net.inside.cells.ok.0) in
    cut_of-Gap c.args.net.now c.args.list.now same (sym c.are_few.ensures ∙ c.if-not-are_few.false) (sym c.in_ok-has_no_gap.ensures ∙ c.if-not-branch.true)

pub returns-clause-cut : goal.returns-clause-cut
returns-clause-cut c =
    let cells : length c.net.inside.cells.items ≡ length c.args.net.now.cells = ap (λ net. length net.cells) c.net.view_is in
    let same : length c.args.list.now ≡ length c.args.net.now.cells = omega (arith, cells, c.net.inside.cells.ok.0) in
    cut_of-Ok c.args.net.now c.args.list.now same (sym c.are_few.ensures ∙ c.if-not-are_few.false) (sym c.in_ok-has_no_gap.ensures ∙ c.if-not-branch.false) ∙
    ap Ok (sym c.in_ok-regions.ensures)
