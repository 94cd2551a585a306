use Rattle.std.specs.List.{range_with_len}
use Rattle.std.proofs.Common.{◌≡◌, length, ap, arith, subst, sym, ◌∙◌}
use Rattle.cut_grow.specs.Orders.{IsPermutation}
use Rattle.cut_grow.specs.Walk.{file_order}
use Rattle.cut_grow.proofs.EvenRuns.{best-no_more}
use Rattle.cut_grow.proofs.FileOrder.{file-order}
use Rattle.cut_grow.proofs.growing.grow.Goals.{After-deref}
use Rattle.cut_grow.proofs.growing.grow.Goals as goal

order : (c : After-deref) → c.deref.result.now ≡ file_order c.args.net.now
order c =
    let cells : length c.net.inside.cells.items ≡ length c.args.net.now.cells = ap (λ net. length net.cells) c.net.view_is in
    let long : c.len.result ≡ length c.args.net.now.cells = omega (arith, c.len.ensures, c.net.inside.cells.ok.0, cells) in
    c.deref.ensures.value ∙ c.in_ok-file_order.ensures ∙ ap (range_with_len 0) long

pub best_in-requires-clause-order : goal.best_in-requires-clause-order
best_in-requires-clause-order c =
    subst (IsPermutation (length c.args.net.now.cells)) (sym (order (goal.at.best_in-requires-clause-order c).After-deref)) (file-order (length c.args.net.now.cells))

pub returns-then-in_walk-in_file-clause-no_more : goal.returns-then-in_walk-in_file-clause-no_more
returns-then-in_walk-in_file-clause-no_more c =
    best-no_more c.args.net.now c.args.k c.deref.result.now c.in_ok-in_file.in_file.regions.items c.in_ok-in_walk.in_walk.regions.items c.in_ok-in_file.in_file.kept c.in_ok-in_walk.in_walk.kept
    c.requires.some c.requires.few c.requires.cells (order (goal.at.returns-then-in_walk-in_file-clause-no_more c).After-deref) c.in_ok-in_file.ensures (omega (arith, c.if-in_walk-in_file.true)) c.in_ok-in_walk.ensures.rest

pub returns-else-in_walk-in_file-clause-no_more : goal.returns-else-in_walk-in_file-clause-no_more
returns-else-in_walk-in_file-clause-no_more c =
    best-no_more c.args.net.now c.args.k c.deref.result.now c.in_ok-in_file.in_file.regions.items c.in_ok-in_file.in_file.regions.items c.in_ok-in_file.in_file.kept c.in_ok-in_file.in_file.kept
    c.requires.some c.requires.few c.requires.cells (order (goal.at.returns-else-in_walk-in_file-clause-no_more c).After-deref) c.in_ok-in_file.ensures (omega arith) c.in_ok-in_file.ensures.rest
