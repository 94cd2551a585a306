use Rattle.std.specs.Prelude.{min}
use Rattle.std.proofs.Common.{◌≡◌, ℕ, List, length, ap, arith, subst, ◌∙◌}
use Rattle.workerless_modes.specs.CutMode.{ShowsGrown, cutting_text}
use Rattle.workerless_modes.proofs.cut_mode.grown_beside_even.Goals as goal

pub returns : goal.returns
returns c =
    let net = c.args.net.now in
    let list : List ℕ = c.in_ok-list.list.items in
    let cells : length c.net.inside.cells.items ≡ length c.args.net.now.cells = ap (λ net. length net.cells) c.net.view_is in
    let k : c.min-k.result ≡ min c.args.regions (length c.args.net.now.cells) = omega (arith, c.min-k.ensures, c.len.ensures, c.net.inside.cells.ok.0, cells) in
    let shows : ShowsGrown net c.min-k.result c.in_ok-text.text.items = record {
      list = list;
      grown = c.in_ok-list.ensures.grown;
      text_is = c.in_ok-text.ensures ∙ ap (cutting_text net c.min-k.result) c.deref.ensures.value;
    } in
    subst (λ n. ShowsGrown net n c.in_ok-text.text.items) k shows
