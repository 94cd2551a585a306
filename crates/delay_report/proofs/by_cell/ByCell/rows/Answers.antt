use Rattle.std.specs.List.{range_with_len}
use Rattle.std.proofs.Common.{◌≡◌, ◌++◌, ◌∷◌, [], length, map, arith, ap, subst, sym, ◌∙◌}
use Rattle.std.proofs.lemmas.List.FromFn.{map-range_with_len_more}
use Rattle.network_file.specs.Sound.{IsNetwork}
use Rattle.region_step.specs.Grid.{grid_row}
use Rattle.region_step.specs.Setup.{SetupValue}
use Rattle.region_cut.specs.LawfulSteps.{AreLawful}
use Rattle.delay_report.specs.FromStart.{last_rows}
use Rattle.delay_report.proofs.FromStart.{last_rows-true, length-last_rows}
use Rattle.delay_report.proofs.by_cell.ByCell.rows.Goals as goal

pub loop-i-preserved : goal.loop-i-preserved
loop-i-preserved c =
    let setup : SetupValue = c.args.self.now.setup in
    let row = grid_row setup.net setup.chart.cut setup.start setup.net.steps in
    c.in_ok-push.ensures.items ∙ ap (λ rows. rows ++ c.row.result ∷ []) c.loop-i.invariant ∙
    ap (λ last. map row (range_with_len 0 c.loop-i.i) ++ last ∷ []) c.row.ensures ∙ sym (map-range_with_len_more row 0 c.loop-i.i c.loop-i.i (omega arith))

pub returns-clause-rows : goal.returns-clause-rows
unfolding last_rows
returns-clause-rows c =
    let setup : SetupValue = c.args.self.now.setup in
    let net = c.net.view_is ∙ c.net-net.ensures.network ∙ c.layout.ensures.network ∙ ap (λ setup. setup.net) c.setup-setup.ensures.setup ∙ ap (λ now. now.setup.net) c.self.view_is in
    let all : c.loop-i.i ≡ length setup.net.cells = omega (arith, c.loop-i-test.false, c.loop-i.auto.i-end, c.len-i-end.ensures, c.net.inside.cells.ok.0, ap (λ net. length net.cells) net) in
    c.loop-i.invariant ∙ ap (λ n. map (grid_row setup.net setup.chart.cut setup.start setup.net.steps) (range_with_len 0 n)) all

pub returns-clause-one_each : goal.returns-clause-one_each
returns-clause-one_each c =
    ap length (returns-clause-rows c) ∙ length-last_rows c.args.self.now.setup.net c.args.self.now.setup.chart.cut c.args.self.now.setup.start

pub returns-clause-recurrences : goal.returns-clause-recurrences
returns-clause-recurrences c = λ true_start.
    let setup : SetupValue = c.args.self.now.setup in
    let same = c.setup-setup.ensures.setup ∙ ap (λ now. now.setup) c.self.view_is in
    let sound = subst IsNetwork (c.net.view_is ∙ c.net-net.ensures.network ∙ c.layout.ensures.network ∙ ap (λ setup. setup.net) same) c.net.invariant in
    let lawful = subst (λ (setup : SetupValue). AreLawful setup.net setup.chart.cut setup.start.steps) same c.start-start.ensures.lawful in
    returns-clause-rows c ∙ last_rows-true setup.net setup.chart.cut setup.start sound lawful true_start
