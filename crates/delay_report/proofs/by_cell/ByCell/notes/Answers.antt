use Rattle.std.specs.List.{range_with_len}
use Rattle.std.proofs.Common.{◌≡◌, ◌≢◌, ◌++◌, ◌∷◌, [], length, map, arith, ap, subst, sym, ◌∙◌}
use Rattle.std.proofs.lemmas.List.FromFn.{length-map-range_with_len, map-range_with_len_more}
use Rattle.network_file.specs.Sound.{IsNetwork}
use Rattle.region_step.specs.Setup.{SetupValue}
use Rattle.region_cut.specs.LawfulSteps.{AreLawful}
use Rattle.delay_report.specs.FromStart.{grid_note}
use Rattle.delay_report.specs.Notes.{all_notes, recorded_step}
use Rattle.delay_report.proofs.FromStart.{all_notes-true}
use Rattle.delay_report.proofs.RecordedSteps.{recorded_count-never}
use Rattle.delay_report.proofs.by_cell.ByCell.notes.Goals as goal

pub loop-i-preserved : goal.loop-i-preserved
loop-i-preserved c =
    let setup : SetupValue = c.args.self.now.setup in
    let note = grid_note setup.net setup.chart.cut setup.start (recorded_step setup.net.steps setup.every c.args.k) in
    c.in_ok-push.ensures.items ∙ ap (λ notes. notes ++ c.note.result ∷ []) c.loop-i.invariant ∙
    ap (λ last. map note (range_with_len 0 c.loop-i.i) ++ last ∷ []) c.note.ensures ∙ sym (map-range_with_len_more note 0 c.loop-i.i c.loop-i.i (omega arith))

pub returns-clause-notes : goal.returns-clause-notes
unfolding all_notes
returns-clause-notes c =
    let setup : SetupValue = c.args.self.now.setup in
    let net = c.net.view_is ∙ c.net-net.ensures.network ∙ c.layout.ensures.network ∙ ap (λ setup. setup.net) c.setup-setup.ensures.setup ∙ ap (λ now. now.setup.net) c.self.view_is in
    let all : c.loop-i.i ≡ length setup.net.cells = omega (arith, c.loop-i-test.false, c.loop-i.auto.i-end, c.len-i-end.ensures, c.net.inside.cells.ok.0, ap (λ net. length net.cells) net) in
    c.loop-i.invariant ∙ ap (λ n. map (grid_note setup.net setup.chart.cut setup.start (recorded_step setup.net.steps setup.every c.args.k)) (range_with_len 0 n)) all

pub returns-clause-one_each : goal.returns-clause-one_each
unfolding all_notes
returns-clause-one_each c =
    let setup : SetupValue = c.args.self.now.setup in
    ap length (returns-clause-notes c) ∙
    length-map-range_with_len (grid_note setup.net setup.chart.cut setup.start (recorded_step setup.net.steps setup.every c.args.k)) 0 (length setup.net.cells)

pub returns-clause-recurrences : goal.returns-clause-recurrences
returns-clause-recurrences c = λ true_start.
    let setup : SetupValue = c.args.self.now.setup in
    let same = c.setup-setup.ensures.setup ∙ ap (λ now. now.setup) c.self.view_is in
    let sound = subst IsNetwork (c.net.view_is ∙ c.net-net.ensures.network ∙ c.layout.ensures.network ∙ ap (λ setup. setup.net) same) c.net.invariant in
    let lawful = subst (λ (setup : SetupValue). AreLawful setup.net setup.chart.cut setup.start.steps) same c.start-start.ensures.lawful in
    let some : setup.every ≢ 0 = λ never. omega (arith, c.requires.noted, recorded_count-never setup.net.steps setup.every never) in
    returns-clause-notes c ∙ all_notes-true setup sound lawful true_start (c.requires.from_zero some) (recorded_step setup.net.steps setup.every c.args.k)
