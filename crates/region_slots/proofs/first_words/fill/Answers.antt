use Rattle.std.specs.Prelude.{slice_index}
use Rattle.std.proofs.Common.{◌≡◌, ◌<◌, ◌+◌, ◌-◌, ◌%◌, ℕ, length, get_or, arith, ap, sym, ◌∙◌}
use Rattle.std.proofs.lemmas.List.{get_or_default}
use Rattle.flow_model.specs.State.{occupancy}
use Rattle.region_cut.specs.Chart.{list_at}
use Rattle.border_rows.specs.Places.{row_place, step_place, width_at, widths_of}
use Rattle.border_rows.specs.Words.{border_cell}
use Rattle.border_rows.proofs.ChartWidths.{width_at-widths_of}
use Rattle.border_rows.proofs.ClaimKinds.{within-widths}
use Rattle.border_rows.proofs.PlaceLaws.{base-le-words}
use Rattle.region_slots.proofs.Filling.{filling-more, filling-zero, other_row}
use Rattle.region_slots.proofs.first_words.fill.Goals as goal

pub loop-j-init : goal.loop-j-init
loop-j-init c =
    let chart = c.args.layout.now.chart in
    let step : c.index-step.result.now ≡ slice_index c.args.start.now.steps c.args.r =
    c.index-step.ensures ∙ ap (λ start. get_or start.steps c.args.r c.index-step.result.now) c.start.view_is ∙
    get_or_default c.args.start.now.steps c.args.r c.index-step.result.now 0 (omega (arith, c.requires.steps, c.requires.there)) in
    let place : c.step.result ≡ step_place (widths_of chart) c.args.r = c.step.ensures.place ∙ ap (λ widths. step_place widths c.args.r) c.requires.places in
    rw place (filling-zero chart c.args.start.now c.args.words.now.items c.args.r c.index-step.result.now c.requires.sound c.requires.there c.requires.long step)

pub overflow_cast-j : goal.overflow_cast-j
overflow_cast-j c =
    let chart = c.args.layout.now.chart in
    omega (
      arith,
      c.loop-j-test.true,
      ap length c.border-border.ensures.list,
      width_at-widths_of chart c.args.r,
      base-le-words (widths_of chart) c.args.r (within-widths chart c.args.r c.requires.sound c.requires.there),
      c.requires.few,
    )

pub loop-j-preserved : goal.loop-j-preserved
loop-j-preserved c =
    let chart = c.args.layout.now.chart in
    let start = c.args.start.now in
    let r = c.args.r in
    let j = c.loop-j.j in
    let s : ℕ = c.index-step.result.now in
    let cell : ℕ = slice_index c.border-border.result.now j in
    let step : s ≡ slice_index start.steps r =
    c.index-step.ensures ∙ ap (λ all. get_or all.steps r s) c.start.view_is ∙ get_or_default start.steps r s 0 (omega (arith, c.requires.steps, c.requires.there)) in
    let own : c.row.result ≡ row_place (widths_of chart) r (s % 2) j = c.row.ensures.place ∙ ap (λ widths. row_place widths r (s % 2) j) c.requires.places in
    let other : c.row-in-loop-j.result ≡ row_place (widths_of chart) r ((s + 1) % 2) j =
    c.row-in-loop-j.ensures.place ∙ ap (λ widths. row_place widths r (1 - s % 2) j) c.requires.places ∙ ap (λ parity. row_place (widths_of chart) r parity j) (sym (other_row s)) in
    let wide : j < length (list_at chart.border r) = omega (arith, c.loop-j-test.true, ap length c.border-border.ensures.list) in
    let same : cell ≡ border_cell chart r j = ap (λ list. slice_index list j) c.border-border.ensures.list in
    let there : border_cell chart r j < length start.rows = c.requires.rows r c.requires.there j 0 wide in
    let held : c.index.result.now.n ≡ occupancy start.rows (border_cell chart r j) =
    ap (λ row. row.n) (c.index.ensures ∙ ap (λ all. get_or all.rows cell c.index.result.now) c.start.view_is ∙ ap (λ i. get_or start.rows i c.index.result.now) same ∙
    get_or_default start.rows (border_cell chart r j) c.index.result.now _ there) in
    let earlier : c.index-in-loop-j.result.now ≡ slice_index start.earlier (border_cell chart r j) =
    c.index-in-loop-j.ensures ∙ ap (λ all. get_or all.earlier cell c.index-in-loop-j.result.now) c.start.view_is ∙ ap (λ i. get_or start.earlier i c.index-in-loop-j.result.now) same ∙
    get_or_default start.earlier (border_cell chart r j) c.index-in-loop-j.result.now 0 (omega (arith, there, c.requires.earlier)) in
    rw (own, other, held, earlier)
    (filling-more chart start c.args.words.now.items c.loop-j.words.items r s j c.requires.sound c.requires.there c.requires.long step (omega (arith, wide, width_at-widths_of chart r)) c.loop-j.invariant)

pub returns-clause-filled : goal.returns-clause-filled
returns-clause-filled c =
    let chart = c.args.layout.now.chart in
    let end : c.loop-j.j ≡ width_at (widths_of chart) c.args.r =
    omega (arith, c.loop-j-test.false, c.loop-j.auto.j-end, ap length c.border-border.ensures.list, width_at-widths_of chart c.args.r) in
    record { step = c.loop-j.invariant.step; rows = rw (← end) c.loop-j.invariant.rows }
