use Rattle.std.specs.Prelude.{IsSomeAnd}
use Rattle.std.proofs.Common.{◌≡◌, ◌≤◌, length, refl, arith, ap, subst, sym, ◌∙◌}
use Rattle.std.proofs.lemmas.List.FromFn.{length-map-range_with_len}
use Rattle.network_file.specs.Formats.{most_records}
use Rattle.network_file.specs.Sound.{IsNetwork}
use Rattle.network_file.proofs.NetworkFacts.{few_records}
use Rattle.saved_run.specs.Content.{IsContent}
use Rattle.saved_run.specs.Laws.{HasTrueStart}
use Rattle.saved_run.specs.Reading.{content_of}
use Rattle.saved_run.specs.SavedLength.{most_saved}
use Rattle.saved_run.specs.SavedText.{saved_text}
use Rattle.saved_run.specs.Shown.{content_shown, line_shown}
use Rattle.saved_run.proofs.Futures.{shown-moment}
use Rattle.saved_run.proofs.Lengths.{saved_text-short}
use Rattle.saved_run.proofs.Shown.{row_lines-shown, rows-of_regions, rows-shown}
use Rattle.saved_run.proofs.Starts.{shot-has_true_start}
use Rattle.saved_run.proofs.Texts.{content_of-saved_text, saved_text-content_of}
use Rattle.saved_run.proofs.saving.save.Goals as goal

pub returns-clause-text : goal.returns-clause-text
unfolding saved_text
returns-clause-text c =
    let count : c.from.result ≡ length c.args.room.now.steps = omega (arith, c.from.ensures, c.regions.ensures.count, c.requires.room.steps) in
    rw (c.in_ok-extend_from_slice-2.ensures.items, c.in_ok-extend_from_slice.ensures.items, c.in_ok-put_row_lines.ensures.lines, c.in_ok-put_step_lines.ensures.lines, c.in_ok-put_counted_line.ensures, c.new-text.ensures.items, c.steps.ensures, count, row_lines-shown c.args.layout.now.chart.cut c.args.room.now) refl

pub returns-clause-reads : goal.returns-clause-reads
returns-clause-reads c =
    let content = content_shown c.args.layout.now.chart.cut c.args.room.now c.args.network.now in
    let is_content : IsContent content = record {
      some = omega (arith, c.requires.room.steps);
      few = omega (arith, c.requires.room.steps, c.regions.ensures.count, c.regions.ensures.few);
      steps = rw c.steps.ensures at c.in_ok-put_step_lines.ensures.numbers;
      rows = rows-shown c.args.layout.now.chart.cut c.args.room.now c.in_ok-put_row_lines.ensures.numbers;
      network = c.requires.network;
    } in
    ap content_of (returns-clause-text c) ∙ content_of-saved_text content is_content

pub returns-clause-short : goal.returns-clause-short
returns-clause-short c =
    let cut = c.args.layout.now.chart.cut in
    let content = content_shown cut c.args.room.now c.args.network.now in
    let sound = subst IsNetwork (c.net.view_is ∙ c.net-net.ensures.network) c.net.invariant in
    let is = saved_text-content_of _ content (returns-clause-reads c) in
    let few : length content.rows ≤ most_records 2 =
    omega (arith, length-map-range_with_len (line_shown cut c.args.room.now) 0 (length cut), c.net-net.ensures.one_each, few_records c.args.layout.now.net.format, sound.sound.few_cells) in
    subst (λ text. length text ≤ most_saved) (sym is.text)
    (saved_text-short content is.is_content few (rows-of_regions cut c.args.room.now c.regions.ensures.sound.cutting.few))

pub returns-clause-true_start : goal.returns-clause-true_start
returns-clause-true_start c = λ net start shot.
    subst (λ found. IsSomeAnd found (λ content. HasTrueStart content net c.args.layout.now.chart.cut)) (sym (returns-clause-reads c)) (shot-has_true_start c.args.network.now net c.args.layout.now.chart.cut start c.args.room.now shot)

pub returns-clause-moment : goal.returns-clause-moment
returns-clause-moment c = λ net shot. shown-moment c.args.network.now net c.args.layout.now.chart.cut c.args.room.now shot
