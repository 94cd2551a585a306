use Rattle.std.proofs.Common.{◌≡◌, ℕ, List, arith, rules, ap, length, subst, sym, ◌∙◌}
use Rattle.network_file.specs.Sound.{IsNetwork}
use Rattle.border_rows.specs.Places.{base_of, widths_of, words_of}
use Rattle.border_rows.specs.Spans.{spans_of, widths_in}
use Rattle.border_rows.proofs.ChartWidths.{length-widths_of, next_words}
use Rattle.border_rows.proofs.PlaceLaws.{base_all}
use Rattle.border_rows.proofs.Spans.{one_span_more, widths_in-spans_of}
use Rattle.border_rows.proofs.places.Places.new.Goals as goal

pub loop-r-init : goal.loop-r-init
unfolding words_of
loop-r-init c = search rules

pub overflow_cast-width : goal.overflow_cast-width
overflow_cast-width c =
    let next =
    next_words c.args.layout.now.net c.args.layout.now.chart c.loop-r.r c.loop-r.words (length c.border.result.now) c.regions-r-end.ensures.sound
    (subst IsNetwork (c.net.view_is ∙ c.net-net.ensures.network) c.net.invariant) c.net-net.ensures.charted
    (omega (arith, c.regions-r-end.ensures.count)) c.loop-r.invariant.words (ap length c.border.ensures.list) in
    omega (arith, next.2)

pub end-words-requires : goal.end-words-requires
end-words-requires c =
    let next =
    next_words c.args.layout.now.net c.args.layout.now.chart c.loop-r.r c.loop-r.words (length c.border.result.now) c.regions-r-end.ensures.sound
    (subst IsNetwork (c.net.view_is ∙ c.net-net.ensures.network) c.net.invariant) c.net-net.ensures.charted
    (omega (arith, c.regions-r-end.ensures.count)) c.loop-r.invariant.words (ap length c.border.ensures.list) in
    next.2

pub loop-r-preserved : goal.loop-r-preserved
loop-r-preserved c =
    let next =
    next_words c.args.layout.now.net c.args.layout.now.chart c.loop-r.r c.loop-r.words (length c.border.result.now) c.regions-r-end.ensures.sound
    (subst IsNetwork (c.net.view_is ∙ c.net-net.ensures.network) c.net.invariant) c.net-net.ensures.charted
    (omega (arith, c.regions-r-end.ensures.count)) c.loop-r.invariant.words (ap length c.border.ensures.list) in
    record {
      spans =
          c.in_ok-push.ensures.items ∙
          one_span_more (widths_of c.args.layout.now.chart) c.loop-r.spans.items c.loop-r.r c.loop-r.words (length c.border.result.now) c.loop-r.invariant.spans c.loop-r.invariant.words next.0;
      words = c.end-words.ensures ∙ next.1;
    }

pub invariant_of-result : goal.invariant_of-result
invariant_of-result c =
    let widths : List ℕ = widths_of c.args.layout.now.chart in
    let end : c.loop-r.r ≡ length widths = omega (arith, c.loop-r.auto.r-end, c.regions-r-end.ensures.count, length-widths_of c.args.layout.now.chart c.regions-r-end.ensures.sound) in
    let are : c.loop-r.spans.items ≡ spans_of widths = rw (← end) c.loop-r.invariant.spans in
    let back : widths_in c.loop-r.spans.items ≡ widths = ap widths_in are ∙ widths_in-spans_of widths in
    record {
      each = are ∙ ap spans_of (sym back);
      all = c.loop-r.invariant.words ∙ ap (base_of widths) end ∙ base_all widths ∙ ap words_of (sym back);
    }

pub returns : goal.returns
returns c =
    let widths : List ℕ = widths_of c.args.layout.now.chart in
    let end : c.loop-r.r ≡ length widths = omega (arith, c.loop-r.auto.r-end, c.regions-r-end.ensures.count, length-widths_of c.args.layout.now.chart c.regions-r-end.ensures.sound) in
    let are : c.loop-r.spans.items ≡ spans_of widths = rw (← end) c.loop-r.invariant.spans in
    ap widths_in are ∙ widths_in-spans_of widths
