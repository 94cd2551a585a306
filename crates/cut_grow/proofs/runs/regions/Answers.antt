use Rattle.std.specs.Prelude.{map, slice_index}
use Rattle.std.proofs.Common.{◌≡◌, ℕ, ◌<◌, [], ◌∷◌, ◌++◌, length, get_or, take, ap, arith, sym, ◌∙◌}
use Rattle.std.proofs.lemmas.List.{get_or_default, map_more}
use Rattle.cut_grow.specs.Grown.{runs_from}
use Rattle.cut_grow.proofs.RunNumbers.{length-runs_from}
use Rattle.cut_grow.proofs.runs.regions.Goals as goal

pub index-requires : goal.index-requires
index-requires c =
    omega (
      arith,
      ap length c.in_ok-runs.ensures,
      length-runs_from 0 c.args.sizes.now,
      c.requires.there c.loop-place.place-index 0 c.loop-place-test.true,
      c.in_ok-runs.runs.ok.0,
    )

pub loop-place-preserved : goal.loop-place-preserved
loop-place-preserved c =
    let place : ℕ = get_or c.args.places.now c.loop-place.place-index 0 in
    let there : place < length c.in_ok-runs.runs.items =
    omega (arith, ap length c.in_ok-runs.ensures, length-runs_from 0 c.args.sizes.now, c.requires.there c.loop-place.place-index 0 c.loop-place-test.true) in
    let read : c.index.result.now ≡ get_or (runs_from 0 c.args.sizes.now) place 0 =
    c.index.ensures ∙ get_or_default c.in_ok-runs.runs.items place c.index.result.now 0 there ∙ ap (λ items. get_or items place 0) c.in_ok-runs.ensures in
    c.in_ok-push.ensures.items ∙ ap (λ front. front ++ c.index.result.now ∷ []) c.loop-place.invariant ∙
    ap (λ region. map (slice_index (runs_from 0 c.args.sizes.now)) (take c.loop-place.place-index c.args.places.now) ++ region ∷ []) read ∙
    sym (map_more (slice_index (runs_from 0 c.args.sizes.now)) c.args.places.now c.loop-place.place-index 0 c.loop-place-test.true)
