use Rattle.std.specs.Prelude.{map, slice_index, ◌==◌}
use Rattle.std.specs.List.{position_or_len}
use Rattle.std.proofs.Common.{◌≡◌, ℕ, [], ◌∷◌, ◌++◌, length, get_or, take, arith, ap, sym, ◌∙◌}
use Rattle.std.proofs.lemmas.List.{get_or-map, length-map, map-append, take_all, take_more}
use Rattle.region_cut.proofs.Membership.{place-in}
use Rattle.region_body.proofs.Known.{listed}
use Rattle.region_step.proofs.opening.border_places.Goals as goal

pub place-requires-clause-listed : goal.place-requires-clause-listed
place-requires-clause-listed c = listed c.args.cells.now (get_or c.args.border.now c.loop-i.i-index 0) (c.requires.inside c.loop-i.i-index 0 c.loop-i-test.true)

pub loop-i-preserved : goal.loop-i-preserved
loop-i-preserved c =
    let place : ℕ → ℕ = λ i. position_or_len (λ j. j == i) c.args.cells.now in
    c.in_ok-push.ensures.items ∙ ap (λ front. front ++ c.place.result ∷ []) c.loop-i.invariant ∙
    ap (λ p. map place (take c.loop-i.i-index c.args.border.now) ++ p ∷ []) c.place.ensures ∙
    sym (ap (map place) (take_more c.args.border.now c.loop-i.i-index 0 c.loop-i-test.true) ∙ map-append place (take c.loop-i.i-index c.args.border.now) (get_or c.args.border.now c.loop-i.i-index 0 ∷ []))

pub returns : goal.returns
returns c =
    let place : ℕ → ℕ = λ i. position_or_len (λ j. j == i) c.args.cells.now in
    let all : c.loop-i.places.items ≡ map place c.args.border.now =
    c.loop-i.invariant ∙ ap (map place) (take_all c.loop-i.i-index c.args.border.now (omega (arith, c.loop-i-test.false))) in
    record {
      one_each = ap length all ∙ length-map c.args.border.now place;
      each = λ j within.
          let here : slice_index c.loop-i.places.items j ≡ place (slice_index c.args.border.now j) = ap (λ places. slice_index places j) all ∙ get_or-map place c.args.border.now j 0 0 within in
          rw here (place-in c.args.cells.now (slice_index c.args.border.now j) c.requires.increasing (c.requires.inside j 0 within));
    }
