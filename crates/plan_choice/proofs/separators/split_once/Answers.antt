use Rattle.std.specs.Prelude.{drop, take}
use Rattle.std.proofs.Common.{◌≡◌, ◌∷◌, ◌++◌, ◌+◌, ◌-◌, ℕ, List, ap, arith, false, length, length-drop, sym, take-add, true, ◌∙◌}
use Rattle.std.proofs.lemmas.List.{drop-drop, take_rest}
use Rattle.plan_choice.specs.Pieces.{is_separator, pieces_in}
use Rattle.plan_choice.proofs.Cutting.{leads, pieces-begin, pieces-found, pieces-more, pieces-whole}
use Rattle.plan_choice.proofs.separators.split_once.Goals as goal

pub loop-at-init : goal.loop-at-init
loop-at-init c = record { inside = omega arith; front = pieces-begin c.args.text.now }

pub returns-then-is_separator-clause-pieces : goal.returns-then-is_separator-clause-pieces
returns-then-is_separator-clause-pieces c =
    let text : List ℕ = c.args.text.now in
    let at : ℕ = c.loop-at.at in
    let end : ℕ = c.first_line-end.result in
    let rest : List ℕ = take (length text - at) (drop at text) in
    let before : pieces_in text ≡ leads (take at text) (pieces_in rest) = c.loop-at.invariant.front ∙ ap (λ r. leads (take at text) (pieces_in r)) (sym (take_rest text at)) in
    let is : is_separator (take end rest) ≡ true = sym c.is_separator.ensures ∙ c.if-is_separator.true in
    pieces-found text (take at text) rest (drop end rest) (take end rest) before c.first_line-end.ensures.line is ∙
    ap (λ r. take at text ∷ pieces_in r) (sym (take_rest rest end))

pub loop-at-preserved : goal.loop-at-preserved
loop-at-preserved c =
    let text : List ℕ = c.args.text.now in
    let at : ℕ = c.loop-at.at in
    let end : ℕ = c.first_line-end.result in
    let rest : List ℕ = take (length text - at) (drop at text) in
    let same : rest ≡ drop at text = take_rest text at in
    let before : pieces_in text ≡ leads (take at text) (pieces_in rest) = c.loop-at.invariant.front ∙ ap (λ r. leads (take at text) (pieces_in r)) (sym same) in
    let other : is_separator (take end rest) ≡ false = sym c.is_separator.ensures ∙ c.if-is_separator.false in
    let front : take at text ++ take end rest ≡ take (at + end) text = ap (λ r. take at text ++ take end r) same ∙ sym (take-add at end text) in
    let behind : drop end rest ≡ drop (at + end) text = ap (drop end) same ∙ drop-drop end at text in
    record {
      inside = omega (arith, c.first_line-end.ensures.inside, ap length same, length-drop at text);
      front = pieces-more text (take at text) rest (drop end rest) (take end rest) before c.first_line-end.ensures.line other ∙
          ap (λ f. leads f (pieces_in (drop end rest))) front ∙ ap (λ r. leads (take (at + end) text) (pieces_in r)) behind;
    }

pub returns-clause-pieces : goal.returns-clause-pieces
returns-clause-pieces c = pieces-whole c.args.text.now c.loop-at.at (omega (arith, c.loop-at-test.false)) c.loop-at.invariant.front
