use Rattle.std.proofs.Common.{◌≡◌, ℕ, List, [], sym, ap, ◌∙◌, arith}
use Rattle.std.proofs.lemmas.Bool.Decides.{nat_tests}
use Rattle.std.proofs.lemmas.List.{nil_from_length}
use Rattle.step_plan.specs.Changes.{in_force}
use Rattle.step_plan.specs.declared.change.Change.{Change}
use Rattle.step_plan.proofs.Changes.{in_force-nil}
use Rattle.timelines.specs.Timelines.{value_at}
use Rattle.timelines.proofs.timeline.Timeline.is_constant.Goals as goal

constant : {X : Type 0} (start : X) (changes : List (Change X)) (s : ℕ) → changes ≡ [] → in_force start changes s ≡ start
constant start changes s none = ap (λ list. in_force start list s) none ∙ in_force-nil start s

pub returns : goal.returns
returns g c = λ empty s t.
    let line = c.self.inside in
    let zero : line.changes.len ≡ 0 = grind (arith, nat_tests) in
    let none : line.changes.items ≡ [] = nil_from_length line.changes.items (omega (arith, line.changes.ok.0)) in
    ap (λ timeline. value_at timeline s) (sym c.self.view_is)
    ∙ constant line.start line.changes.items s none ∙ sym (constant line.start line.changes.items t none)
    ∙ ap (λ timeline. value_at timeline t) c.self.view_is
