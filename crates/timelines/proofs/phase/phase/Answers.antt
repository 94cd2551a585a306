use Rattle.std.proofs.Common.{◌≡◌, ℕ, ap, sym, ◌∙◌, arith}
use Rattle.timelines.proofs.Phases.{before_green, behind_green, in_green}
use Rattle.timelines.proofs.phase.phase.Goals.{then-place-from, else-place-from+then-place-to, else-place-from+else-place-to}
use Rattle.timelines.proofs.phase.phase.Goals as goal

pub returns-clause-steady : goal.returns-clause-steady
returns-clause-steady c = λ s later before.
    let signal = c.args.signal in
    let offset : signal.offset ≡ c.from.result = sym (c.from.ensures ∙ ap (λ one. one.offset) c.signal.view_is) in
    let cycle : signal.cycle ≡ c.from-cycle.result = sym (c.from-cycle.ensures ∙ ap (λ one. one.cycle) c.signal.view_is) in
    let from : signal.from ≡ c.from-from.result = sym (c.from-from.ensures ∙ ap (λ one. one.from) c.signal.view_is) in
    let to : signal.to ≡ c.from-to.result = sym (c.from-to.ensures ∙ ap (λ one. one.to) c.signal.view_is) in
    let t : ℕ = c.args.t in
    let end : ℕ = c.if-place-from.end in
    rw (offset, cycle, from, to) (
    elim c.if-place-from.branch [
      | then-place-from w ↦
          before_green c.from-from.result c.from-to.result t s c.from.result c.from-cycle.result end later (omega arith) before (omega arith)
      | else-place-from+then-place-to w ↦
          in_green c.from-from.result c.from-to.result t s c.from.result c.from-cycle.result end later (omega arith) before
          w.if-place-from.false (omega arith)
      | else-place-from+else-place-to w ↦
          behind_green c.from-from.result c.from-to.result t s c.from.result c.from-cycle.result end later (omega arith) before
          w.if-place-to.false
    ]
    )
