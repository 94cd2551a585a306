use Rattle.std.proofs.Common.{refl, subst, sym}
use Rattle.saved_run.specs.Reading.{content_of}
use Rattle.call_ending.specs.Refusing.{IsRefusalOf}
use Rattle.saved_modes.proofs.Resuming.{fault-told, gone-on, loaded-starts, told-on, why-none}
use Rattle.saved_modes.proofs.resume_mode.resume_text.Goals as goal

pub report_on-requires-clause-can_start : goal.report_on-requires-clause-can_start
report_on-requires-clause-can_start g c = λ lifetimes outlive. rw c.of-layout.ensures (loaded-starts _ _ _ _ c.in-Ok.ensures.loaded)

pub returns-clause-text : goal.returns-clause-text
returns-clause-text g c = (
  why-none (content_of c.args.input.now) c.in-Ok.saved.net c.in-Ok.saved.chart c.in-Ok.saved.start c.in-Ok.ensures.loaded,
  gone-on (content_of c.args.input.now) c.in-Ok.saved.net c.in-Ok.saved.chart c.in-Ok.saved.start c.in_ok-text.text.items c.in-Ok.ensures.loaded
      (rw c.of-layout.ensures at c.in_ok-text.ensures.text),
)

pub returns-clause-told : goal.returns-clause-told
returns-clause-told g c =
    told-on (g.W.Observer.told_held c.args.observer.now) (g.W.Observer.told_freed c.args.observer.now) (content_of c.args.input.now) c.in-Ok.saved.net c.in-Ok.saved.chart c.in-Ok.saved.start c.in-Ok.ensures.loaded
    (rw c.of-layout.ensures at (c.in_ok-text.ensures.told refl))

pub returns-in-Err-Fault-clause-refusal : goal.returns-in-Err-Fault-clause-refusal
returns-in-Err-Fault-clause-refusal g c =
    subst (λ why. IsRefusalOf why ⊥ c.unsaved.result) (sym (fault-told (content_of c.args.input.now) c.in-Err-Fault.fault (rw c.in-Err-Fault.field-0-is at c.in-Err-Fault.ensures.refusal))) (rw c.in-Err-Fault.field-0-is at c.unsaved.ensures)
