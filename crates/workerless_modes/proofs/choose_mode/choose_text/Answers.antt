use Rattle.std.proofs.Common.{arith}
use Rattle.workerless_modes.proofs.Choosing.{cut-refusal, cut-text, files-few, plans-told}
use Rattle.workerless_modes.proofs.choose_mode.choose_text.Goals as goal

pub returns-in-Ok-clause-text : goal.returns-in-Ok-clause-text
returns-in-Ok-clause-text g c =
    cut-text c.args.input.now c.in-Ok.pieces c.in-Ok.ensures.pieces (λ text. text.items) c.text_of.result c.in-Ok.ensures.counted.0 c.in-Ok.ensures.counted.1 c.text_of.ensures.text

pub returns-in-Ok-clause-refusal : goal.returns-in-Ok-clause-refusal
returns-in-Ok-clause-refusal g c =
    cut-refusal c.args.input.now c.in-Ok.pieces c.in-Ok.ensures.pieces c.text_of.result c.in-Ok.ensures.counted.0 c.in-Ok.ensures.counted.1 c.text_of.ensures.refusal

pub text_of-requires-clause-few_bytes : goal.text_of-requires-clause-few_bytes
text_of-requires-clause-few_bytes g c = λ lifetimes outlive p. omega (arith, files-few c.args.input.now c.in-Ok.pieces c.in-Ok.ensures.pieces p, c.requires)

pub returns-in-Err-Fault-clause-refusal : goal.returns-in-Err-Fault-clause-refusal
returns-in-Err-Fault-clause-refusal g c =
    plans-told c.args.input.now c.in-Err-Fault.count.found c.miscounted.result (rw c.in-Err-Fault.field-0-is at c.in-Err-Fault.ensures.refusal) c.miscounted.ensures
