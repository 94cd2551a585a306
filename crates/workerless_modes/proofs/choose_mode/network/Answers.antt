use Rattle.std.proofs.Common.{List, ap, arith, length, subst, sym, ℕ, ◌∙◌}
use Rattle.network_file.specs.Reading.{network_of}
use Rattle.call_ending.specs.Refusing.{IsRefusalOf}
use Rattle.workerless_modes.specs.ChooseMode.{why_of_candidate}
use Rattle.workerless_modes.proofs.Choosing.{told-candidate}
use Rattle.workerless_modes.proofs.choose_mode.network.Goals as goal

pub read-requires : goal.read-requires
read-requires c = omega (arith, c.requires.few_bytes, ap length (c.deref.ensures.value ∙ c.in_ok-file.ensures))

pub returns-in-Ok-clause-network : goal.returns-in-Ok-clause-network
returns-in-Ok-clause-network c = ap network_of (sym (c.deref.ensures.value ∙ c.in_ok-file.ensures)) ∙ c.in-Ok.ensures.network

pub returns-clause-refusal : goal.returns-clause-refusal
returns-clause-refusal c = λ later.
    subst (λ (file : List ℕ). IsRefusalOf (why_of_candidate c.args.p (network_of file) later) ⊥ c.refused_candidate.result) (c.deref.ensures.value ∙ c.in_ok-file.ensures)
    (told-candidate c.args.p (network_of c.deref.result.now) c.in-Err.refusal c.refused_candidate.result later c.in-Err.ensures.refusal c.refused_candidate.ensures)
