use Rattle.std.proofs.Common.{◌≡◌, ℕ, ◌+◌, ◌-◌, List, ◌++◌, length, take, drop, ap, ◌∙◌, subst, sym, rules}
use Rattle.std.proofs.Math.Seq.{take-add}
use Rattle.std.proofs.lemmas.List.{take_rest}
use Rattle.std.specs.Io.KnownBytes.{Appends}
use Rattle.std.proofs.KnownBytes.{Appends-trans}
use Rattle.ctm_ports.proofs.writing.write_all.Goals as goal

-- the text before a place, and then n bytes of what is left of it
take_more : (at n : ℕ) (text : List ℕ) → take at text ++ take n (take (length text - at) (drop at text)) ≡ take (at + n) text
take_more at n text = ap (λ rest. take at text ++ take n rest) (take_rest text at) ∙ sym (take-add at n text)

-- what was taken before, and the piece just taken, are the text before the new place
pub loop-at-preserved : goal.loop-at-preserved
loop-at-preserved g c = record {
  in_text = search rules;
  took = subst (Appends _ _) (take_more c.loop-at.at c.in-Took.n c.args.text.now) (Appends-trans _ _ _ _ _ c.loop-at.invariant.took c.in-Took.ensures.took);
  faults_never_fall = search rules;
  wants_never_fall = search rules;
}
