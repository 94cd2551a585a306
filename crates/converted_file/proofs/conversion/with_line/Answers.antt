use Rattle.std.proofs.Common.{rules, ◌≡◌, ◌++◌, ◌∷◌, ◌<◌, [], ◌∙◌, length, get_or, arith}
use Rattle.converted_file.proofs.JoinedLemmas.{line-first, line-more}
use Rattle.converted_file.proofs.conversion.with_line.Goals.{then-i-gt0+in_ok-push, else-i-gt0}
use Rattle.converted_file.proofs.conversion.with_line.Goals as goal

pub loop-i-preserved : goal.loop-i-preserved
loop-i-preserved c =
    let fields = c.args.row.now in
    let i = c.loop-i.i in
    let text = c.loop-i.text.items in
    let there : i < length fields = search rules in
    let grown : c.extend_from_slice.new.self.items ≡ c.if-i-gt0.text.items ++ get_or fields i [] = search rules in
    grown ∙ (elim c.if-i-gt0.branch [
      | then-i-gt0+in_ok-push w ↦
          let comma : w.push.new.self.items ≡ text ++ 44 ∷ [] = search rules in
          rw w.text-is (line-more c.args.text.items text w.push.new.self.items fields i (omega arith) there c.loop-i.invariant comma)
      | else-i-gt0 w ↦ rw w.text-is (line-first c.args.text.items text fields i (omega arith) there c.loop-i.invariant)
    ])
