use Rattle.std.proofs.Common.{◌≡◌, arith, take}
use Rattle.std.proofs.lemmas.List.{take_more}
use Rattle.network_file.specs.Cutting.{greatest}
use Rattle.network_file.proofs.CuttingLemmas.{greatest-push}
use Rattle.network_file.proofs.cutting.greatest.Goals.{then-number-most, else-number-most}
use Rattle.network_file.proofs.cutting.greatest.Goals as goal

pub loop-number-preserved : goal.loop-number-preserved
loop-number-preserved c =
    let numbers = c.args.numbers.now in
    let i = c.loop-number.number-index in
    let before : c.loop-number.most ≡ greatest (take i numbers) = c.loop-number.invariant in
    rw (take_more numbers i 0 (omega arith), greatest-push) (
    elim c.if-number-most.branch [ then-number-most w ↦ omega arith | else-number-most w ↦ omega arith ]
    )
