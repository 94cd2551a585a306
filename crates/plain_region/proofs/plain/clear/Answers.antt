use Rattle.std.specs.Prelude.{None, replicate}
use Rattle.std.proofs.Common.{length, arith, sym, ◌∙◌}
use Rattle.std.proofs.lemmas.List.{ext_get_or, get_or-replicate, length-replicate}
use Rattle.plain_region.proofs.plain.clear.Goals as goal

pub returns : goal.returns
returns c =
    ext_get_or None c.loop-j.put (replicate (length c.args.put.now) None) (c.loop-j.auto.put ∙ sym (length-replicate (length c.args.put.now) None))
    (λ j within. c.loop-j.invariant j (omega (arith, within, c.loop-j-test.false, c.loop-j.auto.put)) ∙
    sym (get_or-replicate (length c.args.put.now) j None None (omega (arith, within, c.loop-j.auto.put))))
