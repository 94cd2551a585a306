use Rattle.std.proofs.Common.{◌≡◌, ℕ, ◌≤◌, ◌+◌, ◌*◌, ◌/◌, ◌%◌, [], ◌∷◌, ◌++◌, length, ap, arith, subst, sym, ◌∙◌, mul_comm}
use Rattle.std.proofs.lemmas.List.{length_push}
use Rattle.cut_grow.specs.Most.{IsTable}
use Rattle.cut_grow.proofs.Tabling.{table-more}
use Rattle.cut_grow.proofs.table.table.Goals as goal

pub loop-entry-preserved : goal.loop-entry-preserved
loop-entry-preserved c =
    let entry : ℕ = c.loop-entry.entry in
    let in_row : entry % (c.args.sizes.larges + 1) ≤ c.args.sizes.larges = omega arith in
    let product : (c.args.sizes.larges + 1) * (entry / (c.args.sizes.larges + 1)) ≡ entry / (c.args.sizes.larges + 1) * (c.args.sizes.larges + 1) = mul_comm (c.args.sizes.larges + 1) (entry / (c.args.sizes.larges + 1)) in
    let here : length c.loop-entry.best.items ≡ entry / (c.args.sizes.larges + 1) * (c.args.sizes.larges + 1) + entry % (c.args.sizes.larges + 1) = omega (arith, product, c.loop-entry.invariant.long) in
    let more : c.push.new.self.items ≡ c.loop-entry.best.items ++ c.most.result ∷ [] = c.in_ok-push.ensures.items in
    record {
      table =
          subst (IsTable c.args.sizes c.args.gains.now.spans.items) (sym more)
          (table-more c.args.sizes c.args.gains.now.spans.items c.loop-entry.best.items (entry / (c.args.sizes.larges + 1)) (entry % (c.args.sizes.larges + 1)) c.most.result
          c.loop-entry.invariant.table in_row here c.most.ensures);
      long = ap length more ∙ length_push c.loop-entry.best.items c.most.result ∙ ap (λ n. n + 1) c.loop-entry.invariant.long;
    }
