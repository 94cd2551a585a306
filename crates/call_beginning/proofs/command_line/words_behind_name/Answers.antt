use Rattle.std.proofs.Common.{rules, refl}
use Rattle.std.specs.Vec.Iter.{into_iter_items}
use Rattle.std.proofs.lemmas.Iterator.{items_from_drains}
use Rattle.std.proofs.lemmas.Iterator.Adapters.{YieldsList-from_vec}
use Rattle.std.proofs.lemmas.List.{map-id}
use Rattle.call_beginning.proofs.WordsBehind.{behind_first}
use Rattle.call_beginning.proofs.command_line.words_behind_name.Goals as goal

pub returns-in_ok-collect-in-Ok-clause-words : goal.returns-in_ok-collect-in-Ok-clause-words
returns-in_ok-collect-in-Ok-clause-words c =
    let left = into_iter_items c.next-name.new.self in
    let yields = YieldsList-from_vec left refl c.next-name.new.self.rest.ok.0 in
    let drained = c.in_ok-collect-in-Ok.ensures.ran in
    let all = items_from_drains drained.0 drained.1 yields in
    let behind = behind_first (into_iter_items c.in-Ok.args) left c.next-name.result c.next-name.ensures.items (λ some. search rules) in
    search (rules, all, map-id, behind, drained.2)
