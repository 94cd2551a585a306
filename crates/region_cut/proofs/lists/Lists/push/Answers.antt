use Rattle.region_cut.proofs.ListsByRegion.{pushed}
use Rattle.region_cut.proofs.lists.Lists.push.Goals as goal

pub returns-clause-lists : goal.returns-clause-lists
returns-clause-lists g c =
    pushed (λ list. list.items) c.self.inside.lists.items c.args.self.now c.args.r c.index_mut-list.result.now c.push.new.self c.args.item
    c.self.view_is c.requires c.index_mut-list.ensures.value c.in_ok-push.ensures.items
