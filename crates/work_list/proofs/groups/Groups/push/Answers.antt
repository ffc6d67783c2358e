use Rattle.std.proofs.Common.{List, subst}
use Rattle.work_list.specs.declared.item.Item.{Item}
use Rattle.work_list.specs.Bag.{Adds}
use Rattle.work_list.specs.Waiting.{items_in}
use Rattle.work_list.proofs.Waiting.{pushed}
use Rattle.work_list.proofs.groups.Groups.push.Goals as goal

pub returns-clause-ok : goal.returns-clause-ok
returns-clause-ok c = subst (λ (xs : List Item). Adds c.args.item xs (items_in c.add.new.self)) c.reach.ensures.items
    (pushed c.reach.new.self c.add.new.self c.args.item.context c.args.item.fact c.in_ok-reach.ensures.ok c.in_ok-add.ensures.ok)
