use Rattle.std.proofs.Common.{arith}
use Rattle.number_sets.proofs.Growing.{map-pushed, map-rewritten}
use Rattle.number_sets.proofs.open_lists.OpenLists.push.Goals as goal

pub returns-in-Ok-clause-ok : goal.returns-in-Ok-clause-ok
returns-in-Ok-clause-ok g c =
    map-pushed (λ v. v.items) c.self.inside.lists.items c.args.self.now c.args.k c.args.x c.index_mut-list.result.now c.push.new.self (omega arith) c.self.view_is c.index_mut-list.ensures.value c.in-Ok.ensures.items

pub returns-in_default-clause-err : goal.returns-in_default-clause-err
returns-in_default-clause-err g c =
    map-rewritten (λ v. v.items) c.self.inside.lists.items c.args.self.now c.args.k c.index_mut-list.result.now c.push.new.self (omega arith) c.self.view_is c.index_mut-list.ensures.value c.in_default.ensures.items
