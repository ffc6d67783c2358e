use Rattle.std.proofs.Common.{◌≡◌, map, take}
use Rattle.property_closure.proofs.shared_lists.SharedLists.copy.Given as goal

abbrev pub invariant-loop-list : goal.invariant-loop-list
invariant-loop-list l = map (λ list. list.value.items) l.lists.items ≡ map (λ list. list.value.items) (take l.list-index l.list-items)
