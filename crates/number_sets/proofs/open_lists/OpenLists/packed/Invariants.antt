use Rattle.std.proofs.Common.{◌≡◌, map, take}
use Rattle.number_sets.proofs.open_lists.OpenLists.packed.Given as goal

abbrev pub invariant-loop-list : goal.invariant-loop-list
invariant-loop-list g l = l.packed ≡ map (λ v. v.items) (take l.list-index l.list-items)
