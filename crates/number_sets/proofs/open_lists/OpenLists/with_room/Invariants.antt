use Rattle.std.proofs.Common.{◌≡◌, [], map, replicate}
use Rattle.number_sets.proofs.open_lists.OpenLists.with_room.Given as goal

abbrev pub invariant-loop-items : goal.invariant-loop-items
invariant-loop-items g l = map (λ v. v.items) l.lists.items ≡ replicate l.items-index []
