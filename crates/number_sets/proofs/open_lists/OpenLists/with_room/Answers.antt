use Rattle.number_sets.proofs.Growing.{map-replicate_more}
use Rattle.number_sets.proofs.open_lists.OpenLists.with_room.Goals as goal

pub loop-items-preserved : goal.loop-items-preserved
loop-items-preserved g c = rw c.in_ok-push.ensures.items (map-replicate_more _ c.loop-items.lists.items c.loop-items.items-index _ c.loop-items.invariant c.in_ok-list.ensures.items)
