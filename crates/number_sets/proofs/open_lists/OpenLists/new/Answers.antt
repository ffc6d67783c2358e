use Rattle.number_sets.proofs.Growing.{map-replicate_more}
use Rattle.number_sets.proofs.open_lists.OpenLists.new.Goals as goal

pub loop-preserved : goal.loop-preserved
loop-preserved g c = rw c.in_ok-push.ensures.items (map-replicate_more _ c.loop.lists.items c.loop.counter _ c.loop.invariant c.new.ensures.items)
