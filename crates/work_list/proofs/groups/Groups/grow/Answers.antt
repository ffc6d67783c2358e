use Rattle.std.proofs.Common.{◌∷◌}
use Rattle.work_list.proofs.Chains.{grown, grown_lists}
use Rattle.work_list.proofs.groups.Groups.grow.Goals as goal

pub invariant_of-self-2 : goal.invariant_of-self-2
invariant_of-self-2 c = rw (c.push_reserved.ensures.items, c.make_room.ensures.items) (grown c.self.inside.nodes.items (c.self.inside.free ∷ c.self.inside.heads.items) c.self.invariant)

pub returns-clause-ok : goal.returns-clause-ok
returns-clause-ok c = rw (← c.self.view_is) rw (c.push_reserved.ensures.items, c.make_room.ensures.items) (grown_lists c.self.inside.nodes.items c.self.inside.heads.items)
