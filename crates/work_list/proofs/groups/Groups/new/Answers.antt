use Rattle.work_list.proofs.Chains.{none_held}
use Rattle.work_list.proofs.groups.Groups.new.Goals as goal

pub invariant_of-result : goal.invariant_of-result
invariant_of-result c = rw (c.new.ensures.items, c.new-2.ensures.items) none_held
