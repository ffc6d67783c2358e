use Rattle.work_list.specs.Waiting.{AllStand}
use Rattle.work_list.proofs.by_context.next.Given as goal

abbrev pub invariant-loop-context : goal.invariant-loop-context
invariant-loop-context l = AllStand l.groups l.stack.items

abbrev pub decreases-loop-context : goal.decreases-loop-context
decreases-loop-context l = goal.left-loop-context l
