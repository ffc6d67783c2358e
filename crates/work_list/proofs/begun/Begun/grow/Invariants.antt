use Rattle.std.proofs.Common.{◌≤◌, ◌-◌, ◌+◌, length}
use Rattle.work_list.specs.Groups.{HaveSame}
use Rattle.work_list.proofs.begun.Begun.grow.Given as goal

abbrev pub invariant-loop-self : goal.invariant-loop-self
invariant-loop-self l = record {
  same : HaveSame l.fn.self.contexts.items l.self.contexts.items;
  longer : length l.fn.self.contexts.items ≤ length l.self.contexts.items;
}

abbrev pub decreases-loop-self : goal.decreases-loop-self
decreases-loop-self l = l.context + 1 - length l.self.contexts.items
