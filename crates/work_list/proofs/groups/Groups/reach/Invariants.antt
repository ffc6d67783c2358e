use Rattle.std.proofs.Common.{◌≡◌, ◌-◌, ◌+◌, length}
use Rattle.work_list.specs.Waiting.{IsSame, items_in}
use Rattle.work_list.proofs.groups.Groups.reach.Given as goal

abbrev pub invariant-loop-self : goal.invariant-loop-self
invariant-loop-self l = record {
  same : IsSame l.fn.self l.self;
  items : items_in l.self ≡ items_in l.fn.self;
}

abbrev pub decreases-loop-self : goal.decreases-loop-self
decreases-loop-self l = l.context + 1 - length l.self
