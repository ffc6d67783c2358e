use Rattle.std.proofs.Common.{◌<◌, length}
use Rattle.explain.proofs.WalkingUp.{TracesOn}
use Rattle.explain.proofs.walk.walk.Given as goal

abbrev pub invariant-loop-at : goal.invariant-loop-at
invariant-loop-at l = record {
  there : l.at < length l.reached;
  on : TracesOn l.reached l.place l.at l.numbers.items;
}

abbrev pub decreases-loop-at : goal.decreases-loop-at
decreases-loop-at l = l.at
