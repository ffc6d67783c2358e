use Rattle.std.proofs.Common.{◌≡◌, ◌≤◌, ◌⊎◌, length, take}
use Rattle.inference.specs.Predicates.{AreListed}
use Rattle.inference.proofs.known_facts.unlist.Given as goal

abbrev pub invariant-loop-end : goal.invariant-loop-end
invariant-loop-end l = record {
  within : l.end ≤ length l.facts;
  low : (l.end ≡ length l.facts) ⊎ (l.len ≤ l.end);
  listed : AreListed (take l.end l.facts) l.lists;
}

abbrev pub decreases-loop-end : goal.decreases-loop-end
decreases-loop-end l = l.end
