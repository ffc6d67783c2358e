use Rattle.std.proofs.Common.{◌≡◌, filter, not, take}
use Rattle.number_sets.specs.Members.{has}
use Rattle.taxonomy.proofs.least.put_unmarked.Given as goal

abbrev pub invariant-loop-c : goal.invariant-loop-c
invariant-loop-c l = l.ordered.items ≡ filter (λ c. not (has l.marked c)) (take l.c-index l.numbers)
