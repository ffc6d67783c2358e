use Rattle.std.proofs.Common.{◌≡◌, take}
use Rattle.taxonomy.proofs.superclasses.copy_of.Given as goal

abbrev pub invariant-loop-k : goal.invariant-loop-k
invariant-loop-k l = l.copies ≡ take l.k l.lists
