use Rattle.std.proofs.Common.{◌≡◌, length, map, take}
use Rattle.taxonomy.specs.Superclasses.{filled}
use Rattle.taxonomy.proofs.superclasses.sizes_of.Given as goal

abbrev pub invariant-loop-c : goal.invariant-loop-c
invariant-loop-c l = l.sizes.items ≡ map length (take l.c (filled (length l.lists) l.apart l.lists))
