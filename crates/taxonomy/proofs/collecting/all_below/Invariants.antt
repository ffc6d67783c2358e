use Rattle.std.proofs.Common.{◌≡◌}
use Rattle.taxonomy.specs.Texts.{numbers_below}
use Rattle.taxonomy.proofs.collecting.all_below.Given as goal

abbrev pub invariant-loop-k : goal.invariant-loop-k
invariant-loop-k l = l.numbers.items ≡ numbers_below l.k
