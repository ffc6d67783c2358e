use Rattle.std.proofs.Common.{◌≡◌, length}
use Rattle.countermodel.proofs.cuts.some_keys.Given as goal

abbrev pub invariant-loop-some : goal.invariant-loop-some
invariant-loop-some l = length l.keys ≡ l.edges.properties
