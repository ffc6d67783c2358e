use Rattle.inference.specs.Visits.{AreSpared}
use Rattle.inference.proofs.spared.all_spared.Given as goal

abbrev pub invariant-loop-number : goal.invariant-loop-number
invariant-loop-number l = AreSpared l.problem.forms l.row
