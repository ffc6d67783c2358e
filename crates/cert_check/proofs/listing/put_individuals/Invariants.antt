use Rattle.std.proofs.Common.{take}
use Rattle.cert_check.specs.Additions.{PutsIndividuals}
use Rattle.cert_check.proofs.listing.put_individuals.Given as goal

abbrev pub invariant-loop-i : goal.invariant-loop-i
invariant-loop-i l = PutsIndividuals (take l.i l.elements) l.initial.interpretation l.interpretation
