use Rattle.std.proofs.Common.{length, option_map}
use Rattle.certificate.specs.View.{run_of}
use Rattle.certificate.proofs.RunReading.{AreNumbersSoFar}
use Rattle.certificate.proofs.listed_reading.few_elements_at.Given as goal

abbrev pub invariant-loop-run : goal.invariant-loop-run
invariant-loop-run l = AreNumbersSoFar l.domain l.bytes l.elements.items (option_map run_of l.before) l.rest

abbrev pub decreases-loop-run : goal.decreases-loop-run
decreases-loop-run l = length l.rest
