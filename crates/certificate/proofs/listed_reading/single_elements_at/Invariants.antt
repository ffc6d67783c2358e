use Rattle.std.proofs.Common.{length}
use Rattle.certificate.specs.ListedReading.{element_at}
use Rattle.certificate.proofs.Many.{IsReadSoFar}
use Rattle.certificate.proofs.listed_reading.single_elements_at.Given as goal

abbrev pub invariant-loop-element : goal.invariant-loop-element
invariant-loop-element l = IsReadSoFar (λ _. element_at) l.fn.bytes l.items.items l.rest

abbrev pub decreases-loop-element : goal.decreases-loop-element
decreases-loop-element l = length l.rest
