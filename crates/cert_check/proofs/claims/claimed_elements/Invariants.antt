use Rattle.std.proofs.Common.{map, take}
use Rattle.certificate.specs.View.{claim_of}
use Rattle.cert_check.specs.Lists.{AreClaimed}
use Rattle.cert_check.proofs.claims.claimed_elements.Given as goal

abbrev pub invariant-loop-claim : goal.invariant-loop-claim
invariant-loop-claim l = AreClaimed l.ontology (map claim_of (take l.claim-index l.claims)) l.elements.items
