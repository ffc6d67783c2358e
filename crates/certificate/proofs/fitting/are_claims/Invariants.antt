use Rattle.std.proofs.Common.{◌≡◌, drop, map, None}
use Rattle.certificate.specs.Tests.{fit_claims}
use Rattle.certificate.specs.View.{claim_of}
use Rattle.certificate.proofs.fitting.are_claims.Given as goal

abbrev pub invariant-loop-claim : goal.invariant-loop-claim
invariant-loop-claim l = fit_claims l.ontology l.domain l.last (map claim_of (drop l.claim-index l.claims)) ≡ fit_claims l.ontology l.domain None (map claim_of l.claims)
