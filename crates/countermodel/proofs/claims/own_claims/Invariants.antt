use Rattle.std.proofs.Common.{map}
use Rattle.certificate.specs.View.{claim_of}
use Rattle.countermodel.proofs.FirstClaims.{AreFirstClaims}
use Rattle.countermodel.proofs.claims.own_claims.Given as goal

abbrev pub invariant-loop-number : goal.invariant-loop-number
invariant-loop-number l = AreFirstClaims l.ontology l.elements l.number (map claim_of l.claims.items)
