use Rattle.std.proofs.Common.{◌≡◌, map}
use Rattle.certificate.specs.View.{claim_of}
use Rattle.narrowing.specs.Renumbered.{renumbered_claim}
use Rattle.certificate.proofs.Stepwise.{mapped_until}
use Rattle.narrowing.proofs.renumbering.renumber_claims.Given as goal

abbrev pub invariant-loop-claim : goal.invariant-loop-claim
invariant-loop-claim g l = map claim_of l.claim-items ≡ mapped_until (renumbered_claim (g.N.Numbering.number l.numbering)) l.claim-index (map claim_of l.fn.claims.items)
