use Rattle.std.proofs.Common.{length}
use Rattle.certificate.proofs.KeptPremises.{IsKeptSoFar}
use Rattle.certificate.proofs.single_lines.kept_premises.Given as goal

abbrev pub invariant-loop-premise : goal.invariant-loop-premise
invariant-loop-premise l = IsKeptSoFar l.format l.number l.most l.fn.bytes l.kept.items l.fit l.rest

abbrev pub decreases-loop-premise : goal.decreases-loop-premise
decreases-loop-premise l = length l.rest
