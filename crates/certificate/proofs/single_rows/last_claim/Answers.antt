use Rattle.std.proofs.Common.{ap, sym, refl}
use Rattle.certificate.specs.Tests.{key}
use Rattle.certificate.specs.View.{claim_of}
use Rattle.certificate.proofs.LastRow.{last_seen}
use Rattle.certificate.proofs.single_rows.last_claim.Goals as goal

pub returns-in-len1-up : goal.returns-in-len1-up
returns-in-len1-up c = sym (ap key (last_seen claim_of c.args.claims.now _ _ c.in-len1-up.len_at_least refl))
