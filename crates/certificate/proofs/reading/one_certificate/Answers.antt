use Rattle.certificate.proofs.Following.{same_certificate}
use Rattle.certificate.proofs.reading.one_certificate.Goals as goal

pub returns : goal.returns
returns c = same_certificate
