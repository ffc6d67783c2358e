use Rattle.cert_check.proofs.OneSubclass.{one_subclass_is_accepted, is_accepted_in_format_two}
use Rattle.cert_check.proofs.Contradiction.{contradiction_is_accepted}
use Rattle.cert_check.proofs.OneElement.{same_is_accepted, denied_is_accepted}
use Rattle.cert_check.proofs.theory.worked_certificates.Goals as goal

pub returns : goal.returns
returns c = record { one_subclass = one_subclass_is_accepted; format_two = is_accepted_in_format_two; contradiction = contradiction_is_accepted; different = same_is_accepted; denied = denied_is_accepted }
