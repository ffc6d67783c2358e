use Rattle.cert_check.proofs.BothFormats.{acceptable_in_both}
use Rattle.cert_check.proofs.theory.acceptable_in_both_formats.Goals as goal

pub returns : goal.returns
returns c = acceptable_in_both
