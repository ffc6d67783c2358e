use Rattle.exactness.proofs.Acceptance.{shown_is_acceptable}
use Rattle.exactness.proofs.what_is_shown_is_acceptable.Goals as goal

pub returns : goal.returns
returns c = shown_is_acceptable
