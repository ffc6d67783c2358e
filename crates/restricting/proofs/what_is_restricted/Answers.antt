use Rattle.restricting.proofs.RestrictedRuns.{restricted_runs}
use Rattle.restricting.proofs.what_is_restricted.Goals as goal

pub returns : goal.returns
returns c = restricted_runs
