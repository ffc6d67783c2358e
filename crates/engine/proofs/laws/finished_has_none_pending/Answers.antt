use Rattle.engine.proofs.NothingNew.{none_pending}
use Rattle.engine.proofs.laws.finished_has_none_pending.Goals as goal

pub returns : goal.returns
returns c = none_pending
