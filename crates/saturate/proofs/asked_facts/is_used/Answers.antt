use Rattle.saturate.proofs.Asking.{some_there}
use Rattle.saturate.proofs.asked_facts.is_used.Goals as goal

pub returns-clause-some : goal.returns-clause-some
returns-clause-some c = λ yes. some_there c.args.list.now c.is_empty.result c.is_empty.ensures yes
