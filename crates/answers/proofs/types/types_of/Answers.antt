use Rattle.closure.specs.Closure.{IsRoot}
use Rattle.answers.proofs.types.types_of.Goals as goal

pub selected-requires-clause-root : goal.selected-requires-clause-root
selected-requires-clause-root c = IsRoot.individual c.args.individual.0 c.requires
