use Rattle.statements_text.proofs.Sayable.{trees_said}
use Rattle.statements_text.proofs.trees_can_be_said.Goals as goal

pub returns : goal.returns
returns c = trees_said
