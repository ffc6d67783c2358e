use Rattle.statements_text.proofs.StatedSaid.{stated_said}
use Rattle.statements_text.proofs.stated_can_be_said.Goals as goal

pub returns : goal.returns
returns c = stated_said
