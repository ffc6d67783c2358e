use Rattle.receiving.proofs.AcceptedRight.{accepted_right}
use Rattle.receiving.proofs.accepted_texts_are_right.Goals as goal

pub returns : goal.returns
returns c = accepted_right
