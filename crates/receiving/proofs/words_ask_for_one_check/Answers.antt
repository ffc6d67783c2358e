use Rattle.receiving.proofs.Received.{words_check}
use Rattle.receiving.proofs.words_ask_for_one_check.Goals as goal

pub returns : goal.returns
returns c = words_check
