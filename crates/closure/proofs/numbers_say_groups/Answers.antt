use Rattle.closure.proofs.Said.{same_said, same_sayer}
use Rattle.closure.proofs.numbers_say_groups.Goals as goal

pub returns : goal.returns
returns c = λ o asked b k h i j. (same_said o asked b k h, same_sayer o asked b k h)
