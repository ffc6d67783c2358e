use Rattle.closure.proofs.Said.{said, sayer}
use Rattle.closure.proofs.numbers_say_the_closure.Goals as goal

pub returns : goal.returns
returns c = λ o asked b k h. (said o asked b k h, sayer o asked b k h)
