use Rattle.answers.proofs.Giving.{condition_gives}
use Rattle.answers.proofs.theory.what_conditions_give.Goals as goal

pub returns : goal.returns
returns c = λ o w a class e named number f there each. condition_gives o w a class e named number f there each
