use Rattle.entailment.proofs.Deciding.{tests_decide}
use Rattle.entailment.proofs.laws.what_tests_decide.Goals as goal

pub returns : goal.returns
returns c = tests_decide
