use Rattle.normalise.proofs.ProblemForms.{makes_the_problem}
use Rattle.normalise.proofs.problem.normal_forms_make_the_problem.Goals as goal

pub returns : goal.returns
returns c = λ o v roots normal are. makes_the_problem o v normal roots are
