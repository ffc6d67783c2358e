use Rattle.countermodel.proofs.Sets.{admits_only}
use Rattle.countermodel.proofs.satisfiable.Satisfiable.only.Goals as goal

pub returns : goal.returns
returns c = λ x. admits_only c.args.contexts c.in_ok-nothings.nothings c.in_ok-nothings.ensures x
