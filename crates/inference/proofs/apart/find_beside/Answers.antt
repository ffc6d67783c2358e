use Rattle.std.proofs.Common.{refl}
use Rattle.inference.proofs.Parting.{none_beside}
use Rattle.inference.proofs.apart.find_beside.Goals as goal

pub returns-in-None-clause-none : goal.returns-in-None-clause-none
returns-in-None-clause-none c = λ none. none_beside c.args.facts.now.facts c.args.context c.args.beside.now (c.in-None.ensures.none refl) (c.find_operand-in-None.ensures.none none)
