use Rattle.explain.specs.Search.{LeadsOver}
use Rattle.explain.proofs.Telling.{AreToldOfFirst}
use Rattle.explain.proofs.told.links_from.Given as goal

abbrev pub invariant-loop-form : goal.invariant-loop-form
invariant-loop-form l = AreToldOfFirst (LeadsOver l.problem.forms) l.fn.individual.0 l.form-items l.form-index l.links.items
