use Rattle.explain.specs.Search.{LeadsUp}
use Rattle.explain.proofs.Telling.{AreToldOfFirst}
use Rattle.explain.proofs.told.told_from.Given as goal

abbrev pub invariant-loop-form : goal.invariant-loop-form
invariant-loop-form l = AreToldOfFirst (LeadsUp l.problem.forms) l.fn.property.0 l.form-items l.form-index l.told.items
