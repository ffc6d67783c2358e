use Rattle.std.proofs.Common.{sym, subst}
use Rattle.indexes.specs.FactIndex.{IsIn}
use Rattle.saturate.specs.ServedFacts.{AreNumbersOf}
use Rattle.saturate.specs.State.{Ended}
use Rattle.engine.proofs.indexed.Indexed.classes_in.Goals as goal

pub returns : goal.returns
returns c = rw (← c.self.view_is) (subst (λ (e : Ended). AreNumbersOf (IsIn c.args.context) e.facts c.all_classes_in.result.now) (sym c.self.invariant.0) c.all_classes_in.ensures)
