use Rattle.std.proofs.Common.{sym, subst}
use Rattle.indexes.specs.FactIndex.{IsFrom}
use Rattle.saturate.specs.ServedFacts.{AreNumbersOf}
use Rattle.saturate.specs.State.{Ended}
use Rattle.engine.proofs.indexed.Indexed.edges_from.Goals as goal

pub returns : goal.returns
returns c = rw (← c.self.view_is) (subst (λ (e : Ended). AreNumbersOf (IsFrom c.args.context) e.facts c.all_edges_from.result.now) (sym c.self.invariant.0) c.all_edges_from.ensures)
