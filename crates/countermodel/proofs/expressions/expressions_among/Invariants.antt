use Rattle.std.proofs.Common.{◌↔◌, ℕ, Contains, take}
use Rattle.countermodel.specs.ContextLists.{expression_at}
use Rattle.countermodel.proofs.expressions.expressions_among.Given as goal

abbrev pub invariant-loop-context : goal.invariant-loop-context
invariant-loop-context l = (e : ℕ) → Contains l.expressions.items e ↔ Contains (take l.context-index l.contexts) (expression_at e)
