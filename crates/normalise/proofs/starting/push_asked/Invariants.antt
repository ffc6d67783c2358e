use Rattle.std.proofs.Common.{◌≡◌, ◌++◌, map, take}
use Rattle.facts.specs.declared.contexts.Context.TheVariants as contexts
use Rattle.normalise.proofs.starting.push_asked.Given as goal

abbrev pub invariant-loop-expression : goal.invariant-loop-expression
invariant-loop-expression l = l.roots.items ≡ l.initial.roots.items ++ map contexts.Expr (take l.expression-index l.asked)
