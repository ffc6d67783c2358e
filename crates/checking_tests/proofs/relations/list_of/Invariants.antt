use Rattle.std.proofs.Common.{◌<◌, All}
use Rattle.checking_tests.proofs.relations.list_of.Given as goal

abbrev pub invariant-loop-first : goal.invariant-loop-first
invariant-loop-first l = All (λ d. d < l.n) l.list.items
