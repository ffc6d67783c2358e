use Rattle.std.proofs.Common.{◌≡◌, map}
use Rattle.answers.specs.Conditions.{stated_pair}
use Rattle.answers.proofs.Stating.{stated_first}
use Rattle.answers.proofs.conditions.conditions_for.Given as goal

abbrev pub invariant-loop-place : goal.invariant-loop-place
invariant-loop-place l = map stated_pair l.found.items ≡ stated_first l.class.0 l.place l.axioms
