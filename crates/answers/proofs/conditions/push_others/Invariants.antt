use Rattle.std.proofs.Common.{◌≡◌, ◌++◌, drop, map}
use Rattle.answers.specs.Conditions.{stated_pair}
use Rattle.answers.proofs.Stating.{stated_by}
use Rattle.answers.proofs.conditions.push_others.Given as goal

abbrev pub invariant-loop-condition : goal.invariant-loop-condition
invariant-loop-condition l =
    map stated_pair l.found.items ++ stated_by l.number l.class.0 (drop l.condition-index l.expressions)
    ≡ map stated_pair l.initial.found.items ++ stated_by l.number l.class.0 l.expressions
