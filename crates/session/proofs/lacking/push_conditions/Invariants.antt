use Rattle.std.proofs.Common.{◌≡◌, ◌++◌, take}
use Rattle.std.specs.List.{flat_map}
use Rattle.session.specs.TextAnswers.{condition_lines}
use Rattle.session.proofs.lacking.push_conditions.Given as goal

abbrev pub invariant-loop-condition : goal.invariant-loop-condition
invariant-loop-condition l = l.out.items ≡ l.fn.out.items ++ flat_map (condition_lines l.ontology) (take l.condition-index l.conditions)
