use Rattle.std.proofs.Common.{◌-◌, ◌≤◌, length}
use Rattle.std.specs.String.{string_bytes}
use Rattle.entailment.proofs.individuals.letters.Given as goal

abbrev pub invariant-loop-text : goal.invariant-loop-text
invariant-loop-text l = length (string_bytes l.text) ≤ l.count

abbrev pub decreases-loop-text : goal.decreases-loop-text
decreases-loop-text l = l.count - length (string_bytes l.text)
