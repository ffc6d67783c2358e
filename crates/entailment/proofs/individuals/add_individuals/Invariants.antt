use Rattle.std.proofs.Common.{◌≡◌, List, length}
use Rattle.axioms.specs.Expression.{Iri}
use Rattle.entailment.specs.Tests.{with_individuals}
use Rattle.entailment.proofs.individuals.add_individuals.Given as goal

abbrev pub invariant-loop-number : goal.invariant-loop-number
invariant-loop-number l = (names : List Iri) × (length names ≡ l.number) × (l.builder ≡ with_individuals l.initial.builder names)
