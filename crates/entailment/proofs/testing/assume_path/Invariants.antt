use Rattle.std.proofs.Common.{◌≡◌, ◌+◌, take}
use Rattle.axioms.specs.View.{prop_numbers}
use Rattle.entailment.specs.Tests.{path_from, with_axioms}
use Rattle.entailment.proofs.testing.assume_path.Given as goal

abbrev pub invariant-loop-property : goal.invariant-loop-property
invariant-loop-property l = (l.builder ≡ with_axioms l.initial.builder (path_from l.fn.first.0 (prop_numbers (take l.property-index l.chain)))) × (l.source.0 ≡ l.fn.first.0 + l.property-index)
