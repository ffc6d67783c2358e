use Rattle.std.proofs.Common.{◌↔◌, ℕ, Contains, take}
use Rattle.answers.specs.Neighbours.{PutsOneBelow}
use Rattle.answers.proofs.lists_above.classes_by.Given as goal

abbrev pub invariant-loop-number : goal.invariant-loop-number
invariant-loop-number l = (d : ℕ) → Contains l.found.items d ↔ PutsOneBelow l.ontology l.facts (take l.number-index l.numbers) d
