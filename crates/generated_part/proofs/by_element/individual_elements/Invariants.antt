use Rattle.std.proofs.Common.{◌≡◌, take}
use Rattle.generated_part.proofs.by_element.individual_elements.Given as goal

abbrev pub invariant-loop-number : goal.invariant-loop-number
invariant-loop-number l = l.elements.items ≡ take l.number l.interpretation.individuals
