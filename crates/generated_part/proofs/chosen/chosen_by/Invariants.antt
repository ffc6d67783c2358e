use Rattle.generated_part.specs.Part.{AreChosen}
use Rattle.generated_part.proofs.chosen.chosen_by.Given as goal

abbrev pub invariant-loop-element : goal.invariant-loop-element
invariant-loop-element l = AreChosen l.marks l.element l.elements.items l.places.items
