use Rattle.generated_part.specs.Elements.{AreClassesAt}
use Rattle.generated_part.proofs.by_element.classes_at.Given as goal

abbrev pub invariant-loop-number : goal.invariant-loop-number
invariant-loop-number l = AreClassesAt l.interpretation l.number l.element l.found.items
