use Rattle.generated_part.specs.Elements.{ArePairsAt}
use Rattle.generated_part.proofs.by_element.pairs_at.Given as goal

abbrev pub invariant-loop-number : goal.invariant-loop-number
invariant-loop-number l = ArePairsAt l.interpretation l.number l.element l.found.items
