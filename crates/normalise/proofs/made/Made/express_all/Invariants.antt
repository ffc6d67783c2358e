use Rattle.normalise.specs.Growth.{IsFreshAt}
use Rattle.normalise.specs.Steps.{ExpressedTo}
use Rattle.normalise.specs.View.{Adds}
use Rattle.normalise.proofs.made.Made.express_all.Given as goal

abbrev pub invariant-loop-number : goal.invariant-loop-number
invariant-loop-number l = Adds l.initial.self l.self (ExpressedTo l.ontology.nodes (IsFreshAt l.right.marks.now l.right.before.now) (IsFreshAt l.left.marks.now l.left.before.now) l.numbers l.number-index)
