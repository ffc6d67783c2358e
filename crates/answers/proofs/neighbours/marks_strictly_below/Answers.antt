use Rattle.answers.proofs.NamedSides.{strictly_below}
use Rattle.answers.proofs.neighbours.marks_strictly_below.Goals as goal

pub returns : goal.returns
returns c = λ name named.
    strictly_below c.args.indexed.now.ontology name c.args.class named c.in_ok-below.below c.in_ok-above.above c.minus.new.self c.minus.ensures.len c.in_ok-below.ensures c.in_ok-above.ensures c.minus.ensures.members
