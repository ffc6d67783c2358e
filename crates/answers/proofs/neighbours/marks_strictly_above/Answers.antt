use Rattle.answers.proofs.NamedSides.{strictly_above}
use Rattle.answers.proofs.neighbours.marks_strictly_above.Goals as goal

pub returns : goal.returns
returns c = λ name named.
    strictly_above c.args.indexed.now.ontology name c.args.class named c.in_ok-above.above c.in_ok-below.below c.minus.new.self c.minus.ensures.len c.in_ok-above.ensures c.in_ok-below.ensures c.minus.ensures.members
