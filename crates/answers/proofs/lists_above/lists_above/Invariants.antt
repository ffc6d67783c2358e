use Rattle.answers.proofs.Listing.{AreFirstLists}
use Rattle.answers.proofs.lists_above.lists_above.Given as goal

abbrev pub invariant-loop-class : goal.invariant-loop-class
invariant-loop-class l = AreFirstLists l.indexed.ontology l.marks l.indexed.saturation.state.facts l.class l.lists
