use Rattle.std.proofs.Common.{take}
use Rattle.classification.specs.Lists.{AreClassLists}
use Rattle.classification.proofs.relation.class_lists.Given as goal

abbrev pub invariant-loop-fact : goal.invariant-loop-fact
invariant-loop-fact l = AreClassLists l.ontology (take l.fact-index l.facts) l.lists
