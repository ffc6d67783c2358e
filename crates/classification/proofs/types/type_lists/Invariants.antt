use Rattle.std.proofs.Common.{take}
use Rattle.classification.specs.Lists.{AreTypeLists}
use Rattle.classification.proofs.types.type_lists.Given as goal

abbrev pub invariant-loop-fact : goal.invariant-loop-fact
invariant-loop-fact l = AreTypeLists l.ontology (take l.fact-index l.facts) l.lists
