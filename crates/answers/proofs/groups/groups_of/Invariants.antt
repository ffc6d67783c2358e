use Rattle.std.proofs.Common.{map, take}
use Rattle.answers.proofs.Grouping.{AreGroupsOf}
use Rattle.answers.proofs.groups.groups_of.Given as goal

abbrev pub invariant-loop-name : goal.invariant-loop-name
invariant-loop-name l = AreGroupsOf l.ontology (take l.name-index (map (λ s. s.now) l.names)) (map (λ g. map (λ s. s.now) g.items) l.groups.items)
