-- Facts from which others are drawn, with their numbers.
use Rattle.facts.specs.declared.contexts.Fact.{Fact}
use Rattle.facts.specs.declared.contexts.Fact.TheVariants.{In, Edge}
use Rattle.inference.specs.declared.premises.ClassPremise.{ClassPremise}
use Rattle.inference.specs.declared.premises.EdgePremise.{EdgePremise}

-- the fact that puts the class into the context
abbrev pub class_fact : ClassPremise → Fact
class_fact p = In p.class p.context

-- the fact that is the edge
abbrev pub edge_fact : EdgePremise → Fact
edge_fact p = Edge p.source p.property p.target
