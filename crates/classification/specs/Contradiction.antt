-- Contexts that nothing is in.
use Rattle.std.specs.Prelude.{◌<◌, ℕ, List, length}
use Rattle.std.specs.List.{Contains}
use Rattle.axioms.specs.Ontology.{Ontology, thing, nothing}
use Rattle.axioms.specs.declared.ids.IndId.{IndId}
use Rattle.normal_forms.specs.declared.forms.Class2.TheVariants.{Expr}
use Rattle.facts.specs.declared.contexts.Context.{Context}
use Rattle.facts.specs.declared.contexts.Context.TheVariants as contexts
use Rattle.facts.specs.declared.contexts.Fact.{Fact}
use Rattle.facts.specs.declared.contexts.Fact.TheVariants.{In}

-- the fact that puts the context into owl:Nothing
abbrev pub in_nothing : Context → Fact
in_nothing x = In (Expr (record { 0 = nothing })) x

-- none puts one of so many individuals there
abbrev pub NoIndividualIsImpossible : ℕ → List Fact → Type 0
NoIndividualIsImpossible count facts = (a : IndId) → a.0 < count → Contains facts (in_nothing (contexts.Individual a)) → ⊥

-- none puts all things or an individual there
abbrev pub IsFreeOfNothing : Ontology → List Fact → Type 0
IsFreeOfNothing o facts = (Contains facts (in_nothing (contexts.Expr (record { 0 = thing }))) → ⊥) × NoIndividualIsImpossible (length o.names.individuals) facts
