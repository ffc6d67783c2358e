-- The interpretation that a list of members lists.
use Rattle.std.specs.Prelude.{ℕ, zero, suc, List, [], ◌∷◌, if◌then◌else◌, ◌==◌, slice_index_or}
use Rattle.std.specs.List.{range_with_len}
use Rattle.axioms.specs.Ontology.{Axiom, Ontology, Node, Class, And, Exists, axiom_tree}
use Rattle.interpretation_spec.specs.NamedInterpretation.{number_of}
use Rattle.interpretation_spec.specs.Interpretation.{Interpretation, Satisfies}
use Rattle.certificate.specs.Certificate.{Listed}
use Rattle.listed_model.specs.Listing.{elements_of, targets_of}
use Rattle.listed_model.specs.Members.{holds}

-- the number among the expressions of the class of that number, or how many expressions there are where none is it
abbrev pub class_place : List Node → ℕ → ℕ
class_place [] c = 0
class_place (Class d ∷ nodes) c = if d == c then 0 else suc (class_place nodes c)
class_place (And ds ∷ nodes) c = suc (class_place nodes c)
class_place (Exists r d ∷ nodes) c = suc (class_place nodes c)

-- the elements of the class that is the expression of that number: owl:Thing is all, owl:Nothing is empty, others are listed
abbrev pub class_members : Listed → ℕ → List ℕ
class_members l zero = range_with_len 0 l.domain
class_members l (suc zero) = []
class_members l (suc (suc e)) = elements_of l.classes (suc (suc e))

-- each name by its number
unfoldable pub listed_interpretation : Ontology → Listed → Interpretation
listed_interpretation o l = record {
  size = l.domain;
  class = λ c x. holds (class_members l (class_place o.nodes (number_of o.names.classes c))) x;
  property = λ r x y. holds (targets_of l.pairs (number_of o.names.properties r) x) y;
  individual = λ a. slice_index_or l.individuals (number_of o.names.individuals a) 0;
}

-- what the axiom over numbers says is satisfied
abbrev pub SatisfiesListed : Ontology → Listed → Axiom → Type 0
SatisfiesListed o l axiom' = Satisfies (listed_interpretation o l) (axiom_tree o axiom')
