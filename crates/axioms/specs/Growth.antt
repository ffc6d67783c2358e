-- How an ontology grows: by a name, an expression or an axiom at a time.
use Rattle.std.specs.Prelude.{◌≡◌, ℕ, ◌<◌, ◌≤◌, ◌^◌, ◌⊎◌, List, [], ◌∷◌, ◌++◌, length, slice_get, Some}
use Rattle.std.specs.List.{Contains}
use Rattle.axioms.specs.declared.terms.Kind.{Kind}
use Rattle.axioms.specs.declared.terms.Kind.TheVariants as kinds
use Rattle.axioms.specs.declared.terms.Name.{Name}
use Rattle.axioms.specs.declared.terms.Name.TheVariants as declared
use Rattle.axioms.specs.Expression.{Iri, owl_thing, owl_nothing}
use Rattle.axioms.specs.Ontology.{Ontology, Names, Axiom, Class}

-- the ontology of no statements has the two classes of the standard
abbrev pub empty_ontology : Ontology
empty_ontology = record {
  names = record { classes = owl_thing ∷ owl_nothing ∷ []; properties = []; individuals = [] };
  nodes = Class 0 ∷ Class 1 ∷ [];
  axioms = [];
}

-- x has the number n: old has it there, and new is old, or it is not in old and comes next
abbrev pub Numbers : {X : Type 0} → List X → X → List X → ℕ → Type 0
Numbers old x new n = ((slice_get old n ≡ Some x) × (new ≡ old)) ⊎ ((Contains old x → ⊥) × (n ≡ length old) × (new ≡ old ++ x ∷ []))

-- the most names that a kind may have
abbrev pub most_names : ℕ
most_names = 1000000

-- expressions have the numbers from 0 and axioms those from 1, all below 2 ^ 32
pub record IsBounded (o : Ontology) : Type 0 where
  pub classes : length o.names.classes ≤ most_names
  pub properties : length o.names.properties ≤ most_names
  pub individuals : length o.names.individuals ≤ most_names
  pub expressions : length o.nodes ≤ 2 ^ 32
  pub axioms : length o.axioms < 2 ^ 32

-- a kind with these names has no room for that one
abbrev pub IsFull : List Iri → Iri → Type 0
IsFull names iri = (Contains names iri → ⊥) × (most_names ≤ length names)

-- the names of a kind
abbrev pub names_of : Names → Kind → List Iri
names_of names kinds.Class = names.classes
names_of names kinds.Property = names.properties
names_of names kinds.Individual = names.individuals

-- the ontology with one more class, which comes last, and so does its expression
abbrev pub with_class : Ontology → Iri → Ontology
with_class o iri = record o { names = record o.names { classes = o.names.classes ++ iri ∷ [] }; nodes = o.nodes ++ Class (length o.names.classes) ∷ [] }

-- the class has that number among the names and its own among the expressions, and nothing else changes
pub record DeclaresClass (old : Ontology) (iri : Iri) (new : Ontology) (class expression : ℕ) : Type 0 where
  pub name : Numbers old.names.classes iri new.names.classes class
  pub node : Numbers old.nodes (Class class) new.nodes expression
  pub others : new ≡ record old { names = record old.names { classes = new.names.classes }; nodes = new.nodes }

pub record DeclaresProperty (old : Ontology) (iri : Iri) (new : Ontology) (property : ℕ) : Type 0 where
  pub name : Numbers old.names.properties iri new.names.properties property
  pub others : new ≡ record old { names = record old.names { properties = new.names.properties } }

pub record DeclaresIndividual (old : Ontology) (iri : Iri) (new : Ontology) (individual : ℕ) : Type 0 where
  pub name : Numbers old.names.individuals iri new.names.individuals individual
  pub others : new ≡ record old { names = record old.names { individuals = new.names.individuals } }

-- a declaration of the IRI as a name of that kind makes new of old, and answers with what the name is
abbrev pub Declares : Ontology → Kind → Iri → Ontology → Name → Type 0
Declares old kinds.Class iri new (declared.Class c e) = DeclaresClass old iri new c.0 e.0
Declares old kinds.Property iri new (declared.Property p) = DeclaresProperty old iri new p.0
Declares old kinds.Individual iri new (declared.Individual a) = DeclaresIndividual old iri new a.0
Declares _ _ _ _ _ = ⊥

-- the ontology with one more axiom, which comes last
abbrev pub with_axiom : Ontology → Axiom → Ontology
with_axiom o axiom' = record o { axioms = o.axioms ++ axiom' ∷ [] }
