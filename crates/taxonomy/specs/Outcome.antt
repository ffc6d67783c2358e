-- What a classification found, and the two texts that tell it.
use Rattle.std.specs.Prelude.{◌≡◌, ◌<◌, ℕ, List, Bool, length, true}
use Rattle.axioms.specs.Ontology.{Ontology}
use Rattle.taxonomy.specs.declared.outcome.Outcome.{Outcome}
use Rattle.taxonomy.specs.declared.outcome.Outcome.TheVariants.{Consistent, Inconsistent}
use Rattle.taxonomy.specs.Relation.{is_listed, lies_below}
use Rattle.taxonomy.specs.Texts.{taxonomy_text, instances_text, inconsistent_taxonomy_text, inconsistent_instances_text}

-- a row for each class, for each individual a list of classes
pub record IsOver (o : Ontology) (rows : List (List Bool)) (types : List (List ℕ)) : Type 0 where
  pub classes : length rows ≡ length o.names.classes
  pub individuals : length types ≡ length o.names.individuals
  pub types_are_classes : (a d : ℕ) → is_listed types a d ≡ true → d < length o.names.classes

-- the outcome was made for this ontology
abbrev pub IsMadeFor : Ontology → Outcome → Type 0
IsMadeFor o (Consistent taxonomy types) = IsOver o taxonomy types
IsMadeFor o Inconsistent = Unit {0}

-- the taxonomy text that tells it
abbrev pub taxonomy_of : Ontology → Outcome → List ℕ
taxonomy_of o (Consistent taxonomy types) = taxonomy_text o.names.classes (lies_below taxonomy)
taxonomy_of o Inconsistent = inconsistent_taxonomy_text

-- the instances text that tells it
abbrev pub instances_of : Ontology → Outcome → List ℕ
instances_of o (Consistent taxonomy types) = instances_text o.names.classes o.names.individuals (lies_below taxonomy) (is_listed types)
instances_of o Inconsistent = inconsistent_instances_text
