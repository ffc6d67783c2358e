-- How much an ontology has, and the ontology that it was when it had less.
use Rattle.std.specs.Prelude.{◌≡◌, List, ◌++◌, length, take}
use Rattle.axioms.specs.Ontology.{Ontology}
use Rattle.axioms.specs.declared.lengths.Lengths.{Lengths}

abbrev pub lengths_of : Ontology → Lengths
lengths_of o = record {
  classes = length o.names.classes;
  properties = length o.names.properties;
  individuals = length o.names.individuals;
  expressions = length o.nodes;
  axioms = length o.axioms;
}

-- the first names of each kind, expressions and axioms, as many of each
abbrev pub front_of : Lengths → Ontology → Ontology
front_of l o = record {
  names = record {
    classes = take l.classes o.names.classes;
    properties = take l.properties o.names.properties;
    individuals = take l.individuals o.names.individuals;
  };
  nodes = take l.expressions o.nodes;
  axioms = take l.axioms o.axioms;
}

-- the second list is the first one with more behind it
abbrev pub Continues : {A : Type 0} → List A → List A → Type 0
Continues {A} old new = (rest : List A) × (new ≡ old ++ rest)

-- the new ontology is the old one with more names, expressions and axioms behind those that there were
pub record Extends (old new : Ontology) : Type 0 where
  pub classes : Continues old.names.classes new.names.classes
  pub properties : Continues old.names.properties new.names.properties
  pub individuals : Continues old.names.individuals new.names.individuals
  pub nodes : Continues old.nodes new.nodes
  pub axioms : Continues old.axioms new.axioms
