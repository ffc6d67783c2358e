-- What the fields of an ontology stand for.
use Rattle.std.specs.Prelude.{◌≡◌, ℕ, map, length, slice_get, Some, string_bytes}
use Rattle.axioms.specs.declared.ontology.Ontology.TheInside.{Inside}
use Rattle.axioms.specs.declared.ids.ExprId.{ExprId}
use Rattle.axioms.specs.Growth.{IsBounded}
use Rattle.axioms.specs.Ontology as numbered
use Rattle.axioms.specs.View.{node_of, axiom_of}
use Rattle.axioms.specs.WellFormedness.{IsOntology}

abbrev pub kept_ontology : Inside → numbered.Ontology
kept_ontology o = record {
  names = record {
    classes = map string_bytes o.classes.keys;
    properties = map string_bytes o.properties.keys;
    individuals = map string_bytes o.individuals.keys;
  };
  nodes = map node_of o.expressions.keys;
  axioms = map axiom_of o.axioms.items;
}

-- it is an ontology, its numbers are below their bounds, and the table of classes has the expression of each
pub record IsKept (o : Inside) : Type 0 where
  pub ontology : IsOntology (kept_ontology o)
  pub bounded : IsBounded (kept_ontology o)
  pub long : length o.class_expressions.items ≡ length o.classes.keys
  pub each : (c : ℕ) (e : ExprId) → slice_get o.class_expressions.items c ≡ Some e → numbered.IsClassAt (kept_ontology o) c e.0
