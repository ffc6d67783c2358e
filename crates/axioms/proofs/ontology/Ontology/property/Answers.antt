use Rattle.std.proofs.Common.{string_bytes, arith}
use Rattle.std.proofs.lemmas.List.{length-map}
use Rattle.axioms.specs.Fields.{kept_ontology}
use Rattle.axioms.proofs.Growing.{grown_property}
use Rattle.axioms.proofs.ontology.Ontology.property.Goals as goal

pub invariant_of-self-2 : goal.invariant_of-self-2
invariant_of-self-2 c = record {
  ontology = grown_property (kept_ontology c.self.inside) c.self.invariant.ontology c.args.iri.now _ c.in_ok-number.number c.in_ok-number.ensures.ok;
  bounded = record {
    classes = c.self.invariant.bounded.classes;
    properties = omega (arith, length-map c.number_of.new.names.keys string_bytes, c.in_ok-number.ensures.few);
    individuals = c.self.invariant.bounded.individuals;
    expressions = c.self.invariant.bounded.expressions;
    axioms = c.self.invariant.bounded.axioms;
  };
  long = c.self.invariant.long;
  each = c.self.invariant.each;
}
