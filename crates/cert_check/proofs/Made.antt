-- The interpretation that a certificate lists.
use Rattle.std.proofs.Common.{ℕ, ◌-◌, ◌<◌, [], length, false, replicate, arith}
use Rattle.std.proofs.lemmas.List.{length-replicate}
use Rattle.std.proofs.lemmas.Option.{slice_get_within}
use Rattle.axioms.specs.Expression.{owl_thing}
use Rattle.axioms.specs.Ontology.{Ontology}
use Rattle.axioms.specs.WellFormedness.{IsOntology}
use Rattle.interpretation_spec.specs.NumberedInterpretation.{IsMadeFor, empty_interpretation}

pub empty_is_made_for : (o : Ontology) → IsOntology o → (size : ℕ) → IsMadeFor o.names (empty_interpretation o.names size)
empty_is_made_for o w size =
    let some : 0 < length o.names.classes = slice_get_within o.names.classes 0 owl_thing w.thing_name in
    record {
      classes = omega (arith, length-replicate (length o.names.classes - 1) (replicate size false));
      properties = length-replicate (length o.names.properties) (replicate size []);
      individuals = length-replicate (length o.names.individuals) 0;
    }
