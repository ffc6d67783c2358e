use Rattle.std.proofs.Common.{◌≡◌, ℕ, ◌-◌, ◌<◌, [], length, false, replicate, arith, sym, subst}
use Rattle.std.proofs.lemmas.List.{length-replicate}
use Rattle.std.proofs.lemmas.Option.{slice_get_within}
use Rattle.std.proofs.lemmas.Result.{IfOk-weaker}
use Rattle.axioms.specs.Expression.{owl_thing}
use Rattle.axioms.specs.Ontology.{Ontology}
use Rattle.axioms.specs.WellFormedness.{IsOntology}
use Rattle.interpretation_spec.specs.NumberedInterpretation.{NumberedInterpretation, IsMadeFor, empty_interpretation}
use Rattle.meaning_tests.proofs.interpretations.empty_interpretation.Goals as goal

made_for : (o : Ontology) → IsOntology o → (size : ℕ) → IsMadeFor o.names (empty_interpretation o.names size)
made_for o w size =
    let some : 0 < length o.names.classes = slice_get_within o.names.classes 0 owl_thing w.thing_name in
    record {
      classes = omega (arith, length-replicate (length o.names.classes - 1) (replicate size false));
      properties = length-replicate (length o.names.properties) (replicate size []);
      individuals = length-replicate (length o.names.individuals) 0;
    }

pub returns : goal.returns
returns c =
    let o = c.args.ontology.now in
    let size = c.args.size in
    IfOk-weaker c.new.result (λ (i : NumberedInterpretation). (0 < size) × (i ≡ empty_interpretation o.names size)) (IsMadeFor o.names)
    (λ i h. subst (IsMadeFor o.names) (sym h.1) (made_for o c.well_formed-2.ensures size)) c.new.ensures.made
