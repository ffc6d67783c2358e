use Rattle.std.proofs.Common.{refl}
use Rattle.axioms.proofs.TwoClasses.{empty_is_ontology}
use Rattle.axioms.proofs.Unique.{statements_determine}
use Rattle.axioms.proofs.theory.ontology_of_statements.Goals as goal

pub returns : goal.returns
returns c = record {
  one = statements_determine;
  none = (empty_is_ontology, record { expressions = refl; classes = refl; properties = refl; individuals = refl; axioms = refl });
}
