-- An ontology with all that it leads to.
use Rattle.axioms.specs.Ontology.{Ontology}
use Rattle.engine.specs.Saturations.{Saturated}

-- the ontology, and its normal forms with the facts of its closure
pub record Closed : Type 0 where
  pub ontology : Ontology
  pub saturation : Saturated
