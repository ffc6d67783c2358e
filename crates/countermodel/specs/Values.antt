-- The interpretation that a closure lists, as the one that a value stands for.
use Rattle.std.specs.Prelude.{ℕ, List}
use Rattle.axioms.specs.Ontology.{Ontology, axiom_trees}
use Rattle.closure.specs.Closure.{Context}
use Rattle.exactness.specs.ListedInterpretation.{IsListedInterpretation, AgreesWithClosure}
use Rattle.interpretation_spec.specs.NamedInterpretation.{interpretation_of}
use Rattle.interpretation_spec.specs.Interpretation.{IsModel}
use Rattle.interpretation_spec.specs.NumberedInterpretation.{NumberedInterpretation}

-- its elements are the contexts without owl:Nothing, of individuals that are one the least, each in exactly the named classes and asked
-- expressions that are facts of it; and it satisfies each axiom as it was written
pub record IsBuilt (o : Ontology) (asked : List ℕ) (i : NumberedInterpretation) : Type 0 where
  pub elements : List Context
  pub listed : IsListedInterpretation o asked elements (interpretation_of o.names i)
  pub agrees : AgreesWithClosure o asked elements (interpretation_of o.names i)
  pub model : IsModel (interpretation_of o.names i) (axiom_trees o)
