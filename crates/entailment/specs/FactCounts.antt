-- How many facts the closure has at most.
use Rattle.std.specs.Prelude.{◌≤◌, ℕ, List}
use Rattle.axioms.specs.Ontology.{Ontology}
use Rattle.classification.specs.Classifications.{HasFacts}

-- the closure of the ontology and of what is asked about has at most n facts: a list has exactly them, each once
pub record HasNoMoreFactsThan (o : Ontology) (asked : List ℕ) (n : ℕ) : Type 0 where
  pub count : ℕ
  pub facts : HasFacts o asked count
  pub within : count ≤ n
