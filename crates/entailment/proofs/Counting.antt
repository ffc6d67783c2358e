-- What a run to the end shows of the closure.
use Rattle.std.proofs.Common.{◌≡◌, ◌≤◌, ℕ, List, length, subst}
use Rattle.axioms.specs.Ontology.{Ontology}
use Rattle.classification.proofs.Counting.{has_facts}
use Rattle.classification.specs.Classifications.{HasFacts}
use Rattle.engine.specs.Saturations.{Saturated, IsSaturated}
use Rattle.entailment.specs.FactCounts.{HasNoMoreFactsThan}

-- all facts of the closure are at most n, so it has at most n
pub no_more : (o : Ontology) (s : Saturated) (asked : List ℕ) (n : ℕ) → s.normal.asked ≡ asked → IsSaturated o s → length s.state.facts ≤ n → HasNoMoreFactsThan o asked n
no_more o s asked n same saturated within = record {
  count = length s.state.facts;
  facts = subst (λ (es : List ℕ). HasFacts o es (length s.state.facts)) same (has_facts o s saturated);
  within = within;
}
