use Rattle.std.specs.List.{AllWithin}
use Rattle.explain.specs.Marks.{IsContradictoryFact}
use Rattle.explain.proofs.wanted.first_contradiction.Given as goal

abbrev pub invariant-loop-place : goal.invariant-loop-place
invariant-loop-place l = AllWithin (λ f. IsContradictoryFact l.ontology f → ⊥) l.facts 0 l.place
