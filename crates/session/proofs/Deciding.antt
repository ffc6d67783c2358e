-- Whether the axioms contradict one another.
use Rattle.std.proofs.Common.{◌≡◌, ◌↔◌, Bool, true, false, refl}
use Rattle.std.specs.Prelude.{IsTrue}
use Rattle.answers.specs.Entailment.{ContradictionIsExact}
use Rattle.axioms.specs.Ontology.{Ontology}
use Rattle.axioms.specs.WellFormedness.{IsOntology}
use Rattle.engine.specs.Saturations.{IsSaturated, Saturated}
use Rattle.exactness.specs.ListedInterpretation.{IsConsistent}
use Rattle.session.specs.Answers.{IsConsistency}

no : false ≡ true → ⊥
no e = absurd (cc)

-- what the closure has of it is what is the case
pub decided : (o : Ontology) (s : Saturated) (consistent : Bool) → ContradictionIsExact → IsOntology o → IsSaturated o s → IsTrue consistent ↔ IsConsistent o s.normal.asked → IsConsistency o consistent
decided o s true exact well_formed saturated is = (λ yes contradictory. (exact o s well_formed saturated).0 contradictory (is.0 refl), λ possible. refl)
decided o s false exact well_formed saturated is = (λ yes. absurd (no yes), λ possible. absurd (possible ((exact o s well_formed saturated).1 (λ consistent. no (is.1 consistent)))))
