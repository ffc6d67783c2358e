-- What a generated part keeps.
use Rattle.std.specs.Prelude.{◌≡◌, ℕ, ◌<◌, ◌↔◌, length, slice_get, Some}
use Rattle.axioms.specs.Ontology.{Ontology, Axiom, expression, axiom_tree, axiom_trees}
use Rattle.axioms.specs.WellFormedness.{IsOntology, IsAxiomOf}
use Rattle.interpretation_spec.specs.Interpretation.{Interpretation, IsInterpretation, IsIn, Satisfies, IsModel}
use Rattle.generated_part.specs.GeneratedPart.{IsGenerated}

-- each element is in the same expressions as in the whole
abbrev pub GeneratedHoldsSame : Type 0
GeneratedHoldsSame =
    (o : Ontology) → IsOntology o → (i part : Interpretation) (from new : ℕ) → IsInterpretation i → (g : IsGenerated o i from part new) →
    (e m x : ℕ) → e < length o.nodes → slice_get g.elements m ≡ Some x → IsIn part (expression o e) m ↔ IsIn i (expression o e) x

-- each axiom that holds in the whole holds in the part
abbrev pub GeneratedSatisfies : Type 0
GeneratedSatisfies =
    (o : Ontology) → IsOntology o → (i part : Interpretation) (from new : ℕ) → IsInterpretation i → IsGenerated o i from part new →
    (a : Axiom) → IsAxiomOf o a → Satisfies i (axiom_tree o a) → Satisfies part (axiom_tree o a)

-- the part of a model, where it is an interpretation, is a model
abbrev pub GeneratedIsModel : Type 0
GeneratedIsModel =
    (o : Ontology) → IsOntology o → (i part : Interpretation) (from new : ℕ) → IsGenerated o i from part new → IsInterpretation part →
    IsModel i (axiom_trees o) → IsModel part (axiom_trees o)
