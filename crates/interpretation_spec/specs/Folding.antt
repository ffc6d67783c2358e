-- Interpretations that are folded onto others: elements of which the names of an ontology say the same come to one.
use Rattle.std.specs.Prelude.{◌≡◌, ℕ, ◌<◌, ◌↔◌, length}
use Rattle.axioms.specs.Ontology.{Ontology, Axiom, name_at, property_name, individual_name, expression, axiom_tree}
use Rattle.axioms.specs.WellFormedness.{IsOntology, IsAxiomOf}
use Rattle.interpretation_spec.specs.Interpretation.{Interpretation, IsInterpretation, IsIn, Satisfies}
use Rattle.interpretation_spec.specs.NamedInterpretation.{IsFirstUnsatisfied}

-- each element of i comes to one of j, each of j is come to, and each name says of elements of i what it says of those that they
-- come to
pub record Folds (o : Ontology) (i j : Interpretation) (f : ℕ → ℕ) : Type 0 where
  pub within : (x : ℕ) → x < i.size → f x < j.size
  pub onto : (y : ℕ) → y < j.size → (x : ℕ) × (x < i.size) × (f x ≡ y)
  pub classes : (c x : ℕ) → c < length o.names.classes → x < i.size → i.class (name_at o.names.classes c) x ≡ j.class (name_at o.names.classes c) (f x)
  pub pairs : (r x y : ℕ) → r < length o.names.properties → x < i.size → y < i.size → i.property (property_name o r) x y ≡ j.property (property_name o r) (f x) (f y)
  pub individuals : (a : ℕ) → a < length o.names.individuals → f (i.individual (individual_name o a)) ≡ j.individual (individual_name o a)
  -- individuals that are apart stay apart
  pub apart : (a b : ℕ) → a < length o.names.individuals → b < length o.names.individuals → f (i.individual (individual_name o a)) ≡ f (i.individual (individual_name o b)) → i.individual (individual_name o a) ≡ i.individual (individual_name o b)

-- then an element is in an expression exactly where the one that it comes to is
abbrev pub FoldingHoldsSame : Type 0
FoldingHoldsSame =
    (o : Ontology) → IsOntology o → (i j : Interpretation) (f : ℕ → ℕ) → Folds o i j f →
    (e x : ℕ) → e < length o.nodes → x < i.size → IsIn i (expression o e) x ↔ IsIn j (expression o e) (f x)

-- .. one satisfies an axiom exactly where the other does
abbrev pub FoldingSatisfiesSame : Type 0
FoldingSatisfiesSame =
    (o : Ontology) → IsOntology o → (i j : Interpretation) (f : ℕ → ℕ) → Folds o i j f → IsInterpretation i →
    (b : Axiom) → IsAxiomOf o b → Satisfies i (axiom_tree o b) ↔ Satisfies j (axiom_tree o b)

-- .. and the least axiom that fails is the same
abbrev pub FoldingFailsFirstAtSame : Type 0
FoldingFailsFirstAtSame =
    (o : Ontology) → IsOntology o → (i j : Interpretation) (f : ℕ → ℕ) → Folds o i j f → IsInterpretation i →
    (n : ℕ) → IsFirstUnsatisfied o i n ↔ IsFirstUnsatisfied o j n
