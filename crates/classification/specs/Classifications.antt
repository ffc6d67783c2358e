-- What a classification says of an ontology.
use Rattle.std.specs.Prelude.{◌≡◌, ◌↔◌, ℕ, List, [], Bool, true, false, length}
use Rattle.std.specs.List.{Contains}
use Rattle.axioms.specs.Ontology.{Ontology, axiom_trees}
use Rattle.axioms.specs.WellFormedness.{AreDistinct}
use Rattle.interpretation_spec.specs.Interpretation.{IsContradictory}
use Rattle.taxonomy.specs.Texts.{inconsistent_taxonomy_text, inconsistent_instances_text}
use Rattle.closure.specs.Closure.{Fact, IsFact}
use Rattle.certificate.specs.Certificate.{Certificate}
use Rattle.certificate.specs.declared.format.Format.{Format}
use Rattle.certificate.specs.Writability.{IsTextOf}
use Rattle.exactness.specs.Acceptance.{AreTextsOfClosure}
use Rattle.classification.specs.declared.classification.Summary.{Summary}

-- the closure of the ontology and of what is asked about has n facts: a list has exactly them, each once
pub record HasFacts (o : Ontology) (asked : List ℕ) (n : ℕ) : Type 0 where
  pub facts : List Fact
  pub distinct : AreDistinct facts
  pub exact : (fact : Fact) → Contains facts fact ↔ IsFact o asked fact
  pub many : length facts ≡ n

-- what there is of each kind, and whether there is a finite interpretation of the axioms
pub record AreCountsOf (o : Ontology) (s : Summary) : Type 0 where
  pub consistent : (s.consistent ≡ true) ↔ (IsContradictory (axiom_trees o) → ⊥)
  pub classes : s.classes ≡ length o.names.classes
  pub individuals : s.individuals ≡ length o.names.individuals
  pub facts : HasFacts o [] s.facts

-- the texts of the relations of the closure, or those of a contradiction
abbrev pub AreTextsOf : Ontology → Bool → (taxonomy instances : List ℕ) → Type 0
AreTextsOf o true taxonomy instances = AreTextsOfClosure o taxonomy instances
AreTextsOf o false taxonomy instances = (taxonomy ≡ inconsistent_taxonomy_text) × (instances ≡ inconsistent_instances_text)

-- the text is that of a certificate in the format
abbrev pub IsWrittenIn : Ontology → Format → (text : List ℕ) → Type 0
IsWrittenIn o format text = (certificate : Certificate) × IsTextOf o format text certificate
