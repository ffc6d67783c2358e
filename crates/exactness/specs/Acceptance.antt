-- What makes texts acceptable: lines that have the closure's facts, the interpretation that it lists, and texts of its relations.
use Rattle.std.specs.Prelude.{◌≡◌, ℕ, ◌<◌, ◌↔◌, ◌⊎◌, Bool, true, List, [], length, slice_get, Some, MatchOption}
use Rattle.std.specs.List.{Contains}
use Rattle.axioms.specs.Ontology.{Ontology, IsClassAt, nothing}
use Rattle.axioms.specs.WellFormedness.{IsOntology}
use Rattle.interpretation_spec.specs.Interpretation.{Interpretation}
use Rattle.taxonomy.specs.Texts.{taxonomy_text, instances_text}
use Rattle.certificate.specs.Certificate.{Line, Listed, Certificate}
use Rattle.certificate.specs.Writability.{IsSomeTextOf}
use Rattle.cert_check.specs.Derivation.{IsDerivation}
use Rattle.cert_check.specs.Acceptance.{IsContradictionShown, IsAcceptable}
use Rattle.listed_model.specs.Listing.{IsListing}
use Rattle.closure.specs.Closure.{Context, Expression, Individual, In, IsFact}
use Rattle.normal_forms.specs.Forms.{Whole}
use Rattle.exactness.specs.ListedInterpretation.{IsListedInterpretation, IsConsistent}
use Rattle.exactness.specs.Theorems.{HaveFacts}

-- each satisfiable named class is claimed, at its own element
pub record AreClaims (o : Ontology) (elements : List Context) (claims : List (ℕ × ℕ)) : Type 0 where
  pub each : (e m : ℕ) → Contains claims (e, m) → (c : ℕ) × IsClassAt o c e × (slice_get elements m ≡ Some (Expression e))
  pub all : (c e m : ℕ) → IsClassAt o c e → slice_get elements m ≡ Some (Expression e) → Contains claims (e, m)

-- a class lies below what is a fact of it, and below all where owl:Nothing is; an individual belongs to what is a fact of it
pub record AreRelations (o : Ontology) (lies_below belongs : ℕ → ℕ → Bool) : Type 0 where
  pub below : (c d e f : ℕ) → IsClassAt o c e → IsClassAt o d f → (lies_below c d ≡ true) ↔ (IsFact o [] (In (Whole nothing) (Expression e)) ⊎ IsFact o [] (In (Whole f) (Expression e)))
  pub types : (a d f : ℕ) → a < length o.names.individuals → IsClassAt o d f → (belongs a d ≡ true) ↔ IsFact o [] (In (Whole f) (Individual a))

-- the texts of these relations
pub record AreTextsOfClosure (o : Ontology) (taxonomy instances : List ℕ) : Type 0 where
  pub lies_below : ℕ → ℕ → Bool
  pub belongs : ℕ → ℕ → Bool
  pub relations : AreRelations o lies_below belongs
  pub taxonomy_is : taxonomy ≡ taxonomy_text o.names.classes lies_below
  pub instances_is : instances ≡ instances_text o.names.classes o.names.individuals lies_below belongs

-- the members are those of the interpretation that the closure lists, with a claim for each satisfiable class
pub record IsListedFor (o : Ontology) (asked : List ℕ) (listed : Listed) : Type 0 where
  pub consistent : IsConsistent o asked
  pub elements : List Context
  pub i : Interpretation
  pub interpretation : IsListedInterpretation o asked elements i
  pub listing : IsListing o listed i
  pub claims : AreClaims o elements listed.claims

-- of a consistent closure: lines with its facts, its listed interpretation, and the texts of its relations
pub record ShowsClosure (o : Ontology) (taxonomy instances : List ℕ) (lines : List Line) (listed : Listed) : Type 0 where
  pub facts : HaveFacts o [] lines
  pub interpretation : IsListedFor o [] listed
  pub texts : AreTextsOfClosure o taxonomy instances

-- a derivation that shows so much, or a contradiction, makes the texts acceptable, whatever found it and in whichever format it is written
abbrev pub ShownIsAcceptable : Type 0
ShownIsAcceptable =
    (o : Ontology) (taxonomy instances text : List ℕ) (c : Certificate) →
    IsOntology o → IsSomeTextOf o text c → IsDerivation o c.lines →
    MatchOption c.listed (IsContradictionShown taxonomy instances c.lines) (ShowsClosure o taxonomy instances c.lines) →
    IsAcceptable o taxonomy instances text
