-- When a certificate shows that two texts are right, and what the texts then say.
use Rattle.std.specs.Prelude.{◌≡◌, ℕ, ◌<◌, ◌↔◌, List, Bool, true, false, ◌⊎◌, length, slice_get, Some, MatchOption}
use Rattle.std.specs.List.{All, Contains}
use Rattle.axioms.specs.Expression.{Named}
use Rattle.interpretation_spec.specs.Interpretation.{Interpretation, IsModel, IsIn, IsBelow, IsMember, IsContradictory}
use Rattle.axioms.specs.Ontology.{Ontology, IsClassAt, name_at, expression, individual_name, axiom_trees, thing, nothing}
use Rattle.certificate.specs.Certificate.{Subject, Expression, Individual, Sub, Line, Listed, Certificate}
use Rattle.listed_model.specs.Listing.{IsListing}
use Rattle.cert_check.specs.Derivation.{IsDerivation, HasLine}
use Rattle.certificate.specs.Writability.{IsSomeTextOf}
use Rattle.taxonomy.specs.Texts.{taxonomy_text, instances_text, inconsistent_taxonomy_text, inconsistent_instances_text}

-- ---- acceptance

-- the expressions that are named classes and hold the element are exactly those that a line puts above the subject
abbrev pub Agrees : Ontology → Interpretation → List Line → Subject → ℕ → Type 0
Agrees o i lines subject x = (c e : ℕ) → IsClassAt o c e → (IsIn i (expression o e) x ↔ HasLine lines (Sub subject e))

-- the claim of the class: its element is in the class, and in exactly the classes above it
pub record ClaimHolds (o : Ontology) (i : Interpretation) (lines : List Line) (claim : ℕ × ℕ) : Type 0 where
  pub member : IsIn i (expression o claim.0) claim.1
  pub agrees : Agrees o i lines (Expression claim.0) claim.1

-- whether the lines put the class of number c below that of number d
pub record LiesBelow (o : Ontology) (lines : List Line) (lies_below : ℕ → ℕ → Bool) : Type 0 where
  pub unsatisfiable : (c e d : ℕ) → IsClassAt o c e → d < length o.names.classes → HasLine lines (Sub (Expression e) nothing) → lies_below c d ≡ true
  pub by_line : (c e d f : ℕ) → IsClassAt o c e → IsClassAt o d f → (HasLine lines (Sub (Expression e) nothing) → ⊥) → (lies_below c d ≡ true) ↔ HasLine lines (Sub (Expression e) f)

-- whether the lines put the individual of number a into the class of number d
abbrev pub Belongs : Ontology → List Line → (ℕ → ℕ → Bool) → Type 0
Belongs o lines belongs = (a d f : ℕ) → a < length o.names.individuals → IsClassAt o d f → (belongs a d ≡ true) ↔ HasLine lines (Sub (Individual a) f)

-- the lines and the listed interpretation show that the texts are right
pub record IsConsistentShown (o : Ontology) (taxonomy instances : List ℕ) (lines : List Line) (listed : Listed) : Type 0 where
  pub i : Interpretation
  pub listing : IsListing o listed i
  pub model : IsModel i (axiom_trees o)
  pub claimed : (c e : ℕ) → IsClassAt o c e → (HasLine lines (Sub (Expression e) nothing) → ⊥) → (x : ℕ) × Contains listed.claims (e, x)
  pub claims : All (ClaimHolds o i lines) listed.claims
  pub individuals : (a x : ℕ) → slice_get listed.individuals a ≡ Some x → Agrees o i lines (Individual a) x
  pub lies_below : ℕ → ℕ → Bool
  pub belongs : ℕ → ℕ → Bool
  pub relation : LiesBelow o lines lies_below
  pub types : Belongs o lines belongs
  pub taxonomy_is : taxonomy ≡ taxonomy_text o.names.classes lies_below
  pub instances_is : instances ≡ instances_text o.names.classes o.names.individuals lies_below belongs

-- all things, or an individual
pub data IsTop : Subject → Type 0 where
  of_thing : IsTop (Expression thing)
  of_individual : {a : ℕ} → IsTop (Individual a)

-- a line shows that there is no interpretation of the axioms
pub record IsContradictionShown (taxonomy instances : List ℕ) (lines : List Line) : Type 0 where
  pub subject : Subject
  pub top : IsTop subject
  pub line : HasLine lines (Sub subject nothing)
  pub taxonomy_is : taxonomy ≡ inconsistent_taxonomy_text
  pub instances_is : instances ≡ inconsistent_instances_text

-- what a certificate has to show, with a listed interpretation or without
abbrev pub Shows : Ontology → List ℕ → List ℕ → Certificate → Type 0
Shows o taxonomy instances certificate =
    MatchOption certificate.listed (IsContradictionShown taxonomy instances certificate.lines) (IsConsistentShown o taxonomy instances certificate.lines)

-- the certificate text, in whichever format, shows that the taxonomy and instances texts are right
pub record IsAcceptable (o : Ontology) (taxonomy instances text : List ℕ) : Type 0 where
  pub certificate : Certificate
  pub text_is : IsSomeTextOf o text certificate
  pub derivation : IsDerivation o certificate.lines
  pub shows : Shows o taxonomy instances certificate

-- ---- what the texts then say

-- c lies below d in every finite interpretation in which all axioms hold
abbrev pub ClassBelow : Ontology → ℕ → ℕ → Type 0
ClassBelow o c d = IsBelow (axiom_trees o) (Named (name_at o.names.classes c)) (Named (name_at o.names.classes d))

-- a is a member of d in each
abbrev pub HasType : Ontology → ℕ → ℕ → Type 0
HasType o a d = IsMember (axiom_trees o) (individual_name o a) (Named (name_at o.names.classes d))

-- the texts are those of what the finite interpretations of the axioms say
pub record AreDetermined (o : Ontology) (taxonomy instances : List ℕ) (lies_below belongs : ℕ → ℕ → Bool) : Type 0 where
  pub below : (c d : ℕ) → c < length o.names.classes → d < length o.names.classes → (lies_below c d ≡ true) ↔ ClassBelow o c d
  pub types : (a d : ℕ) → a < length o.names.individuals → d < length o.names.classes → (belongs a d ≡ true) ↔ HasType o a d
  pub taxonomy_is : taxonomy ≡ taxonomy_text o.names.classes lies_below
  pub instances_is : instances ≡ instances_text o.names.classes o.names.individuals lies_below belongs

-- a no is refuted for a class by its claim: the element that is claimed for class c is in c and not in d
pub record IsRefutedByClaim (o : Ontology) (listed : Listed) (i : Interpretation) (c d : ℕ) : Type 0 where
  pub class : ℕ
  pub class_is : IsClassAt o c class
  pub element : ℕ
  pub claimed : Contains listed.claims (class, element)
  pub within : element < i.size
  pub member : IsIn i (Named (name_at o.names.classes c)) element
  pub outside : IsIn i (Named (name_at o.names.classes d)) element → ⊥

-- each no is refuted: for a class by its claim, and for an individual by its element
pub record AreRefuted (o : Ontology) (listed : Listed) (i : Interpretation) (lies_below belongs : ℕ → ℕ → Bool) : Type 0 where
  pub below : (c d : ℕ) → c < length o.names.classes → d < length o.names.classes → lies_below c d ≡ false → IsRefutedByClaim o listed i c d
  pub types : (a d : ℕ) → a < length o.names.individuals → d < length o.names.classes → belongs a d ≡ false → IsIn i (Named (name_at o.names.classes d)) (i.individual (individual_name o a)) → ⊥

-- each yes has a line
pub record AreDerived (o : Ontology) (lines : List Line) (lies_below belongs : ℕ → ℕ → Bool) : Type 0 where
  pub below : (c d e f : ℕ) → IsClassAt o c e → IsClassAt o d f → lies_below c d ≡ true → HasLine lines (Sub (Expression e) nothing) ⊎ HasLine lines (Sub (Expression e) f)
  pub types : (a d f : ℕ) → a < length o.names.individuals → IsClassAt o d f → belongs a d ≡ true → HasLine lines (Sub (Individual a) f)

-- the texts are those of a consistent ontology: each yes has a line, and each no is refuted by the one listed interpretation
pub record SaysConsistent (o : Ontology) (taxonomy instances : List ℕ) (lines : List Line) (listed : Listed) : Type 0 where
  pub lies_below : ℕ → ℕ → Bool
  pub belongs : ℕ → ℕ → Bool
  pub determined : AreDetermined o taxonomy instances lies_below belongs
  pub consistent : IsContradictory (axiom_trees o) → ⊥
  pub derived : AreDerived o lines lies_below belongs
  pub i : Interpretation
  pub listing : IsListing o listed i
  pub model : IsModel i (axiom_trees o)
  pub refuted : AreRefuted o listed i lies_below belongs

-- the texts are those of a contradictory ontology, and a line shows that it is one
pub record SaysContradictory (o : Ontology) (taxonomy instances : List ℕ) (lines : List Line) : Type 0 where
  pub contradictory : IsContradictory (axiom_trees o)
  pub shown : IsContradictionShown taxonomy instances lines

-- what acceptable texts say
abbrev pub Says : Ontology → List ℕ → List ℕ → Certificate → Type 0
Says o taxonomy instances certificate =
    MatchOption certificate.listed (SaysContradictory o taxonomy instances certificate.lines) (SaysConsistent o taxonomy instances certificate.lines)

-- the taxonomy and instances texts say what follows from the axioms, as the certificate of the text shows: its lines are a
-- derivation, which has each yes or the contradiction, and its listed interpretation refutes each no
pub record AreRight (o : Ontology) (taxonomy instances text : List ℕ) : Type 0 where
  pub certificate : Certificate
  pub text_is : IsSomeTextOf o text certificate
  pub derivation : IsDerivation o certificate.lines
  pub says : Says o taxonomy instances certificate
