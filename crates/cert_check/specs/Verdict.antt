-- What the checker's answers mean.
use Rattle.std.specs.Prelude.{◌≡◌, ◌↔◌, ℕ, ◌<◌, List, Bool, IsTrue, MatchOption, slice_get, Some, None}
use Rattle.std.specs.declared.option.Option.{Option}
use Rattle.std.specs.List.{Contains}
use Rattle.axioms.specs.Ontology.{Ontology, IsClassAt, axiom_trees, thing, nothing}
use Rattle.axioms.specs.declared.ids.ClassId.{ClassId}
use Rattle.axioms.specs.declared.ids.IndId.{IndId}
use Rattle.interpretation_spec.specs.NamedInterpretation.{IsFirstUnsatisfied}
use Rattle.interpretation_spec.specs.Interpretation.{Interpretation, IsInterpretation, IsModel}
use Rattle.certificate.specs.Certificate.{Expression, Individual, Conclusion, Sub, Edge, Same, Line, Listed, Certificate}
use Rattle.certificate.specs.Writability.{IsSomeTextOf}
use Rattle.certificate.specs.Prefixes.{IsNoText}
use Rattle.taxonomy.specs.Texts.{taxonomy_text, instances_text, inconsistent_taxonomy_text, inconsistent_instances_text}
use Rattle.cert_check.specs.declared.verdict.Reason.{Reason}
use Rattle.cert_check.specs.declared.verdict.Reason.TheVariants.{BadText, BadLine, AxiomFails, ClaimMissing, ClaimDisagrees, IndividualDisagrees, NoContradiction, TaxonomyDiffers, InstancesDiffer}
use Rattle.cert_check.specs.declared.verdict.Verdict.{Verdict}
use Rattle.cert_check.specs.declared.verdict.Verdict.TheVariants.{Accepted, Rejected}
use Rattle.cert_check.specs.Derivation.{IsDerivation, HasLine}
use Rattle.cert_check.specs.Acceptance.{Agrees, ClaimHolds, LiesBelow, Belongs}
use Rattle.listed_model.specs.Listing.{IsListing}
use Rattle.cert_check.specs.Lists.{AreSuperclasses, AreTypes, said_by}
use Rattle.cert_check.specs.Rows.{SomeLine}
use Rattle.cert_check.specs.Faults.{IsFirstBadLine, DifferFirstAt}
use Rattle.cert_check.specs.Lines.{IsTrueIn}

-- the conclusion puts owl:Thing or an individual below owl:Nothing, so that there is no interpretation of the axioms
abbrev pub IsContradiction : Conclusion → Type 0
IsContradiction (Sub (Expression e) d) = (e ≡ thing) × (d ≡ nothing)
IsContradiction (Sub (Individual a) d) = d ≡ nothing
IsContradiction (Edge x r y) = ⊥
IsContradiction (Same a b) = ⊥

-- some line says so
abbrev pub HasContradiction : List Line → Type 0
HasContradiction lines = SomeLine lines IsContradiction

-- the answer tells whether some line does
abbrev pub TellsContradiction : Bool → List Line → Type 0
TellsContradiction contradictory lines = IsTrue contradictory ↔ HasContradiction lines

-- what speaks against a taxonomy text and an instances text, where these two would be right
abbrev pub TextsAgainst : (taxonomy instances right_taxonomy right_instances : List ℕ) → Option Reason → Type 0
TextsAgainst t i t' i' None = (t ≡ t') × (i ≡ i')
TextsAgainst t i t' i' (Some (TaxonomyDiffers at)) = DifferFirstAt t t' at
TextsAgainst t i t' i' (Some (InstancesDiffer at)) = (t ≡ t') × DifferFirstAt i i' at
TextsAgainst _ _ _ _ _ = ⊥

-- what speaks against them where a derivation is to show a contradiction
abbrev pub ContradictionAgainst : (taxonomy instances : List ℕ) → List Line → Option Reason → Type 0
ContradictionAgainst t i lines (Some NoContradiction) = HasContradiction lines → ⊥
ContradictionAgainst t i lines reason = HasContradiction lines × TextsAgainst t i inconsistent_taxonomy_text inconsistent_instances_text reason

-- the texts are measured by those of the relation and of the types that the lines give
pub record RelationAgainst (o : Ontology) (t i : List ℕ) (lines : List Line) (reason : Option Reason) : Type 0 where
  pub lies_below : ℕ → ℕ → Bool
  pub belongs : ℕ → ℕ → Bool
  pub relation : LiesBelow o lines lies_below
  pub types : Belongs o lines belongs
  pub texts : TextsAgainst t i (taxonomy_text o.names.classes lies_below) (instances_text o.names.classes o.names.individuals lies_below belongs) reason

-- whichever lines have these superclasses and types, the texts are measured by those of the relation and of the types that they give
abbrev pub RelationAgainstLists : Ontology → (t i : List ℕ) → (above types : List (List ℕ)) → Option Reason → Type 0
RelationAgainstLists o t i above types reason =
    (lines : List Line) → AreSuperclasses o (said_by lines) above → AreTypes o (said_by lines) types → RelationAgainst o t i lines reason

-- ---- the claims and the individuals of a listed interpretation

-- the class, unless a line puts it below owl:Nothing, has a claimed element
abbrev pub HasClaim : Ontology → List Line → Listed → ℕ → Type 0
HasClaim o lines listed c = (e : ℕ) → IsClassAt o c e → (HasLine lines (Sub (Expression e) nothing) → ⊥) → (x : ℕ) × Contains listed.claims (e, x)

-- what is claimed for the class holds
abbrev pub ClaimsHold : Ontology → Interpretation → List Line → Listed → ℕ → Type 0
ClaimsHold o i lines listed c = (e x : ℕ) → IsClassAt o c e → Contains listed.claims (e, x) → ClaimHolds o i lines (e, x)

-- the element of the individual is in exactly the classes that lines put the individual into
abbrev pub IndividualAgrees : Ontology → Interpretation → List Line → Listed → ℕ → Type 0
IndividualAgrees o i lines listed a = (x : ℕ) → slice_get listed.individuals a ≡ Some x → Agrees o i lines (Individual a) x

-- of each number
abbrev pub Each : (ℕ → Type 0) → Type 0
Each P = (n : ℕ) → P n

-- of each number before this one, and not of this one
abbrev pub IsFirstWithout : (ℕ → Type 0) → ℕ → Type 0
IsFirstWithout P n = (P n → ⊥) × ((k : ℕ) → k < n → P k)

-- the class found is the first without it, and where none is found each number has it
abbrev pub IsFirstClassWithout : (ℕ → Type 0) → Option ClassId → Type 0
IsFirstClassWithout P found = MatchOption found (Each P) (λ class. IsFirstWithout P class.0)

-- the same of individuals
abbrev pub IsFirstIndividualWithout : (ℕ → Type 0) → Option IndId → Type 0
IsFirstIndividualWithout P found = MatchOption found (Each P) (λ individual. IsFirstWithout P individual.0)

-- which of these, in this order, is the first that not all have, and the first number without it
abbrev pub ClaimsAgainst : Ontology → Interpretation → List Line → Listed → Option Reason → Type 0
ClaimsAgainst o i lines listed (Some (ClaimMissing c)) = IsFirstWithout (HasClaim o lines listed) c.0
ClaimsAgainst o i lines listed (Some (ClaimDisagrees c)) = Each (HasClaim o lines listed) × IsFirstWithout (ClaimsHold o i lines listed) c.0
ClaimsAgainst o i lines listed (Some (IndividualDisagrees a)) =
    Each (HasClaim o lines listed) × Each (ClaimsHold o i lines listed) × IsFirstWithout (IndividualAgrees o i lines listed) a.0
ClaimsAgainst o i lines listed None =
    Each (HasClaim o lines listed) × Each (ClaimsHold o i lines listed) × Each (IndividualAgrees o i lines listed)
ClaimsAgainst _ _ _ _ _ = ⊥

-- what speaks against the claims, whichever lines have these superclasses and types, and whichever interpretation is listed
abbrev pub ClaimsAgainstLists : Ontology → Listed → (above types : List (List ℕ)) → Option Reason → Type 0
ClaimsAgainstLists o listed above types reason =
    (lines : List Line) → AreSuperclasses o (said_by lines) above → AreTypes o (said_by lines) types → (i : Interpretation) → IsListing o listed i → IsInterpretation i → ClaimsAgainst o i lines listed reason

-- what speaks against the texts where the listed interpretation is i: an axiom that it does not satisfy, else a claim or an
-- individual, else the texts
abbrev pub ListingAgainst : Ontology → (taxonomy instances : List ℕ) → List Line → Listed → Interpretation → Option Reason → Type 0
ListingAgainst o t t' lines listed i (Some (AxiomFails n)) = IsFirstUnsatisfied o i n
ListingAgainst o t t' lines listed i (Some (ClaimMissing c)) = IsModel i (axiom_trees o) × ClaimsAgainst o i lines listed (Some (ClaimMissing c))
ListingAgainst o t t' lines listed i (Some (ClaimDisagrees c)) = IsModel i (axiom_trees o) × ClaimsAgainst o i lines listed (Some (ClaimDisagrees c))
ListingAgainst o t t' lines listed i (Some (IndividualDisagrees a)) =
    IsModel i (axiom_trees o) × ClaimsAgainst o i lines listed (Some (IndividualDisagrees a))
ListingAgainst o t t' lines listed i reason =
    IsModel i (axiom_trees o) × ClaimsAgainst o i lines listed None × RelationAgainst o t t' lines reason

-- the members list an interpretation, by which the texts are measured
pub record ConsistentAgainst (o : Ontology) (taxonomy instances : List ℕ) (lines : List Line) (listed : Listed) (reason : Option Reason) : Type 0 where
  pub i : Interpretation
  pub listing : IsListing o listed i
  pub interpretation : IsInterpretation i
  pub against : ListingAgainst o taxonomy instances lines listed i reason

-- what is kept of lines: whether they show a contradiction, and for each class and each individual the list of the classes that
-- they put it into
pub record AreShown (o : Ontology) (lines : List Line) (contradictory : Bool) (above types : List (List ℕ)) : Type 0 where
  pub contradiction : TellsContradiction contradictory lines
  pub superclasses : AreSuperclasses o (said_by lines) above
  pub members : AreTypes o (said_by lines) types

-- this is kept of some derivation's lines
abbrev pub HasDerivation : Ontology → Bool → (above types : List (List ℕ)) → Type 0
HasDerivation o contradictory above types = (lines : List Line) × AreShown o lines contradictory above types × IsDerivation o lines

-- whichever lines have these superclasses and types, the members list an interpretation, by which the texts are measured
abbrev pub ConsistentAgainstShown : Ontology → (taxonomy instances : List ℕ) → (above types : List (List ℕ)) → Listed → Option Reason → Type 0
ConsistentAgainstShown o t i above types listed reason =
    (lines : List Line) → AreSuperclasses o (said_by lines) above → AreTypes o (said_by lines) types → ConsistentAgainst o t i lines listed reason

-- what speaks against the texts where a derivation is to show a contradiction, for whichever lines show one, or do not
abbrev pub ContradictionAgainstShown : (taxonomy instances : List ℕ) → Bool → Option Reason → Type 0
ContradictionAgainstShown t i contradictory reason = (lines : List Line) → TellsContradiction contradictory lines → ContradictionAgainst t i lines reason

-- what speaks against a certificate
abbrev pub Against : Ontology → (taxonomy instances : List ℕ) → List Line → Option Listed → Option Reason → Type 0
Against o t i lines None reason = ContradictionAgainst t i lines reason
Against o t i lines (Some listed) reason = ConsistentAgainst o t i lines listed reason

-- what speaks against a certificate, whichever its lines are of which this is kept
abbrev pub AgainstShown : Ontology → (taxonomy instances : List ℕ) → Bool → (above types : List (List ℕ)) → Option Listed → Option Reason → Type 0
AgainstShown o t i contradictory above types listed reason = (lines : List Line) → AreShown o lines contradictory above types → Against o t i lines listed reason

abbrev pub verdict_of_reason : Option Reason → Verdict
verdict_of_reason None = Accepted
verdict_of_reason (Some reason) = Rejected reason

-- the text is that of a certificate whose lines are a derivation, and this, if anything, speaks against it
pub record IsJudged (o : Ontology) (t i text : List ℕ) (reason : Option Reason) : Type 0 where
  pub certificate : Certificate
  pub text_is : IsSomeTextOf o text certificate
  pub derivation : IsDerivation o certificate.lines
  pub against : Against o t i certificate.lines certificate.listed reason

-- the text is that of a certificate with a line that does not follow from lines before it
pub record HasBadLine (o : Ontology) (text : List ℕ) (number : ℕ) : Type 0 where
  pub certificate : Certificate
  pub text_is : IsSomeTextOf o text certificate
  pub first : IsFirstBadLine o certificate.lines number

-- what the verdict says of an ontology, a taxonomy text, an instances text and a certificate text
abbrev pub IsVerdict : Ontology → (taxonomy instances text : List ℕ) → Verdict → Type 0
IsVerdict o t i text (Rejected (BadText at)) = IsNoText o text at
IsVerdict o t i text (Rejected (BadLine n)) = HasBadLine o text n
IsVerdict o t i text (Rejected reason) = IsJudged o t i text (Some reason)
IsVerdict o t i text Accepted = IsJudged o t i text None

-- the verdict is neither C1 nor C2: the text is that of a certificate, and its lines are a derivation
abbrev pub PassesLines : Verdict → Type 0
PassesLines (Rejected (BadText at)) = ⊥
PassesLines (Rejected (BadLine n)) = ⊥
PassesLines verdict = Unit {0}

-- the text is that of a certificate, and each of its lines is true in every interpretation in which the axioms hold
pub record HasTrueLines (o : Ontology) (text : List ℕ) : Type 0 where
  pub certificate : Certificate
  pub text_is : IsSomeTextOf o text certificate
  pub lines : (i : Interpretation) → IsModel i (axiom_trees o) → (n : ℕ) (line : Line) → slice_get certificate.lines n ≡ Some line → IsTrueIn o i line.conclusion
