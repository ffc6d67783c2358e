-- What is left when all that could speak against a certificate was looked at.
use Rattle.std.proofs.Common.{◌≡◌, List, ℕ, Some, None, Option, false, true, is_some, sym}
use Rattle.std.proofs.lemmas.Bool.{false≢true}
use Rattle.axioms.specs.Ontology.{Ontology, axiom_trees}
use Rattle.interpretation_spec.specs.Interpretation.{Interpretation, IsModel}
use Rattle.certificate.specs.Certificate.{Line, Listed, Certificate}
use Rattle.certificate.specs.Writability.{IsSomeTextOf}
use Rattle.cert_check.specs.declared.verdict.Reason.{Reason}
use Rattle.cert_check.specs.declared.verdict.Reason.TheVariants.{BadText, BadLine, AxiomFails, ClaimMissing, ClaimDisagrees, IndividualDisagrees, NoContradiction, TaxonomyDiffers, InstancesDiffer}
use Rattle.cert_check.specs.declared.verdict.Verdict.TheVariants.{Rejected}
use Rattle.cert_check.specs.Derivation.{IsDerivation}
use Rattle.cert_check.specs.Verdict.{ClaimsAgainst, ListingAgainst, RelationAgainst, Against, IsJudged, IsVerdict, verdict_of_reason}

-- what speaks against the claims, where all axioms hold
of_a_claim : (o : Ontology) (t i : List ℕ) (lines : List Line) (l : Listed) (j : Interpretation) (reason : Reason) → IsModel j (axiom_trees o)
    → ClaimsAgainst o j lines l (Some reason) → ListingAgainst o t i lines l j (Some reason)
of_a_claim o t i lines l j (ClaimMissing c) m h = (m, h)
of_a_claim o t i lines l j (ClaimDisagrees c) m h = (m, h)
of_a_claim o t i lines l j (IndividualDisagrees a) m h = (m, h)
of_a_claim o t i lines l j _ m h = absurd h

pub of_claims : (o : Ontology) (t i : List ℕ) (lines : List Line) (l : Listed) (j : Interpretation) (found : Option Reason) → is_some found ≡ true → IsModel j (axiom_trees o)
    → ClaimsAgainst o j lines l found → ListingAgainst o t i lines l j found
of_claims o t i lines l j None e m h = absurd (false≢true e)
of_claims o t i lines l j (Some reason) e m h = of_a_claim o t i lines l j reason m h

-- no claim and no individual speaks against it
pub all_claims : (o : Ontology) (lines : List Line) (l : Listed) (j : Interpretation) (found : Option Reason) → is_some found ≡ false → ClaimsAgainst o j lines l found → ClaimsAgainst o j lines l None
all_claims o lines l j None e h = h
all_claims o lines l j (Some reason) e h = absurd (false≢true (sym e))

-- what speaks against the texts, where nothing does before
pub of_texts : (o : Ontology) (t i : List ℕ) (lines : List Line) (l : Listed) (j : Interpretation) (found : Option Reason) → IsModel j (axiom_trees o)
    → ClaimsAgainst o j lines l None → RelationAgainst o t i lines found → ListingAgainst o t i lines l j found
of_texts o t i lines l j None m a r = (m, a, r)
of_texts o t i lines l j (Some (TaxonomyDiffers at)) m a r = (m, a, r)
of_texts o t i lines l j (Some (InstancesDiffer at)) m a r = (m, a, r)
of_texts o t i lines l j (Some (BadText at)) m a r = (m, a, r)
of_texts o t i lines l j (Some (BadLine n)) m a r = (m, a, r)
of_texts o t i lines l j (Some NoContradiction) m a r = (m, a, r)
of_texts o t i lines l j (Some (AxiomFails n)) m a r = absurd r.texts
of_texts o t i lines l j (Some (ClaimMissing c)) m a r = absurd r.texts
of_texts o t i lines l j (Some (ClaimDisagrees c)) m a r = absurd r.texts
of_texts o t i lines l j (Some (IndividualDisagrees c)) m a r = absurd r.texts

not_the_text : (o : Ontology) (t i : List ℕ) (lines : List Line) (listed : Option Listed) (at : ℕ) → Against o t i lines listed (Some (BadText at)) → ⊥
not_the_text o t i lines None at h = h.1
not_the_text o t i lines (Some l) at h = h.against.2.texts

not_a_line : (o : Ontology) (t i : List ℕ) (lines : List Line) (listed : Option Listed) (n : ℕ) → Against o t i lines listed (Some (BadLine n)) → ⊥
not_a_line o t i lines None n h = h.1
not_a_line o t i lines (Some l) n h = h.against.2.texts

rejected : (o : Ontology) (t i text : List ℕ) (reason : Reason) → IsJudged o t i text (Some reason) → IsVerdict o t i text (Rejected reason)
rejected o t i text (BadText at) j = absurd (not_the_text o t i j.certificate.lines j.certificate.listed at j.against)
rejected o t i text (BadLine n) j = absurd (not_a_line o t i j.certificate.lines j.certificate.listed n j.against)
rejected o t i text _ j = j

pub judged : (o : Ontology) (t i text : List ℕ) (c : Certificate) (reason : Option Reason) → IsSomeTextOf o text c → IsDerivation o c.lines
    → Against o t i c.lines c.listed reason → IsJudged o t i text reason
judged o t i text c reason text_is derivation against = record { certificate = c; text_is = text_is; derivation = derivation; against = against }

pub judged_verdict : (o : Ontology) (t i text : List ℕ) (c : Certificate) (found : Option Reason) → IsSomeTextOf o text c → IsDerivation o c.lines
    → Against o t i c.lines c.listed found → IsVerdict o t i text (verdict_of_reason found)
judged_verdict o t i text c None text_is derivation against = judged o t i text c None text_is derivation against
judged_verdict o t i text c (Some reason) text_is derivation against = rejected o t i text reason (judged o t i text c (Some reason) text_is derivation against)
