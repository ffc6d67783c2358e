-- A certificate shows what a classification says.
use Rattle.std.proofs.Common.{◌≡◌, ℕ, Bool, true, false, List, Some, None, Option, refl, sym, subst, subst₂}
use Rattle.std.specs.Prelude.{MatchOption}
use Rattle.axioms.specs.Ontology.{Ontology}
use Rattle.axioms.specs.WellFormedness.{IsOntology}
use Rattle.certificate.specs.Certificate.{Listed, Certificate}
use Rattle.certificate.specs.Writability.{IsSomeTextOf}
use Rattle.cert_check.specs.Acceptance.{IsContradictionShown, IsAcceptable}
use Rattle.cert_check.specs.Derivation.{IsDerivation}
use Rattle.exactness.specs.Acceptance.{ShowsClosure}
use Rattle.exactness.proofs.Acceptance.{shown_is_acceptable}
use Rattle.taxonomy.specs.Outcome.{IsMadeFor, taxonomy_of, instances_of}
use Rattle.taxonomy.specs.Relation.{is_listed, lies_below}
use Rattle.explain.proofs.Aiming.{has_last}
use Rattle.taxonomy.specs.declared.outcome.Outcome.{Outcome}
use Rattle.taxonomy.specs.declared.outcome.Outcome.TheVariants.{Consistent, Inconsistent}
use Rattle.classification.specs.Classifications.{AreTextsOf}
use Rattle.classification.specs.Findings.{IsOutcomeOf, AreShown}

-- ---- texts

pub texts_of : (o : Ontology) (consistent : Bool) (outcome : Outcome) → IsOutcomeOf o consistent outcome → AreTextsOf o consistent (taxonomy_of o outcome) (instances_of o outcome)
texts_of o true (Consistent taxonomy types) is = record {
  lies_below = lies_below taxonomy;
  belongs = is_listed types;
  relations = record { below = is.0.below; types = is.1.types };
  taxonomy_is = refl;
  instances_is = refl;
}
texts_of o true Inconsistent is = absurd is
texts_of o false Inconsistent is = (refl, refl)
texts_of o false (Consistent taxonomy types) is = absurd is

-- texts that are equal to those of the outcome are texts of the ontology too
pub told_texts : (o : Ontology) (consistent : Bool) (outcome : Outcome) → IsOutcomeOf o consistent outcome → (says : Bool) (taxonomy instances : List ℕ) → says ≡ consistent
    → taxonomy ≡ taxonomy_of o outcome → instances ≡ instances_of o outcome → AreTextsOf o says taxonomy instances
told_texts o consistent outcome is says taxonomy instances same t i =
    subst (λ b. AreTextsOf o b taxonomy instances) (sym same) (subst₂ (AreTextsOf o consistent) (sym t) (sym i) (texts_of o consistent outcome is))

pub made_for : (o : Ontology) (consistent : Bool) (outcome : Outcome) → IsOutcomeOf o consistent outcome → IsMadeFor o outcome
made_for o true (Consistent taxonomy types) is = record { classes = is.0.long; individuals = is.1.long; types_are_classes = is.1.over }
made_for o true Inconsistent is = absurd is
made_for o false Inconsistent is = tt
made_for o false (Consistent taxonomy types) is = absurd is

-- ---- acceptance

pub acceptable : (o : Ontology) → IsOntology o → (consistent : Bool) (c : Certificate) (taxonomy instances text : List ℕ) → IsSomeTextOf o text c → IsDerivation o c.lines → AreShown o consistent c.lines c.listed
    → AreTextsOf o consistent taxonomy instances → IsAcceptable o taxonomy instances text
acceptable o w consistent c taxonomy instances text text_of derivation shown texts =
    shown_is_acceptable o taxonomy instances text c w text_of derivation (shows consistent c.listed shown texts)
  where
    shows : (consistent : Bool) (l : Option Listed) → AreShown o consistent c.lines l → AreTextsOf o consistent taxonomy instances
        → MatchOption l (IsContradictionShown taxonomy instances c.lines) (ShowsClosure o taxonomy instances c.lines)
    shows true (Some l) shown texts = record { facts = shown.0; interpretation = shown.1; texts = texts }
    shows true None shown texts = absurd shown
    shows false None shown texts = record { subject = shown.0; top = shown.1; line = has_last c.lines _ shown.2.ends; taxonomy_is = texts.0; instances_is = texts.1 }
    shows false (Some l) shown texts = absurd shown
