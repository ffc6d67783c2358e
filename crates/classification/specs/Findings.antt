-- What a classification finds, and what its certificate shows.
use Rattle.std.specs.Prelude.{ℕ, List, [], Bool, true, false, Some, None}
use Rattle.std.specs.declared.option.Option.{Option}
use Rattle.axioms.specs.Ontology.{Ontology}
use Rattle.cert_check.specs.Derivation.{IsDerivation}
use Rattle.certificate.specs.Certificate.{Line, Listed, Certificate}
use Rattle.certificate.specs.declared.format.Format.{Format}
use Rattle.certificate.specs.Writability.{IsTextOf}
use Rattle.classification.specs.Lists.{IsTaxonomyOf, AreTypesOf}
use Rattle.exactness.specs.Acceptance.{IsListedFor}
use Rattle.exactness.specs.Theorems.{HaveFacts}
use Rattle.explain.specs.Needs.{DerivesContradiction}
use Rattle.taxonomy.specs.declared.outcome.Outcome.{Outcome}
use Rattle.taxonomy.specs.declared.outcome.Outcome.TheVariants.{Consistent, Inconsistent}

-- the relations of the closure, or that there is a contradiction
abbrev pub IsOutcomeOf : Ontology → Bool → Outcome → Type 0
IsOutcomeOf o true (Consistent taxonomy types) = IsTaxonomyOf o taxonomy × AreTypesOf o types
IsOutcomeOf o false Inconsistent = Unit {0}
IsOutcomeOf o _ _ = ⊥

-- the lines have the closure's facts, and its interpretation is listed; or the lines derive a contradiction
abbrev pub AreShown : Ontology → Bool → List Line → Option Listed → Type 0
AreShown o true lines (Some listed) = HaveFacts o [] lines × IsListedFor o [] listed
AreShown o false lines None = DerivesContradiction o lines
AreShown o _ lines _ = ⊥

-- the text in the format is that of a certificate of a derivation that shows it
pub record IsCertificateOf (o : Ontology) (format : Format) (consistent : Bool) (text : List ℕ) : Type 0 where
  pub certificate : Certificate
  pub text_of : IsTextOf o format text certificate
  pub derivation : IsDerivation o certificate.lines
  pub shown : AreShown o consistent certificate.lines certificate.listed
