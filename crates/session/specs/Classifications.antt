-- A document that is classified.
use Rattle.std.specs.Prelude.{◌≤◌, ℕ, List, Option}
use Rattle.axioms.specs.Ontology.{Ontology}
use Rattle.axioms.specs.WellFormedness.{IsOntology}
use Rattle.cert_check.specs.Acceptance.{AreRight, IsAcceptable}
use Rattle.certificate.specs.declared.format.Format.{Format}
use Rattle.classification.specs.Classifications.{AreCountsOf, AreTextsOf, IsWrittenIn}
use Rattle.classification.specs.declared.classification.Summary.{Summary}
use Rattle.profile.specs.Faults.{ReadsKnown}
use Rattle.program.specs.declared.version.Version.{Version}
use Rattle.session.specs.WrittenTexts.{Texts}

-- the document, of at most so many bytes, reads in the version as an ontology whose closure has at most so many facts; these are its counts
-- and its texts, the certificate, in this format, shows that the other two are right, and so they say what follows from the axioms
pub record IsClassified (version : Version) (format : Format) (most_bytes most_facts : ℕ) (document : Option (List ℕ)) (summary : Summary) (texts : Texts) : Type 0 where
  pub ontology : Ontology
  pub reads : ReadsKnown version document most_bytes ontology
  pub well_formed : IsOntology ontology
  pub counts : AreCountsOf ontology summary
  pub within : summary.facts ≤ most_facts
  pub texts_are : AreTextsOf ontology summary.consistent texts.taxonomy texts.instances
  pub acceptable : IsAcceptable ontology texts.taxonomy texts.instances texts.certificate
  pub right : AreRight ontology texts.taxonomy texts.instances texts.certificate
  pub written : IsWrittenIn ontology format texts.certificate
