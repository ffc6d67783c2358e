-- What is inferred of an ontology, and of a document.
use Rattle.std.specs.Prelude.{◌≡◌, ◌≤◌, ℕ, List, Option}
use Rattle.axioms.specs.Ontology.{Ontology}
use Rattle.classification.specs.Classifications.{AreCountsOf}
use Rattle.classification.specs.declared.classification.Summary.{Summary}
use Rattle.inferred_text.specs.Inferred.{inferred}
use Rattle.inferred_text.specs.Theorems.{SaysWhatFollows}
use Rattle.profile.specs.Faults.{ReadsKnown}
use Rattle.program.specs.declared.version.Version.{Version}
use Rattle.statements_text.specs.Texts.{document_text}
use Rattle.taxonomy.specs.Following.{IsWhatFollows}
use Rattle.taxonomy.specs.Outcome.{IsMadeFor}
use Rattle.taxonomy.specs.declared.outcome.Outcome.{Outcome}

-- these are the counts of the ontology, and the text is that of what follows from its axioms, reduced as its texts are: it reads as an
-- ontology that says the same
pub record IsInferred (o : Ontology) (summary : Summary) (text : List ℕ) : Type 0 where
  pub counts : AreCountsOf o summary
  pub outcome : Outcome
  pub made_for : IsMadeFor o outcome
  pub follows : IsWhatFollows o outcome
  pub text_is : text ≡ document_text (inferred o.names outcome)
  pub says : SaysWhatFollows o text

-- the document, of at most so many bytes, reads in the version as an ontology whose closure has at most so many facts, and of which that is
-- inferred
pub record IsInferredOf (version : Version) (most_bytes most_facts : ℕ) (document : Option (List ℕ)) (summary : Summary) (text : List ℕ) : Type 0 where
  pub ontology : Ontology
  pub reads : ReadsKnown version document most_bytes ontology
  pub within : summary.facts ≤ most_facts
  pub inferred_is : IsInferred ontology summary text
