-- What a session says where it is asked, and where its texts are written.
use Rattle.std.specs.Prelude.{◌≡◌, ◌≤◌, ◌↔◌, Bool, true, List, Option, Some, None, Result, Ok, Err, length}
use Rattle.std.specs.List.{All}
use Rattle.answers.specs.Questions.{HasName, IsFirstUnknown}
use Rattle.axioms.specs.Expression.{Iri}
use Rattle.axioms.specs.Ontology.{Ontology, axiom_trees}
use Rattle.axioms.specs.declared.terms.Kind.{Kind}
use Rattle.cert_check.specs.Acceptance.{AreRight, IsAcceptable}
use Rattle.certificate.specs.declared.format.Format.{Format}
use Rattle.classification.specs.Classifications.{AreCountsOf, AreTextsOf, IsWrittenIn}
use Rattle.classification.specs.declared.classification.Summary.{Summary}
use Rattle.device.specs.declared.device.Sink.{Ghosts}
use Rattle.engine.specs.Saturations.{IsFinished}
use Rattle.interpretation_spec.specs.Interpretation.{IsContradictory}
use Rattle.session.specs.Sessions.{Opened}
use Rattle.session.specs.WrittenTexts.{Sinks, Texts, AreWritten, AreWrittenUntil, all_seen}
use Rattle.session.specs.declared.fault.AskFault.{AskFault}
use Rattle.session.specs.declared.fault.AskFault.TheVariants as asking
use Rattle.session.specs.declared.fault.WritingFault.{WritingFault}
use Rattle.session.specs.declared.fault.WritingFault.TheVariants as writing

-- ---- questions

-- nothing is pending, and each name of the question, with its kind, is known
pub record IsQuestioned (s : Opened) (names : List (Kind × Iri)) : Type 0 where
  pub finished : IsFinished s.saturation
  pub known : All (HasName s.ontology) names

-- what a refusal says of a question of these names: facts are pending; or none are, and the name that is told is the first, from the
-- left, that is unknown
abbrev pub IsAskRefusal : Opened → (names : List (Kind × Iri)) → AskFault → Type 0
IsAskRefusal s names asking.Unfinished = ¬ IsFinished s.saturation
IsAskRefusal s names (asking.UnknownName unknown) = IsFinished s.saturation × IsFirstUnknown s.ontology names unknown.now
IsAskRefusal s names asking.Memory = IsFinished s.saturation

-- ---- contradictions

-- whether the axioms hold in some finite interpretation
abbrev pub IsConsistency : Ontology → Bool → Type 0
IsConsistency o consistent = (consistent ≡ true) ↔ (IsContradictory (axiom_trees o) → ⊥)

-- what is answered: that, where nothing is pending; nothing, where facts are
abbrev pub IsDecided : Opened → Option Bool → Type 0
IsDecided s (Some consistent) = IsFinished s.saturation × IsConsistency s.ontology consistent
IsDecided s None = ¬ IsFinished s.saturation

-- ---- texts

-- nothing is pending; these are the counts and the texts of the ontology, and the certificate, in this format, shows that the other two are
-- right
pub record IsMade (s : Opened) (format : Format) (summary : Summary) (texts : Texts) : Type 0 where
  pub finished : IsFinished s.saturation
  pub counts : AreCountsOf s.ontology summary
  pub facts : summary.facts ≡ length s.saturation.state.facts
  pub texts_are : AreTextsOf s.ontology summary.consistent texts.taxonomy texts.instances
  pub acceptable : IsAcceptable s.ontology texts.taxonomy texts.instances texts.certificate
  pub right : AreRight s.ontology texts.taxonomy texts.instances texts.certificate
  pub written : IsWrittenIn s.ontology format texts.certificate

-- what a fault says of the session where no text is made: facts are pending, or memory was refused
abbrev pub IsUnmade : Opened → WritingFault → Type 0
IsUnmade s writing.Unfinished = ¬ IsFinished s.saturation
IsUnmade s writing.Memory = IsFinished s.saturation
IsUnmade s (writing.Io n) = ⊥

-- what a fault says of the session and of what was written: nothing, or the texts until the sink that is told, by its number from 1
abbrev pub IsTextFault : Opened → Format → (old new : Sinks) → WritingFault → Type 0
IsTextFault s format old new (writing.Io n) = (1 ≤ n) × (n ≤ 3) × ((summary : Summary) × (texts : Texts) × IsMade s format summary texts × AreWrittenUntil n old new texts)
IsTextFault s format old new fault = IsUnmade s fault × (new ≡ old)

-- what an answer says of the session and of what was written
abbrev pub IsWritten : Opened → Format → (old new : Sinks) → Result Summary WritingFault → Type 0
IsWritten s format old new (Ok summary) = (texts : Texts) × IsMade s format summary texts × AreWritten old new texts
IsWritten s format old new (Err fault) = IsTextFault s format old new fault

-- what an answer says of the session, and of the three sinks before and after a call
abbrev pub Writes : {T I C : Type 0} → Ghosts T → Ghosts I → Ghosts C → Opened → Format → (old new : T × I × C) → Result Summary WritingFault → Type 0
Writes T I C s format old new answer = IsWritten s format (all_seen T I C old) (all_seen T I C new) answer
