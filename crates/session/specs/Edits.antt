-- Calls of a session one after the other, with their answers, and what is then there: what one document states.
use Rattle.std.specs.Prelude.{◌≡◌, ◌↔◌, ◌+◌, ℕ, List, [], ◌∷◌, ◌++◌, Bool, Option, Result, Ok, Err, Some, length}
use Rattle.std.specs.List.{Contains}
use Rattle.axioms.specs.Numbering.{Statement, IsOntologyOf}
use Rattle.axioms.specs.Ontology.{Ontology}
use Rattle.axioms.specs.WellFormedness.{IsOntology}
use Rattle.answers.specs.Questions.{IsAnswerTo, names_in}
use Rattle.answers.specs.declared.answer.Answer.{Answer}
use Rattle.certificate.specs.declared.format.Format.{Format}
use Rattle.classification.specs.declared.classification.Summary.{Summary}
use Rattle.closure.specs.Closure.{Context, Fact, IsFact}
use Rattle.closure.specs.Denotations.{SaysFact}
use Rattle.engine.specs.Saturations.{HasResumed, IsFinished, Saturates}
use Rattle.exactness.specs.ListedInterpretation.{IsConsistent, IsListedInterpretation}
use Rattle.facts.specs.declared.contexts.Fact as code
use Rattle.fs_parser.specs.Document.{Document, prefixes_of}
use Rattle.fs_parser.specs.Name.{Prefixes}
use Rattle.fs_parser.specs.Tree.{Trees}
use Rattle.inference.specs.declared.known_facts.Stop.{Stop}
use Rattle.interpretation_spec.specs.Agreement.{AgreeOn}
use Rattle.interpretation_spec.specs.Interpretation.{Interpretation}
use Rattle.normalise.specs.Problem.{prefixes_of as prefix_numbers}
use Rattle.profile.specs.AddedTexts.{AreStatementsOf}
use Rattle.profile.specs.Documents.{AreTextOf, OpensAs, ReadsAs}
use Rattle.profile.specs.Statements.{statements}
use Rattle.profile.specs.declared.fault.DocumentFault.{DocumentFault}
use Rattle.program.specs.declared.question.Question.{Question}
use Rattle.program.specs.declared.version.Version.{Version}
use Rattle.session.specs.Additions.{IsAddition, IsRefusedAddition}
use Rattle.session.specs.Answers.{IsAskRefusal, IsDecided, IsMade, IsQuestioned, IsUnmade, IsWritten}
use Rattle.session.specs.Classifications.{IsClassified}
use Rattle.session.specs.Entailments.{IsEntailment, IsEntailmentRefusal}
use Rattle.session.specs.Inferences.{IsInferred}
use Rattle.session.specs.Queries.{IsQueryAnswer, IsQueryRefusal, NamesFound}
use Rattle.session.specs.Sessions.{IsOpen, IsSession, KeepsText, Opened, as_read}
use Rattle.session.specs.WrittenTexts.{Sinks, Texts}
use Rattle.session.specs.declared.entails_fault.EntailsFault.{EntailsFault}
use Rattle.session.specs.declared.fault.AskFault.{AskFault}
use Rattle.session.specs.declared.fault.WritingFault.{WritingFault}
use Rattle.session.specs.declared.query_fault.QueryFault.{QueryFault}
use Rattle.shapes.specs.Faults.{axiom_faults, document_faults}

-- ---- calls

-- what is asked of a session: to add, to run on, to answer, whether axioms follow, whether its own contradict one another, to write, with a certificate in a
-- format, to sinks that have taken so much, or to infer
pub data Call : Type 0 where
  Add : (text : List ℕ) → Call
  Resume : (max_facts : ℕ) → Call
  Ask : (question : Question) → Call
  Query : (text : List ℕ) (max_facts : ℕ) → Call
  Entail : (text : List ℕ) (max_facts : ℕ) → Call
  Decide : Call
  Write : (format : Format) (before : Sinks) → Call
  Infer : Call

-- what is answered: of writing also what the sinks have taken then, of inferring the counts and the text
pub data Reply : Type 0 where
  Added : Result (Unit {0}) DocumentFault → Reply
  Resumed : Result (Unit {0}) Stop → Reply
  Answered : Result Answer AskFault → Reply
  Found : Result NamesFound QueryFault → Reply
  Entailed : Result Bool EntailsFault → Reply
  Decided : Option Bool → Reply
  Written : (after : Sinks) → Result Summary WritingFault → Reply
  Inferred : Result (Summary × List ℕ) WritingFault → Reply

-- what the contract of the call says of the session before and after it, and of the answer; others are not given
abbrev pub IsCall : (old : Opened) → Call → Reply → (new : Opened) → Type 0
IsCall old (Add text) (Added (Ok _)) new = IsAddition old text new
IsCall old (Add text) (Added (Err fault)) new = IsRefusedAddition old text fault × (new ≡ old)
IsCall old (Resume most) (Resumed answer) new =
    (new.ontology ≡ old.ontology) × KeepsText old new × HasResumed most old.saturation new.saturation answer × Saturates new.ontology most new.saturation answer
IsCall old (Ask question) (Answered (Ok answer)) new = IsQuestioned old (names_in question) × IsAnswerTo old.ontology question answer × (new ≡ old)
IsCall old (Ask question) (Answered (Err fault)) new = IsAskRefusal old (names_in question) fault × (new ≡ old)
IsCall old (Query text most) (Found (Ok found)) new = IsQueryAnswer old text most found × (new ≡ old)
IsCall old (Query text most) (Found (Err fault)) new = IsQueryRefusal old text most fault × (new ≡ old)
IsCall old (Entail text most) (Entailed (Ok entailed)) new = IsEntailment old text most entailed × (new ≡ old)
IsCall old (Entail text most) (Entailed (Err fault)) new = IsEntailmentRefusal old text most fault × (new ≡ old)
IsCall old Decide (Decided answer) new = IsDecided old answer × (new ≡ old)
IsCall old (Write format before) (Written after answer) new = IsWritten old format before after answer × (new ≡ old)
IsCall old Infer (Inferred (Ok (summary, text))) new = IsFinished old.saturation × IsInferred old.ontology summary text × (new ≡ old)
IsCall old Infer (Inferred (Err fault)) new = IsUnmade old fault × (new ≡ old)
IsCall old call reply new = ⊥

-- a session over the document of these bytes, of that version
pub record IsSessionOver (version : Version) (bytes : List ℕ) (s : Opened) : Type 0 where
  pub read : OpensAs version bytes (as_read s)
  pub session : IsSession s

-- calls one after the other, with their answers
abbrev pub AreCalls : (old : Opened) → List Call → List Reply → (new : Opened) → Type 0
AreCalls old [] [] new = new ≡ old
AreCalls old (call ∷ calls) (reply ∷ replies) new = (mid : Opened) × IsCall old call reply mid × IsSession mid × AreCalls mid calls replies new
AreCalls old calls replies new = ⊥

-- ---- what was accepted

-- the text that the call has added, if it has added one
abbrev pub added : Call → Reply → List (List ℕ)
added (Add text) (Added (Ok _)) = text ∷ []
added call reply = []

-- those of all calls, in their order
abbrev pub accepted : List Call → List Reply → List (List ℕ)
accepted (call ∷ calls) (reply ∷ replies) = added call reply ++ accepted calls replies
accepted calls replies = []

-- the texts, which have no faults in the version, state these, one behind the other, with the prefixes
abbrev pub AreStatedBy : Version → Prefixes → List (List ℕ) → List Statement → Type 0
AreStatedBy version prefixes [] stated = stated ≡ []
AreStatedBy version prefixes (text ∷ texts) stated =
    (trees : Trees) × (later : List Statement) × AreStatementsOf prefixes text trees × (axiom_faults version trees ≡ []) × AreStatedBy version prefixes texts later
    × (stated ≡ statements version trees ++ later)

abbrev pub bytes_of : List (List ℕ) → ℕ
bytes_of [] = 0
bytes_of (text ∷ texts) = length text + bytes_of texts

-- the session, of that version, has the ontology of the statements of the document and of these texts, which have no faults in the
-- version, with the prefixes of the document; and it has as many bytes as these
pub record IsOneDocument (version : Version) (bytes : List ℕ) (texts : List (List ℕ)) (s : Opened) : Type 0 where
  pub read_in : s.version ≡ version
  pub document : Document
  pub text : AreTextOf bytes document
  pub faultless : document_faults version document.trees ≡ []
  pub prefixes : s.prefixes ≡ prefixes_of document
  pub stated : List Statement
  pub are : AreStatedBy version s.prefixes texts stated
  pub ontology : IsOntologyOf (statements version document.trees ++ stated) s.ontology
  pub well_formed : IsOntology s.ontology
  pub number : s.bytes ≡ length bytes + bytes_of texts

-- the document of these bytes was opened, and of whatever calls then came these texts were accepted
pub record HasAccepted (version : Version) (bytes : List ℕ) (texts : List (List ℕ)) (s : Opened) : Type 0 where
  pub opened : Opened
  pub over : IsSessionOver version bytes opened
  pub calls : List Call
  pub replies : List Reply
  pub are : AreCalls opened calls replies s
  pub texts_are : accepted calls replies ≡ texts

-- sessions over one document that accepted the same texts, whatever else was called and whichever version each has
pub record AreEditedAlike (s t : Opened) : Type 0 where
  pub version : Version
  pub other : Version
  pub bytes : List ℕ
  pub texts : List (List ℕ)
  pub first : HasAccepted version bytes texts s
  pub second : HasAccepted other bytes texts t

-- one of the session's facts says the fact
abbrev pub Says : Opened → Fact → Type 0
Says s g = (f : code.Fact) × Contains s.saturation.state.facts f × SaysFact (prefix_numbers s.saturation.normal) f g

-- ---- laws

-- whatever calls come, and whichever are refused: what is there is what the document and the accepted texts state
abbrev pub EditsAreOneDocument : Type 0
EditsAreOneDocument =
    (version : Version) (bytes : List ℕ) (old new : Opened) (calls : List Call) (replies : List Reply) → IsSessionOver version bytes old → AreCalls old calls replies new →
    IsOneDocument version bytes (accepted calls replies) new

-- so sessions over the same document that accepted the same texts, whatever else was called and whichever version each has, have the same
-- ontology, prefixes and bytes
abbrev pub AcceptedAlikeEndAlike : Type 0
AcceptedAlikeEndAlike =
    (version other : Version) (bytes : List ℕ) (texts : List (List ℕ)) (s t : Opened) → IsOneDocument version bytes texts s → IsOneDocument other bytes texts t →
    (s.ontology ≡ t.ontology) × (s.prefixes ≡ t.prefixes) × (s.bytes ≡ t.bytes)

-- where then nothing is pending in either, both say the same: exactly the facts of the closure of their ontology
abbrev pub FinishedAlikeSayAlike : Type 0
FinishedAlikeSayAlike =
    (s t : Opened) → AreEditedAlike s t → IsFinished s.saturation → IsFinished t.saturation →
    (g : Fact) → (Says s g ↔ IsFact s.ontology [] g) × (Says t g ↔ IsFact s.ontology [] g)

-- and they write the same taxonomy and the same instances, in whatever formats their certificates are, and count the same
abbrev pub FinishedAlikeWriteAlike : Type 0
FinishedAlikeWriteAlike =
    (s t : Opened) (format other_format : Format) (summary other : Summary) (texts others : Texts) → AreEditedAlike s t →
    IsMade s format summary texts → IsMade t other_format other others →
    (other ≡ summary) × (others.taxonomy ≡ texts.taxonomy) × (others.instances ≡ texts.instances)

-- and the texts are those of a classification, in any version and format, of any document that reads in any as that ontology
abbrev pub TextsAreThoseOfOneDocument : Type 0
TextsAreThoseOfOneDocument =
    (s : Opened) (summary : Summary) (texts : Texts) (document : List ℕ) (version classifying : Version) (format other_format : Format) (most_bytes most_facts : ℕ) (other : Summary) (others : Texts) →
    IsOpen s → IsMade s format summary texts → ReadsAs version document s.ontology → IsClassified classifying other_format most_bytes most_facts (Some document) other others →
    (others.taxonomy ≡ texts.taxonomy) × (others.instances ≡ texts.instances)

-- and the interpretation that the closure lists is that of any document that reads in any version as that ontology: it has the same
-- elements, and says the same of each name
abbrev pub ListedIsThatOfOneDocument : Type 0
ListedIsThatOfOneDocument =
    (s : Opened) (document : List ℕ) (version other : Version) (o : Ontology) (xs ys : List Context) (i j : Interpretation) →
    IsOpen s → ReadsAs version document s.ontology → ReadsAs other document o → IsConsistent s.ontology [] →
    IsListedInterpretation s.ontology [] xs i → IsListedInterpretation o [] ys j → (xs ≡ ys) × AgreeOn s.ontology i j
