-- What is answered of a document that was run to its end.
use Rattle.std.proofs.Common.{◌≡◌, ℕ, List, Option, Result, Ok, Err, IfOk, IfErr, length, subst}
use Rattle.std.specs.Global.{Vec}
use Rattle.axioms.specs.Expression.{Iri}
use Rattle.axioms.specs.declared.terms.Kind.{Kind}
use Rattle.cert_check.specs.Acceptance.{AreRight, IsAcceptable}
use Rattle.certificate.specs.declared.format.Format.{Format}
use Rattle.classification.specs.Classifications.{AreCountsOf, AreTextsOf, IsWrittenIn}
use Rattle.classification.specs.declared.classification.Classification.{Classification}
use Rattle.engine.specs.Closed.{Closed}
use Rattle.engine.specs.Saturations.{IsFinished, as_ended}
use Rattle.profile.proofs.Readings.{opened_read}
use Rattle.profile.specs.declared.opened.Opened.{Opened}
use Rattle.program.specs.declared.limits.Limits.{Limits}
use Rattle.program.specs.declared.question.Question.{Question}
use Rattle.program.specs.declared.question.Spelling.{Spelling}
use Rattle.session.specs.Answers.{IsMade}
use Rattle.session.specs.Sessions.{Opened as Session}
use Rattle.session.specs.TextAnswers.{AnswersIn, AnswersQuestion, IsFaultOf, IsReadAs, IsRunAs}
use Rattle.session.specs.Texts.{IsUnanswered}
use Rattle.session.specs.WrittenTexts.{texts_of}
use Rattle.session.specs.declared.question_fault.QuestionFault.{QuestionFault}
use Rattle.session.specs.declared.question_fault.QuestionFault.TheVariants as asking

module _ (limits : Limits) (document : Option (List ℕ)) (d : Opened) (run : IsRunAs limits document d) where
  pub read : IsReadAs limits.version limits.max_bytes document d.ontology
  read = record { reads = opened_read limits.version document limits.max_bytes d run.opens; taken = run.taken }

  -- ---- answers

  pub answers_question : (r : Result (Vec ℕ) QuestionFault) (question : Question) (spelling : Spelling) → IfOk r (λ v. AnswersIn d question spelling v.items) → IfOk r (λ v. AnswersQuestion limits document question spelling v.items)
  answers_question (Ok v) question spelling is = (d, run, is)
  answers_question (Err fault) question spelling is = tt

  -- ---- faults of a question that was asked at the end

  unanswered : (names : List (Kind × Iri)) (fault : QuestionFault) → IsUnanswered d.ontology names fault → IsFaultOf limits document names fault
  unanswered names (asking.UnknownName name) is = (d.ontology, read, run.few, is)
  unanswered names asking.Memory is = (d.ontology, read)
  unanswered names (asking.Document fault) is = absurd is
  unanswered names asking.Limit is = absurd is
  unanswered names (asking.Expression fault) is = absurd is

  pub faults : (r : Result (Vec ℕ) QuestionFault) (names : List (Kind × Iri)) → IfErr r (IsUnanswered d.ontology names) → IfErr r (IsFaultOf limits document names)
  faults (Ok v) names is = tt
  faults (Err fault) names is = unanswered names fault is

-- ---- texts

-- a classification of all that the ontology of a session leads to says what is made of the session
pub is_made : {E : Type 0} (s : Session) (all : Closed) (format : Format) (r : Result Classification E) → all ≡ record { ontology = s.ontology; saturation = as_ended s.saturation } → IsFinished s.saturation
    → IfOk r (λ c. AreCountsOf all.ontology c.summary) → IfOk r (λ c. c.summary.facts ≡ length all.saturation.state.facts)
    → IfOk r (λ c. AreTextsOf all.ontology c.summary.consistent c.taxonomy.items c.instances.items)
    → IfOk r (λ c. IsAcceptable all.ontology c.taxonomy.items c.instances.items c.certificate.items)
    → IfOk r (λ c. AreRight all.ontology c.taxonomy.items c.instances.items c.certificate.items) → IfOk r (λ c. IsWrittenIn all.ontology format c.certificate.items)
    → IfOk r (λ c. IsMade s format c.summary (texts_of c))
is_made s all format (Err e) same finished counts facts texts acceptable right written = tt
is_made s all format (Ok c) same finished counts facts texts acceptable right written = record {
  finished = finished;
  counts = subst (λ (i : Closed). AreCountsOf i.ontology c.summary) same counts;
  facts = subst (λ (i : Closed). c.summary.facts ≡ length i.saturation.state.facts) same facts;
  texts_are = subst (λ (i : Closed). AreTextsOf i.ontology c.summary.consistent c.taxonomy.items c.instances.items) same texts;
  acceptable = subst (λ (i : Closed). IsAcceptable i.ontology c.taxonomy.items c.instances.items c.certificate.items) same acceptable;
  right = subst (λ (i : Closed). AreRight i.ontology c.taxonomy.items c.instances.items c.certificate.items) same right;
  written = subst (λ (i : Closed). IsWrittenIn i.ontology format c.certificate.items) same written;
}
