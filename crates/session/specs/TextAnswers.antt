-- What a text answers about a document, and what a fault says where there is none.
use Rattle.std.specs.Prelude.{◌≡◌, ◌⊎◌, ◌++◌, ◌∷◌, ℕ, List, [], Bool, true, false, Option, Result, Ok, Err, codes, map}
use Rattle.std.specs.List.{flat_map}
use Rattle.answer_texts.specs.Cited.{IsCitedText}
use Rattle.answer_texts.specs.Conditions.{axiom_number_line, part_line}
use Rattle.answer_texts.specs.Graphs.{proof_graph, refutation_graph}
use Rattle.answer_texts.specs.Names.{line_feed, name_text}
use Rattle.answer_texts.specs.Proof.{proof_text}
use Rattle.answer_texts.specs.Reached.{IsOfReached, reached_graph, reached_text}
use Rattle.answer_texts.specs.Refutation.{refutation_text}
use Rattle.axioms.specs.Expression.{Iri}
use Rattle.axioms.specs.Ontology.{Ontology}
use Rattle.axioms.specs.declared.terms.Kind.{Kind}
use Rattle.certificate.specs.Certificate.{Line}
use Rattle.certificate.specs.View.{lines_of}
use Rattle.fs_parser.specs.Name.{Prefixes}
use Rattle.profile.specs.Documents.{IsTaken}
use Rattle.profile.specs.Faults.{OpensKnown, ReadsKnown, RefusesKnown}
use Rattle.profile.specs.declared.opened.Opened as reading
use Rattle.engine.specs.Saturations.{HasMoreFactsThan}
use Rattle.program.specs.declared.limits.Limits.{Limits}
use Rattle.program.specs.declared.version.Version.{Version}
use Rattle.session.specs.declared.question_fault.QuestionFault.{QuestionFault}
use Rattle.session.specs.declared.question_fault.QuestionFault.TheVariants.{Document, Limit, UnknownName, Expression, Memory}
use Rattle.answers.specs.Names.{groups_in}
use Rattle.answers.specs.Questions.{AreKnown, IsAnswerTo, IsFirstUnknown}
use Rattle.answers.specs.declared.answer.Answer.{Answer}
use Rattle.answers.specs.declared.answer.Answer.TheVariants as answers
use Rattle.answers.specs.declared.condition.Condition.{Condition}
use Rattle.answers.specs.declared.condition.Lacking.{Lacking}
use Rattle.answers.specs.declared.condition.Lacking.TheVariants.{Nothing, Conditions}
use Rattle.answers.specs.declared.condition.Part.{Part}
use Rattle.interpretation_spec.specs.NumberedInterpretation.{NumberedInterpretation}
use Rattle.program.specs.declared.question.Question.{Question}
use Rattle.program.specs.declared.question.Question.TheVariants as questions
use Rattle.program.specs.declared.question.Shown.{Shown}
use Rattle.program.specs.declared.question.Spelling.{Spelling}
use Rattle.short_names.specs.Spellings.{IsSpelled}
use Rattle.answers.specs.declared.explanation.Explanation.{Explanation}
use Rattle.answers.specs.declared.explanation.Explanation.TheVariants.{Yes, No, Contradictory}
use Rattle.entailment.specs.FactCounts.{HasNoMoreFactsThan}
use Rattle.telling.specs.Devices.{IsReadUntil}
use Rattle.session.specs.Queries.{IsAnswer, IsUnanswerable, NamesFound}
use Rattle.session.specs.declared.query_fault.QueryFault.{QueryFault}
use Rattle.session.specs.declared.query_fault.QueryFault.TheVariants as querying
use Rattle.source_lines.specs.Sources.{SourceState, IsReadToItsEnd}

-- the document, of at most so many bytes, reads in the version as the ontology
pub record IsReadAs (version : Version) (most_bytes : ℕ) (document : Option (List ℕ)) (o : Ontology) : Type 0 where
  pub reads : ReadsKnown version document most_bytes o
  pub taken : IsTaken o

-- the document, of at most so many bytes, reads in the version as the ontology, with these prefixes and so many bytes, and its closure
-- has at most so many facts
pub record IsRunAs (limits : Limits) (document : Option (List ℕ)) (d : reading.Opened) : Type 0 where
  pub opens : OpensKnown limits.version document limits.max_bytes d
  pub read_in : d.version ≡ limits.version
  pub taken : IsTaken d.ontology
  pub few : HasNoMoreFactsThan d.ontology [] limits.max_facts

-- ---- names

-- a line for each name, behind the word
abbrev pub name_lines : (word : List ℕ) → List Iri → List ℕ
name_lines word names = flat_map (λ name. word ++ name_text name ++ line_feed) names

-- a name behind another
abbrev pub later_name : Iri → List ℕ
later_name name = codes " = " ++ name_text name

-- the names of a group, one behind the other
abbrev pub group_text : List Iri → List ℕ
group_text [] = []
group_text (name ∷ names) = name_text name ++ flat_map later_name names

-- a line for each group
abbrev pub group_lines : List (List Iri) → List ℕ
group_lines groups = flat_map (λ group. group_text group ++ line_feed) groups

-- ---- why something follows, or why not

-- the lines of a derivation, behind the answer, and behind them those of the axioms that they cite, where these are asked for; or its graph
abbrev pub IsDerivationShown : (graph axioms : Bool) → (answer : List ℕ) → Ontology → List Line → (text : List ℕ) → Type 0
IsDerivationShown false false answer o lines text = text ≡ answer ++ proof_text o lines
IsDerivationShown false true answer o lines text = (cited : List ℕ) × IsCitedText o lines cited × (text ≡ answer ++ proof_text o lines ++ cited)
IsDerivationShown true axioms answer o lines text = text ≡ proof_graph o lines

-- the lines of a refutation, or its graph; of all elements, or of those alone that are reached from the one that refutes
abbrev pub IsRefutationShown : (graph reached : Bool) → Ontology → NumberedInterpretation → (element : ℕ) → (text : List ℕ) → Type 0
IsRefutationShown false false o i x text = text ≡ refutation_text o.names i x
IsRefutationShown true false o i x text = text ≡ refutation_graph o.names i x
IsRefutationShown false true o i x text = IsOfReached i x (λ reached. reached_text o.names i reached x) text
IsRefutationShown true true o i x text = IsOfReached i x (λ reached. reached_graph o.names i reached x) text

-- an explanation in the way that is asked for: as lines with whether it follows before those of a derivation, or as a graph
abbrev pub IsShown : Ontology → Shown → Explanation → (text : List ℕ) → Type 0
IsShown o shown (Yes lines) text = IsDerivationShown shown.graph shown.axioms (codes "yes\n") o (lines_of lines.items) text
IsShown o shown (No i x) text = IsRefutationShown shown.graph shown.reached o i x text
IsShown o shown (Contradictory lines) text = IsDerivationShown shown.graph shown.axioms (codes "contradictory\n") o (lines_of lines.items) text

-- ---- what is lacked

-- a line for each part of a condition
abbrev pub part_lines : Ontology → List Part → List ℕ
part_lines o parts = flat_map (λ part. part_line o part.has part.expression.0) parts

-- the line of the axiom that states the condition, and behind it those of its parts
abbrev pub condition_lines : Ontology → Condition → List ℕ
condition_lines o condition = axiom_number_line condition.axiom ++ part_lines o condition.parts.items

-- the lines of all conditions, or that there is none
abbrev pub conditions_text : Ontology → List Condition → List ℕ
conditions_text o [] = codes "no condition\n"
conditions_text o (condition ∷ later) = condition_lines o condition ++ flat_map (condition_lines o) later

-- that nothing is lacked, or what there is of each condition
abbrev pub lacking_text : Ontology → Lacking → List ℕ
lacking_text o Nothing = codes "yes\n"
lacking_text o (Conditions found) = conditions_text o found.items

-- ---- the answer to a question

-- the text of an answer: a line for each name, or for each group; or the explanation as the question wants it; or what is lacked
abbrev pub IsAnswerText : Ontology → Question → Answer → (text : List ℕ) → Type 0
IsAnswerText o (questions.Names related class) (answers.Names names) text = text ≡ name_lines [] (map (λ name. name.now) names.items)
IsAnswerText o (questions.Groups side class) (answers.Groups groups) text = text ≡ group_lines (groups_in groups.items)
IsAnswerText o (questions.Why asked class shown) (answers.Why explanation) text = IsShown o shown explanation text
IsAnswerText o questions.Unsatisfiable (answers.Names names) text = text ≡ name_lines [] (map (λ name. name.now) names.items)
IsAnswerText o (questions.Types individual) (answers.Names names) text = text ≡ name_lines [] (map (λ name. name.now) names.items)
IsAnswerText o (questions.DirectTypes individual) (answers.Groups groups) text = text ≡ group_lines (groups_in groups.items)
IsAnswerText o (questions.Lacks asked class) (answers.Lacks lacking) text = text ≡ lacking_text o lacking
IsAnswerText o question answer text = ⊥

-- whether the text of an answer is a graph
abbrev pub is_graph : Question → Bool
is_graph (questions.Why asked class shown) = shown.graph
is_graph question = false

-- that text, with its names spelled so, by the prefixes
abbrev pub IsSpelledAnswer : Prefixes → Spelling → Ontology → Question → Answer → (text : List ℕ) → Type 0
IsSpelledAnswer prefixes spelling o question answer text = (full : List ℕ) × IsAnswerText o question answer full × IsSpelled spelling prefixes (is_graph question) full text

-- what was read has the names of the question, and the text is that of an answer that says what is the case in every finite
-- interpretation of the axioms, with names spelled so
pub record AnswersIn (d : reading.Opened) (question : Question) (spelling : Spelling) (text : List ℕ) : Type 0 where
  pub known : AreKnown d.ontology question
  pub answer : Answer
  pub exact : IsAnswerTo d.ontology question answer
  pub written : IsSpelledAnswer d.prefixes spelling d.ontology question answer text

-- the document reads as an ontology whose closure has at most so many facts, and by which the text answers the question
abbrev pub AnswersQuestion : Limits → (document : Option (List ℕ)) → Question → Spelling → (text : List ℕ) → Type 0
AnswersQuestion limits document question spelling text = (d : reading.Opened) × IsRunAs limits document d × AnswersIn d question spelling text

-- ---- the names of a class expression

-- the lines of the classes above, of those below, and of the individuals
abbrev pub query_lines : NamesFound → List ℕ
query_lines found =
    name_lines (codes "super ") found.superclasses ++ name_lines (codes "sub ") found.subclasses ++ name_lines (codes "instance ") found.instances

-- document and text have together at most so many bytes; the text is a class expression in the document's version and over its names,
-- with which the closure has at most so many facts; and the lines are of exactly the names that the expression has in every finite
-- interpretation of the axioms, each once and in byte order
pub record ListsAnswers (d : reading.Opened) (most_bytes max_facts : ℕ) (text out : List ℕ) : Type 0 where
  pub found : NamesFound
  pub answer : IsAnswer d most_bytes max_facts text found
  pub lines : out ≡ query_lines found

-- the same lines, with names spelled so
abbrev pub ListsSpelled : reading.Opened → (most_bytes max_facts : ℕ) → (text : List ℕ) → Spelling → (out : List ℕ) → Type 0
ListsSpelled d most_bytes max_facts text spelling out = (full : List ℕ) × ListsAnswers d most_bytes max_facts text full × IsSpelled spelling d.prefixes false full out

-- the document reads as an ontology whose closure has at most so many facts, and the lines answer what the text asks
abbrev pub AnswersQuery : Limits → (document : Option (List ℕ)) → (text : List ℕ) → Spelling → (out : List ℕ) → Type 0
AnswersQuery limits document text spelling out =
    (d : reading.Opened) × IsRunAs limits document d × ListsSpelled d limits.max_bytes limits.max_facts text spelling out

-- the document reads as an ontology whose closure has at most so many facts, and what the fault says of the text
abbrev pub LeavesUnanswered : Limits → (document : Option (List ℕ)) → (text : List ℕ) → QueryFault → Type 0
LeavesUnanswered limits document text fault =
    (d : reading.Opened) × IsRunAs limits document d × IsUnanswerable d limits.max_bytes limits.max_facts text fault

-- ---- faults

-- the document reads as an ontology whose closure has at most so many facts, and the name is the first of these, each of its kind,
-- that the ontology lacks
abbrev pub LacksName : Limits → (document : Option (List ℕ)) → (names : List (Kind × Iri)) → Iri → Type 0
LacksName limits document names name = (o : Ontology) × IsReadAs limits.version limits.max_bytes document o × HasNoMoreFactsThan o [] limits.max_facts × IsFirstUnknown o names name

-- the document reads as an ontology whose closure has more facts
abbrev pub IsBeyondLimit : Limits → (document : Option (List ℕ)) → Type 0
IsBeyondLimit limits document = (o : Ontology) × IsReadAs limits.version limits.max_bytes document o × HasMoreFactsThan o [] limits.max_facts

-- what a fault says of the document and of the names in the question: it is refused, or it is read and this came behind that
abbrev pub IsFaultOf : Limits → (document : Option (List ℕ)) → (names : List (Kind × Iri)) → QuestionFault → Type 0
IsFaultOf limits document names (Document fault) = RefusesKnown limits.version document limits.max_bytes fault
IsFaultOf limits document names Limit = IsBeyondLimit limits document
IsFaultOf limits document names (UnknownName name) = LacksName limits document names name.now
IsFaultOf limits document names Memory = (o : Ontology) × IsReadAs limits.version limits.max_bytes document o
IsFaultOf limits document names (Expression fault) = ⊥

-- what a fault says of the document and of the text that asks: the document is refused, or it is read and this came behind that
abbrev pub IsQueryFaultOf : Limits → (document : Option (List ℕ)) → (text : List ℕ) → QuestionFault → Type 0
IsQueryFaultOf limits document text (Document fault) = RefusesKnown limits.version document limits.max_bytes fault
IsQueryFaultOf limits document text Limit = IsBeyondLimit limits document ⊎ LeavesUnanswered limits document text querying.Limit
IsQueryFaultOf limits document text (Expression fault) = LeavesUnanswered limits document text (querying.Expression fault)
IsQueryFaultOf limits document text Memory = (o : Ontology) × IsReadAs limits.version limits.max_bytes document o
IsQueryFaultOf limits document text (UnknownName name) = ⊥

-- what was read of the document: all of it, where it was read as an ontology; otherwise some of it; and the fault of a source
-- is told only where it failed
abbrev pub IsRead : {X : Type 0} → Result X QuestionFault → (old new : SourceState) → Type 0
IsRead (Ok x) old new = IsReadToItsEnd old new
IsRead (Err (Document fault)) old new = IsReadUntil fault old new
IsRead (Err Limit) old new = IsReadToItsEnd old new
IsRead (Err (UnknownName name)) old new = IsReadToItsEnd old new
IsRead (Err (Expression fault)) old new = IsReadToItsEnd old new
IsRead (Err Memory) old new = IsReadToItsEnd old new
