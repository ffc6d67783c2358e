-- What explanations can be written, and what a session does not answer.
use Rattle.std.specs.Prelude.{ℕ, ◌<◌, List, length}
use Rattle.std.specs.List.{All}
use Rattle.axioms.specs.Expression.{Iri}
use Rattle.axioms.specs.Ontology.{Ontology}
use Rattle.axioms.specs.declared.terms.Kind.{Kind}
use Rattle.certificate.specs.Writability.{IsLineOf}
use Rattle.certificate.specs.View.{lines_of}
use Rattle.interpretation_spec.specs.NumberedInterpretation.{IsMadeFor}
use Rattle.session.specs.declared.question_fault.QuestionFault.{QuestionFault}
use Rattle.session.specs.declared.question_fault.QuestionFault.TheVariants.{Document, Limit, UnknownName, Expression, Memory}
use Rattle.answers.specs.declared.condition.Lacking.{Lacking}
use Rattle.answers.specs.declared.condition.Lacking.TheVariants.{Nothing, Conditions}
use Rattle.answers.specs.declared.explanation.Explanation.{Explanation}
use Rattle.answers.specs.declared.explanation.Explanation.TheVariants.{Yes, No, Contradictory}
use Rattle.answers.specs.Questions.{IsFirstUnknown}
use Rattle.session.specs.Queries.{IsUnanswerable}
use Rattle.session.specs.Sessions.{Opened, as_read}
use Rattle.session.specs.declared.query_fault.QueryFault.TheVariants as querying

-- its lines speak of what the ontology has, or its interpretation was made for the names of the ontology
abbrev pub HasText : Ontology → Explanation → Type 0
HasText o (Yes lines) = All (IsLineOf o) (lines_of lines.items)
HasText o (No i x) = IsMadeFor o.names i
HasText o (Contradictory lines) = All (IsLineOf o) (lines_of lines.items)

-- the parts of its conditions are expressions of the ontology
abbrev pub IsWithin : Ontology → Lacking → Type 0
IsWithin o Nothing = Unit {0}
IsWithin o (Conditions found) = All (λ condition. All (λ part. part.expression.0 < length o.nodes) condition.parts.items) found.items

-- what a fault says of an ontology whose closure is known, and of the names in the question: a name is told, or memory was refused
abbrev pub IsUnanswered : Ontology → (names : List (Kind × Iri)) → QuestionFault → Type 0
IsUnanswered o names (UnknownName name) = IsFirstUnknown o names name.now
IsUnanswered o names Memory = Unit {0}
IsUnanswered o names (Document fault) = ⊥
IsUnanswered o names Limit = ⊥
IsUnanswered o names (Expression fault) = ⊥

-- what a fault says of a session where nothing is pending, and of a text that asks: it is not answered, or memory was refused
abbrev pub IsUnansweredQuery : Opened → (text : List ℕ) → (max_facts : ℕ) → QuestionFault → Type 0
IsUnansweredQuery s text max_facts (Expression fault) = IsUnanswerable (as_read s) s.most_bytes max_facts text (querying.Expression fault)
IsUnansweredQuery s text max_facts Limit = IsUnanswerable (as_read s) s.most_bytes max_facts text querying.Limit
IsUnansweredQuery s text max_facts Memory = Unit {0}
IsUnansweredQuery s text max_facts (Document fault) = ⊥
IsUnansweredQuery s text max_facts (UnknownName name) = ⊥
