-- What an explanation shows of a question: that it follows from the axioms that the subject is in the class, that it does not, or that
-- there is no finite interpretation of the axioms at all.
use Rattle.std.specs.Prelude.{◌≡◌, ℕ, ◌<◌, List, [], slice_get, Some}
use Rattle.std.specs.List.{Contains}
use Rattle.answers.specs.Entailment.{LiesBelow, BelongsTo}
use Rattle.axioms.specs.Expression.{Iri, Named}
use Rattle.axioms.specs.Ontology.{Ontology, IsClassAt, nothing, axiom_trees}
use Rattle.cert_check.specs.Acceptance.{IsTop}
use Rattle.certificate.specs.Certificate.{Line, Subject, Sub}
use Rattle.certificate.specs.View.{lines_of}
use Rattle.closure.specs.Closure.{Context, Expression}
use Rattle.closure.specs.Closure as closure
use Rattle.countermodel.specs.Elements.{leader}
use Rattle.exactness.specs.ListedInterpretation.{IsListedInterpretation}
use Rattle.exactness.specs.Derivability.{subject_of}
use Rattle.explain.specs.Needs.{Derives}
use Rattle.generated_part.specs.GeneratedPart.{IsGenerated}
use Rattle.interpretation_spec.specs.NamedInterpretation.{interpretation_of}
use Rattle.interpretation_spec.specs.Interpretation.{Interpretation, IsContradictory, IsIn, IsModel}
use Rattle.interpretation_spec.specs.NumberedInterpretation.{NumberedInterpretation, IsMadeFor}
use Rattle.program.specs.declared.question.Asked.{Asked}
use Rattle.program.specs.declared.question.Asked.TheVariants.{Class, Individual}
use Rattle.answers.specs.declared.explanation.Explanation.{Explanation}
use Rattle.answers.specs.declared.explanation.Explanation.TheVariants.{Yes, No, Contradictory}

-- ---- what is asked

-- the ontology has the name, in its kind
abbrev pub IsKnown : Ontology → Asked → Type 0
IsKnown o (Class c) = Contains o.names.classes c.now
IsKnown o (Individual a) = Contains o.names.individuals a.now

-- in every finite interpretation of the axioms the subject is in the class
abbrev pub FollowsFor : Ontology → Asked → Iri → Type 0
FollowsFor o (Class c) class = LiesBelow o c.now class
FollowsFor o (Individual a) class = BelongsTo o a.now class

-- the element is of the subject
abbrev pub IsOf : Interpretation → Asked → ℕ → Type 0
IsOf i (Class c) x = IsIn i (Named c.now) x
IsOf i (Individual a) x = i.individual a.now ≡ x

-- the expression of that number is the class of that name
abbrev pub IsClassNamed : Ontology → Iri → ℕ → Type 0
IsClassNamed o name e = (c : ℕ) × IsClassAt o c e × (slice_get o.names.classes c ≡ Some name)

-- the subject by its number
abbrev pub IsAbout : Ontology → Asked → Context → Type 0
IsAbout o (Class c) (Expression e) = IsClassNamed o c.now e
IsAbout o (Class c) (closure.Individual a) = ⊥
IsAbout o (Individual a) (Expression e) = ⊥
IsAbout o (Individual a) (closure.Individual n) = slice_get o.names.individuals n ≡ Some a.now

-- ---- what is shown

-- it follows, though there is an interpretation of the axioms: the lines derive that the subject is in the class
pub record ShowsThatItFollows (o : Ontology) (asked : Asked) (class : Iri) (lines : List Line) : Type 0 where
  pub consistent : IsContradictory (axiom_trees o) → ⊥
  pub follows : FollowsFor o asked class
  pub subject : Context
  pub about : IsAbout o asked subject
  pub expression : ℕ
  pub named : IsClassNamed o class expression
  pub derives : Derives o (Sub (subject_of subject) expression) lines

-- it does not follow: the axioms hold in the interpretation, and the element is of the subject and outside the class
pub record Refutes (o : Ontology) (asked : Asked) (class : Iri) (i : NumberedInterpretation) (x : ℕ) : Type 0 where
  pub made : IsMadeFor o.names i
  pub model : IsModel (interpretation_of o.names i) (axiom_trees o)
  pub within : x < i.size
  pub inside : IsOf (interpretation_of o.names i) asked x
  pub outside : IsIn (interpretation_of o.names i) (Named class) x → ⊥
  -- it is the part that the subject's own element and the individuals reach in the interpretation that the closure lists
  pub elements : List Context
  pub whole : Interpretation
  pub listed : IsListedInterpretation o [] elements whole
  pub subject : Context
  pub about : IsAbout o asked subject
  pub from : ℕ
  pub own : slice_get elements from ≡ Some (leader o subject)
  pub generated : IsGenerated o whole from (interpretation_of o.names i) x

-- there is no interpretation of the axioms: the lines derive that all things or an individual are in owl:Nothing
pub record ShowsContradiction (o : Ontology) (lines : List Line) : Type 0 where
  pub contradictory : IsContradictory (axiom_trees o)
  pub subject : Subject
  pub top : IsTop subject
  pub derives : Derives o (Sub subject nothing) lines

-- the explanation shows what is the case; so it is the one of the three that is
abbrev pub Explains : Ontology → Asked → Iri → Explanation → Type 0
Explains o asked class (Yes lines) = ShowsThatItFollows o asked class (lines_of lines.items)
Explains o asked class (No i x) = Refutes o asked class i x
Explains o asked class (Contradictory lines) = ShowsContradiction o (lines_of lines.items)
