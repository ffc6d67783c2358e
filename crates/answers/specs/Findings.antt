-- What is found by numbers.
use Rattle.std.specs.Prelude.{◌≡◌, ◌⊎◌, ℕ, List, [], ◌∷◌, slice_get, Some, None}
use Rattle.axioms.specs.Expression.{Iri}
use Rattle.axioms.specs.Ontology.{Ontology, axiom_trees, nothing}
use Rattle.certificate.specs.Certificate.{Line, Subject, Sub}
use Rattle.certificate.specs.declared.line.Rule.TheVariants.{K3}
use Rattle.closure.specs.Closure.{Context, In, IsFact}
use Rattle.exactness.specs.ListedInterpretation.{IsConsistent, IsListedInterpretation, AgreesWithClosure}
use Rattle.generated_part.specs.GeneratedPart.{IsGenerated}
use Rattle.interpretation_spec.specs.NamedInterpretation.{interpretation_of}
use Rattle.interpretation_spec.specs.Interpretation.{Interpretation, IsModel}
use Rattle.interpretation_spec.specs.NumberedInterpretation.{NumberedInterpretation, IsMadeFor}
use Rattle.normal_forms.specs.Forms.{Whole}
use Rattle.answers.specs.Conditions.{IsLacking}
use Rattle.answers.specs.Explanations.{Explains, IsAbout, IsClassNamed}
use Rattle.countermodel.specs.Elements.{leader}
use Rattle.program.specs.declared.question.Asked.{Asked}
use Rattle.answers.specs.declared.condition.Lacking.{Lacking}
use Rattle.answers.specs.declared.explanation.Explanation.{Explanation}

-- the expression of that number is a fact of the context
abbrev pub IsFactOf : Ontology → List ℕ → Context → ℕ → Type 0
IsFactOf o asked x f = IsFact o asked (In (Whole f) x)

-- the closure is contradictory, or owl:Nothing or the class is a fact of the context
abbrev pub FollowsByFacts : Ontology → List ℕ → Context → ℕ → Type 0
FollowsByFacts o asked x class = (IsConsistent o asked → ⊥) ⊎ (IsFactOf o asked x nothing ⊎ IsFactOf o asked x class)

-- neither the class nor owl:Nothing is a fact of the context
abbrev pub IsRefutable : Ontology → List ℕ → Context → ℕ → Type 0
IsRefutable o asked x class = (IsFact o asked (In (Whole nothing) x) → ⊥) × (IsFact o asked (In (Whole class) x) → ⊥)

-- what lies in owl:Nothing lies in the class, by the line of that number
abbrev pub line_from_nothing : Subject → ℕ → ℕ → Line
line_from_nothing subject class number = record { conclusion = Sub subject class; rule = K3; axiom' = None; premises = number ∷ [] }

-- the part of the interpretation that the closure lists that is reached from the context's own element, which has that number in it
pub record IsPartFor (o : Ontology) (asked : List ℕ) (x : Context) (part : NumberedInterpretation) (new : ℕ) : Type 0 where
  pub made : IsMadeFor o.names part
  pub elements : List Context
  pub whole : Interpretation
  pub listed : IsListedInterpretation o asked elements whole
  pub agrees : AgreesWithClosure o asked elements whole
  pub model : IsModel whole (axiom_trees o)
  pub from : ℕ
  pub own : slice_get elements from ≡ Some (leader o x)
  pub generated : IsGenerated o whole from (interpretation_of o.names part) new

-- it explains, whatever the names are
abbrev pub ExplainsOf : Ontology → Context → ℕ → Explanation → Type 0
ExplainsOf o x class answer = (asked : Asked) (name : Iri) → IsAbout o asked x → IsClassNamed o name class → Explains o asked name answer

-- that is what is lacked, whatever the names are
abbrev pub IsLackingOf : Ontology → Context → ℕ → Lacking → Type 0
IsLackingOf o x class lacking = (asked : Asked) (name : Iri) → IsAbout o asked x → IsClassNamed o name class → IsLacking o asked name lacking
