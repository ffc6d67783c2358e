-- The code's premises and axioms as those of the rules.
use Rattle.std.specs.Prelude.{◌≡◌, ◌∷◌, ℕ, List, map, slice_get, Some}
use Rattle.std.specs.declared.option.Option.{Option}
use Rattle.axioms.specs.declared.ids.ExprId.{ExprId}
use Rattle.axioms.specs.declared.ids.PropId.{PropId}
use Rattle.axioms.specs.Ontology as numbered
use Rattle.certificate.specs.declared.line.Conclusion as code
use Rattle.certificate.specs.declared.line.Subject as code_subject
use Rattle.certificate.specs.Certificate.{Subject, Expression, Individual, Conclusion, Sub, Edge, Same}
use Rattle.certificate.specs.declared.line.Rule.{Rule}
use Rattle.certificate.specs.View.{conclusion_of, subject_of}
use Rattle.cert_check.specs.declared.short_conclusion.ShortConclusion.{ShortConclusion}
use Rattle.cert_check.specs.declared.short_conclusion.ShortConclusion.TheVariants as short
use Rattle.cert_check.specs.Lines.{Follows}

-- the conclusion follows by the rule from the premises, in their order, and the axiom, if there is one
abbrev pub FollowsFrom : numbered.Ontology → Rule → List code.Conclusion → Option numbered.Axiom → code.Conclusion → Type 0
FollowsFrom o rule premises axiom' conclusion = Follows o rule (map conclusion_of premises) axiom' (conclusion_of conclusion)

-- the number stands at another place
abbrev pub StandsBeside : List ℕ → ℕ → ℕ → Type 0
StandsBeside ns place n = (k : ℕ) × (place ≡ k → ⊥) × (slice_get ns k ≡ Some n)

-- the first premise says that the subject lies in the expression
abbrev pub IsFirstIn : List code.Conclusion → code_subject.Subject → ExprId → Type 0
IsFirstIn premises subject expression =
    (others : List Conclusion) × (map conclusion_of premises ≡ Sub (subject_of subject) expression.0 ∷ others)

-- the first premise is an edge from the subject by the property
abbrev pub IsFirstEdge : List code.Conclusion → code_subject.Subject → PropId → Type 0
IsFirstEdge premises source property =
    (end : Subject) × (others : List Conclusion) × (map conclusion_of premises ≡ Edge (subject_of source) property.0 end ∷ others)

-- what the code keeps of a conclusion
abbrev pub said_of : ShortConclusion → Conclusion
said_of (short.Expr x c) = Sub (Expression x.0) c.0
said_of (short.Individual a c) = Sub (Individual a.0) c.0
said_of (short.ExprExpr x r y) = Edge (Expression x.0) r.0 (Expression y.0)
said_of (short.ExprIndividual x r b) = Edge (Expression x.0) r.0 (Individual b.0)
said_of (short.IndividualExpr a r y) = Edge (Individual a.0) r.0 (Expression y.0)
said_of (short.IndividualIndividual a r b) = Edge (Individual a.0) r.0 (Individual b.0)
said_of (short.Same a b) = Same a.0 b.0
