-- What the rules lead to from the axioms of an ontology, and what a fact of the closure says in lines.
use Rattle.std.specs.Prelude.{ℕ, ◌<◌, List, [], ◌∷◌, length, Option}
use Rattle.std.specs.List.{All}
use Rattle.axioms.specs.Ontology.{Ontology}
use Rattle.certificate.specs.Certificate.{Subject, Conclusion, Sub, Edge}
use Rattle.certificate.specs.declared.line.Rule.{Rule}
use Rattle.cert_check.specs.Lines.{IsWalk, Follows}
use Rattle.certificate.specs.Certificate as line
use Rattle.certificate.specs.Writability.{IsSubjectOf, IsConclusionOf, IsAxiomNumberOf}
use Rattle.cert_check.specs.Derivation.{axiom_at}
use Rattle.normal_forms.specs.Forms.{Class2, Whole, Prefix, Property2, Property, Steps}
use Rattle.closure.specs.Closure.{Context, Expression, Individual, Fact, In}
use Rattle.closure.specs.Closure as closure

-- conclusions with a finite derivation tree
mutual
  pub data IsDerivable (o : Ontology) : Conclusion → Type 0 where
    derived : {conclusion : Conclusion} (rule : Rule) (premises : List Conclusion) (axiom' : Option ℕ) → IsConclusionOf o conclusion → IsAxiomNumberOf o axiom' → Follows o rule premises (axiom_at o axiom') conclusion → AreDerivable o premises → IsDerivable o conclusion

  pub data AreDerivable (o : Ontology) : List Conclusion → Type 0 where
    none : AreDerivable o []
    more : {c : Conclusion} {cs : List Conclusion} → IsDerivable o c → AreDerivable o cs → AreDerivable o (c ∷ cs)

-- ---- what a fact says in lines, where a fresh name is what it stands for

-- a context as the subject of lines
abbrev pub subject_of : Context → Subject
subject_of (Expression e) = line.Expression e
subject_of (Individual a) = line.Individual a

-- of a prefix of an intersection each operand
abbrev pub ClassIsDerivable : Ontology → Subject → Class2 → Type 0
ClassIsDerivable o x (Whole d) = IsDerivable o (Sub x d)
ClassIsDerivable o x (Prefix ds) = All (λ d. IsDerivable o (Sub x d)) ds

-- a walk of derivable edges along the properties, in their order
abbrev pub WalkIsDerivable : Ontology → Subject → List ℕ → Subject → Type 0
WalkIsDerivable o x rs y = (premises : List Conclusion) × IsWalk x rs y premises × AreDerivable o premises

-- of a prefix of a chain, which has properties, a walk along them
abbrev pub EdgeIsDerivable : Ontology → Subject → Property2 → Subject → Type 0
EdgeIsDerivable o x (Property r) y = IsDerivable o (Edge x r y)
EdgeIsDerivable o x (Steps rs) y = (0 < length rs) × WalkIsDerivable o x rs y

abbrev pub FactIsDerivable : Ontology → Fact → Type 0
FactIsDerivable o (In a x) = IsSubjectOf o (subject_of x) × ClassIsDerivable o (subject_of x) a
FactIsDerivable o (closure.Edge x r y) =
    IsSubjectOf o (subject_of x) × IsSubjectOf o (subject_of y) × EdgeIsDerivable o (subject_of x) r (subject_of y)
