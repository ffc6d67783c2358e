-- What follows from the axioms of an ontology, by names: what holds in every finite interpretation in which they hold
-- (OWL 2 Direct Semantics, section 2.5).
use Rattle.std.specs.Prelude.{◌≡◌, ℕ, ◌<◌, ◌↔◌, ◌⊎◌, length}
use Rattle.axioms.specs.Expression.{Iri, Named, owl_nothing}
use Rattle.axioms.specs.Ontology.{Ontology, nothing, expression, individual_name, axiom_trees}
use Rattle.axioms.specs.WellFormedness.{IsOntology}
use Rattle.closure.specs.Closure.{Expression, Individual, In, IsRoot, IsFact}
use Rattle.exactness.specs.ListedInterpretation.{IsConsistent}
use Rattle.engine.specs.Saturations.{Saturated, IsSaturated}
use Rattle.interpretation_spec.specs.Interpretation.{IsBelow, IsMember, IsContradictory}
use Rattle.normal_forms.specs.Forms.{Whole}
use Rattle.normal_forms.specs.Occurrences.{OccursLeft}

-- the class lies below the other
abbrev pub LiesBelow : Ontology → Iri → Iri → Type 0
LiesBelow o c d = IsBelow (axiom_trees o) (Named c) (Named d)

-- the individual is a member of the class
abbrev pub BelongsTo : Ontology → Iri → Iri → Type 0
BelongsTo o a d = IsMember (axiom_trees o) a (Named d)

-- the class is another one than owl:Nothing, and has no element
abbrev pub IsUnsatisfiable : Ontology → Iri → Type 0
IsUnsatisfiable o c = LiesBelow o c owl_nothing × (c ≡ owl_nothing → ⊥)

-- ---- what a saturation has is what follows

-- of named classes and expressions that are asked about, one lies below another where the closure is contradictory, the one is without
-- elements, or the other is a fact of it
abbrev pub ClassesFollow : Type 0
ClassesFollow =
    (o : Ontology) (s : Saturated) → IsOntology o → IsSaturated o s →
    (e f : ℕ) → IsRoot o s.normal.asked (Expression e) → IsRoot o s.normal.asked (Expression f) →
    IsBelow (axiom_trees o) (expression o e) (expression o f)
    ↔ ((IsConsistent o s.normal.asked → ⊥) ⊎ (IsFact o s.normal.asked (In (Whole nothing) (Expression e)) ⊎ IsFact o s.normal.asked (In (Whole f) (Expression e))))

-- an individual is a member of a named class or an expression that is asked about where the closure is contradictory, or that is a fact
-- of the individual
abbrev pub TypesFollow : Type 0
TypesFollow =
    (o : Ontology) (s : Saturated) → IsOntology o → IsSaturated o s →
    (a f : ℕ) → a < length o.names.individuals → IsRoot o s.normal.asked (Expression f) →
    IsMember (axiom_trees o) (individual_name o a) (expression o f)
    ↔ ((IsConsistent o s.normal.asked → ⊥) ⊎ IsFact o s.normal.asked (In (Whole f) (Individual a)))

-- and so it is with what occurs on a left side of the axioms: of named classes and expressions that are asked about
abbrev pub LeftSidesFollowOfClasses : Type 0
LeftSidesFollowOfClasses =
    (o : Ontology) (s : Saturated) → IsOntology o → IsSaturated o s →
    (e f : ℕ) → IsRoot o s.normal.asked (Expression e) → OccursLeft o s.normal.asked f →
    IsBelow (axiom_trees o) (expression o e) (expression o f)
    ↔ ((IsConsistent o s.normal.asked → ⊥) ⊎ (IsFact o s.normal.asked (In (Whole nothing) (Expression e)) ⊎ IsFact o s.normal.asked (In (Whole f) (Expression e))))

-- and of individuals
abbrev pub LeftSidesFollowOfIndividuals : Type 0
LeftSidesFollowOfIndividuals =
    (o : Ontology) (s : Saturated) → IsOntology o → IsSaturated o s →
    (a f : ℕ) → a < length o.names.individuals → OccursLeft o s.normal.asked f →
    IsMember (axiom_trees o) (individual_name o a) (expression o f)
    ↔ ((IsConsistent o s.normal.asked → ⊥) ⊎ IsFact o s.normal.asked (In (Whole f) (Individual a)))

-- there is no finite interpretation of the axioms exactly where the closure is contradictory
abbrev pub ContradictionIsExact : Type 0
ContradictionIsExact =
    (o : Ontology) (s : Saturated) → IsOntology o → IsSaturated o s → IsContradictory (axiom_trees o) ↔ (IsConsistent o s.normal.asked → ⊥)
