-- The conditions that axioms state for a class, and what of them something has.
use Rattle.std.specs.Prelude.{◌≡◌, ◌↔◌, ℕ, List, [], ◌∷◌, true, if◌then◌else◌, ◌==◌, not, map, slice_get, Option, Some}
use Rattle.std.specs.List.{All, Contains, enumerate_from, filter, flat_map, list_any}
use Rattle.answers.specs.Explanations.{FollowsFor, IsClassNamed}
use Rattle.answers.specs.declared.condition.Condition.{Condition}
use Rattle.answers.specs.declared.condition.Lacking.{Lacking}
use Rattle.answers.specs.declared.condition.Lacking.TheVariants.{Nothing, Conditions}
use Rattle.answers.specs.declared.condition.Part.{Part}
use Rattle.answers.specs.declared.condition.Stated.{Stated}
use Rattle.axioms.specs.Expression.{Iri, Named}
use Rattle.axioms.specs.Ontology.{Ontology, Axiom, SubClass, EquivalentClasses, Node, And, axiom_trees, expression}
use Rattle.axioms.specs.WellFormedness.{IsOntology}
use Rattle.interpretation_spec.specs.Interpretation.{IsBelow, IsMember}
use Rattle.program.specs.declared.question.Asked.{Asked}
use Rattle.program.specs.declared.question.Asked.TheVariants.{Class, Individual}

-- ---- what axioms state

-- those of the expressions that are not the one of number e
abbrev pub others : (e : ℕ) → List ℕ → List ℕ
others e ds = filter (λ d. not (d == e)) ds

-- what lies below the expression of number e because the axiom says so, but for that itself: what a SubClassOf puts below it, and the
-- other operands of an EquivalentClasses (OWL 2 Structural Specification, sections 9.1.1 and 9.1.2)
abbrev pub conditions_in : (e : ℕ) → Axiom → List ℕ
conditions_in e (SubClass c d) = if d == e then others e (c ∷ []) else []
conditions_in e (EquivalentClasses ds) = if list_any (λ d. d == e) ds then others e ds else []
conditions_in e axiom' = []

-- these, each with the number of the axiom
abbrev pub numbered_conditions : (e : ℕ) → ℕ × Axiom → List (ℕ × ℕ)
numbered_conditions e (number, axiom') = map (λ f. (number, f)) (conditions_in e axiom')

-- those of all axioms, in their order; the first has the number 1
abbrev pub conditions_of : Ontology → (e : ℕ) → List (ℕ × ℕ)
conditions_of o e = flat_map (numbered_conditions e) (enumerate_from 1 o.axioms)

-- the operands of an intersection, or the one expression
abbrev pub parts_by : Option Node → (f : ℕ) → List ℕ
parts_by (Some (And ds)) f = ds
parts_by _ f = f ∷ []

-- what has to hold for the expression of number f, part by part
abbrev pub parts_of : Ontology → (f : ℕ) → List ℕ
parts_of o f = parts_by (slice_get o.nodes f) f

-- ---- what something has of them

-- in every finite interpretation of the axioms what is asked of is in the expression of that number (OWL 2 Direct Semantics, section 2.5)
abbrev pub IsInExpression : Ontology → Asked → ℕ → Type 0
IsInExpression o (Class c) f = IsBelow (axiom_trees o) (Named c.now) (expression o f)
IsInExpression o (Individual a) f = IsMember (axiom_trees o) a.now (expression o f)

-- the axiom of a condition, and the expressions of its parts
abbrev pub numbers_of : Condition → ℕ × List ℕ
numbers_of condition = (condition.axiom, map (λ part. part.expression.0) condition.parts.items)

-- the part is had exactly where that holds of its expression
abbrev pub IsRightOf : (Has : ℕ → Type 0) → Part → Type 0
IsRightOf Has part = (part.has ≡ true) ↔ Has part.expression.0

-- these are the conditions that axioms state for the expression of number e, in the order of the axioms and each with all its parts; and
-- exactly those parts are had of which that holds
pub record AreConditions (o : Ontology) (e : ℕ) (Has : ℕ → Type 0) (found : List Condition) : Type 0 where
  pub stated : map numbers_of found ≡ map (λ (number, f). (number, parts_of o f)) (conditions_of o e)
  pub right : All (λ condition. All (IsRightOf Has) condition.parts.items) found

-- nothing is lacked exactly where what is asked of is in the class; else it has of the conditions for the class what is told
abbrev pub IsLacking : Ontology → Asked → (class : Iri) → Lacking → Type 0
IsLacking o asked class Nothing = FollowsFor o asked class
IsLacking o asked class (Conditions found) =
    (¬ FollowsFor o asked class) × ((e : ℕ) × IsClassNamed o class e × AreConditions o e (IsInExpression o asked) found.items)

-- ---- what conditions are for

-- what has each part of a condition that an axiom states for a class is in the class
abbrev pub ConditionsGiveTheClass : Type 0
ConditionsGiveTheClass =
    (o : Ontology) → IsOntology o → (asked : Asked) (class : Iri) (e : ℕ) → IsClassNamed o class e →
    (number f : ℕ) → Contains (conditions_of o e) (number, f) → All (IsInExpression o asked) (parts_of o f) → FollowsFor o asked class

-- ---- by number

-- a condition as it was found
abbrev pub stated_pair : Stated → ℕ × ℕ
stated_pair stated = (stated.axiom, stated.condition.0)
