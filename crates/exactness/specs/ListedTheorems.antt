-- What is proved of the interpretation that the closure lists.
use Rattle.std.specs.Prelude.{◌≡◌, ℕ, ◌<◌, ◌↔◌, Bool, List, length, true}
use Rattle.axioms.specs.Ontology.{Ontology, nothing, expression, individual_name, axiom_trees}
use Rattle.axioms.specs.WellFormedness.{IsOntology}
use Rattle.interpretation_spec.specs.Interpretation.{IsBelow, Interpretation, IsModel, IsMember}
use Rattle.interpretation_spec.specs.Agreement.{AgreeOn}
use Rattle.normal_forms.specs.Forms.{Whole, Property}
use Rattle.closure.specs.Closure.{AreAsked, Context, Expression, Individual, In, AreSame, IsRoot, IsFact}
use Rattle.exactness.specs.ListedInterpretation.{HasEdge, AreSatisfiableContexts, IsListedInterpretation, IsConsistent, AgreesWithClosure}

-- where the closure is without contradiction, the listed interpretation satisfies each axiom as it was written
abbrev pub ListedIsModel : Type 0
ListedIsModel =
    (o : Ontology) (asked : List ℕ) (elements : List Context) (i : Interpretation) →
    IsOntology o → AreAsked o asked → IsListedInterpretation o asked elements i → IsConsistent o asked →
    IsModel i (axiom_trees o)

-- the listed interpretation agrees with the closure
abbrev pub ListedAgrees : Type 0
ListedAgrees =
    (o : Ontology) (asked : List ℕ) (elements : List Context) (i : Interpretation) →
    IsOntology o → AreAsked o asked → IsListedInterpretation o asked elements i → AgreesWithClosure o asked elements i

-- where the closure is without contradiction, two individuals have one element in it exactly where they are of one group
abbrev pub GroupsAreElements : Type 0
GroupsAreElements =
    (o : Ontology) (asked : List ℕ) (elements : List Context) (i : Interpretation) →
    IsOntology o → AreAsked o asked → IsListedInterpretation o asked elements i → IsConsistent o asked →
    (a b : ℕ) → a < length o.names.individuals → b < length o.names.individuals →
    (i.individual (individual_name o a) ≡ i.individual (individual_name o b)) ↔ AreSame o asked a b

-- what follows from the axioms is a fact of the closure, of contexts without Nothing
abbrev pub ClosureIsComplete : Type 0
ClosureIsComplete =
    (o : Ontology) (asked : List ℕ) (elements : List Context) (i : Interpretation) →
    IsOntology o → AreAsked o asked → IsListedInterpretation o asked elements i → IsConsistent o asked →
    (e f : ℕ) → IsRoot o asked (Expression e) → IsRoot o asked (Expression f) → (IsFact o asked (In (Whole nothing) (Expression e)) → ⊥) →
    IsBelow (axiom_trees o) (expression o e) (expression o f) → IsFact o asked (In (Whole f) (Expression e))

-- where the closure is without contradiction, what follows of individuals in named classes and asked expressions is a fact of it
abbrev pub TypesAreComplete : Type 0
TypesAreComplete =
    (o : Ontology) (asked : List ℕ) (elements : List Context) (i : Interpretation) →
    IsOntology o → AreAsked o asked → IsListedInterpretation o asked elements i → IsConsistent o asked →
    (a f : ℕ) → a < length o.names.individuals → IsRoot o asked (Expression f) →
    IsMember (axiom_trees o) (individual_name o a) (expression o f) → IsFact o asked (In (Whole f) (Individual a))

-- tests that decide the facts
pub record AreTests (o : Ontology) (asked : List ℕ) (has : Context → ℕ → Bool) (edge : Context → ℕ → Context → Bool) : Type 0 where
  pub classes : (x : Context) (e : ℕ) → (has x e ≡ true) ↔ IsFact o asked (In (Whole e) x)
  pub edges : (x : Context) (r : ℕ) (y : Context) → (edge x r y ≡ true) ↔ HasEdge o asked x (Property r) y

-- where tests decide the facts there is a listed interpretation
abbrev pub ListedExists : Type 0
ListedExists =
    (o : Ontology) (asked : List ℕ) → IsOntology o → IsConsistent o asked →
    (elements : List Context) → AreSatisfiableContexts o asked elements →
    (has : Context → ℕ → Bool) (edge : Context → ℕ → Context → Bool) → AreTests o asked has edge →
    (i : Interpretation) × IsListedInterpretation o asked elements i

-- where the closure is without contradiction, listed interpretations have the same elements, and say the same of each name
abbrev pub ListedIsDetermined : Type 0
ListedIsDetermined =
    (o : Ontology) (asked : List ℕ) (xs ys : List Context) (i j : Interpretation) → IsOntology o → IsConsistent o asked →
    IsListedInterpretation o asked xs i → IsListedInterpretation o asked ys j → (xs ≡ ys) × AgreeOn o i j
