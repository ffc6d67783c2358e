-- The interpretation that the closure lists.
use Rattle.std.specs.Prelude.{◌≡◌, ℕ, ◌<◌, ◌↔◌, List, length, slice_get, Some, true}
use Rattle.std.specs.List.{AllPairs, Contains}
use Rattle.axioms.specs.Expression.{Iri, Named}
use Rattle.axioms.specs.Ontology.{Ontology, IsClassAt, thing, nothing, name_at, expression, property_name, individual_name}
use Rattle.interpretation_spec.specs.Interpretation.{Interpretation, IsIn}
use Rattle.normal_forms.specs.Forms.{Whole, Property2, Property}
use Rattle.normal_forms.specs.Occurrences.{OccursRight, OccursLeft}
use Rattle.closure.specs.Closure.{Context, Expression, Individual, In, Edge, IsAtOrBelow, AreSame, IsRoot, IsContext, IsFact}
use Rattle.closure.specs.Groups.{IsLeast}

-- a context that does not carry Nothing
pub record IsSatisfiable (o : Ontology) (asked : List ℕ) (x : Context) : Type 0 where
  pub context : IsContext o asked x
  pub without_nothing : IsFact o asked (In (Whole nothing) x) → ⊥

-- an edge from x to y whose property is r or below it
pub record HasEdge (o : Ontology) (asked : List ℕ) (x : Context) (r : Property2) (y : Context) : Type 0 where
  pub property : Property2
  pub edge : IsFact o asked (Edge x property y)
  pub below : IsAtOrBelow o asked property r

-- the order of the elements: expressions by number, and then individuals
abbrev pub IsBefore : Context → Context → Type 0
IsBefore (Expression e) (Expression f) = e < f
IsBefore (Expression e) (Individual a) = Unit {0}
IsBefore (Individual a) (Expression e) = ⊥
IsBefore (Individual a) (Individual b) = a < b

-- an expression, or the least individual of its group: of a group one context alone has an element
abbrev pub Leads : Ontology → List ℕ → Context → Type 0
Leads o asked (Expression e) = Unit {0}
Leads o asked (Individual a) = IsLeast o asked a

-- the satisfiable contexts that lead, each once, in their order
pub record AreSatisfiableContexts (o : Ontology) (asked : List ℕ) (elements : List Context) : Type 0 where
  pub ascend : AllPairs IsBefore elements
  pub satisfiable : (m : ℕ) (x : Context) → slice_get elements m ≡ Some x → IsSatisfiable o asked x
  pub leads : (m : ℕ) (x : Context) → slice_get elements m ≡ Some x → Leads o asked x
  pub listed : (x : Context) → IsSatisfiable o asked x → Leads o asked x → (m : ℕ) × (slice_get elements m ≡ Some x)

-- what holds of an element is what the facts say of its context; those of one group have one element
pub record IsListedInterpretation (o : Ontology) (asked : List ℕ) (elements : List Context) (i : Interpretation) : Type 0 where
  pub size : i.size ≡ length elements
  pub contexts : AreSatisfiableContexts o asked elements
  pub classes : (c e m : ℕ) (x : Context) → IsClassAt o c e → slice_get elements m ≡ Some x → (i.class (name_at o.names.classes c) m ≡ true) ↔ IsFact o asked (In (Whole e) x)
  pub pairs : (r m n : ℕ) (x y : Context) → r < length o.names.properties → slice_get elements m ≡ Some x → slice_get elements n ≡ Some y → (i.property (property_name o r) m n ≡ true) ↔ HasEdge o asked x (Property r) y
  pub individuals : (a b m : ℕ) → a < length o.names.individuals → AreSame o asked a b → slice_get elements m ≡ Some (Individual b) → i.individual (individual_name o a) ≡ m
  -- names that o does not have stand for elements too
  pub within : (a : Iri) → i.individual a < i.size

-- the closure puts neither all things nor an individual in Nothing
pub record IsConsistent (o : Ontology) (asked : List ℕ) : Type 0 where
  pub things : IsFact o asked (In (Whole nothing) (Expression thing)) → ⊥
  pub individuals : (a : ℕ) → a < length o.names.individuals → IsFact o asked (In (Whole nothing) (Individual a)) → ⊥

-- each context without Nothing that leads has an element, which is in exactly the named classes and asked expressions that are facts of the context;
-- a right occurrence that is a fact of the context holds the element, and a left occurrence that holds it is a fact
pub record AgreesWithClosure (o : Ontology) (asked : List ℕ) (elements : List Context) (i : Interpretation) : Type 0 where
  pub element : (x : Context) → IsSatisfiable o asked x → Leads o asked x → (m : ℕ) × (m < i.size) × (slice_get elements m ≡ Some x)
  pub named : (c e m : ℕ) (x : Context) → IsClassAt o c e → slice_get elements m ≡ Some x → IsIn i (Named (name_at o.names.classes c)) m ↔ IsFact o asked (In (Whole e) x)
  pub claimed : (e m : ℕ) → IsRoot o asked (Expression e) → slice_get elements m ≡ Some (Expression e) → IsIn i (expression o e) m
  pub asked_about : (e m : ℕ) (x : Context) → Contains asked e → slice_get elements m ≡ Some x → IsIn i (expression o e) m ↔ IsFact o asked (In (Whole e) x)
  pub right : (e m : ℕ) (x : Context) → OccursRight o asked e → slice_get elements m ≡ Some x → IsFact o asked (In (Whole e) x) → IsIn i (expression o e) m
  pub left : (e m : ℕ) (x : Context) → OccursLeft o asked e → slice_get elements m ≡ Some x → IsIn i (expression o e) m → IsFact o asked (In (Whole e) x)
