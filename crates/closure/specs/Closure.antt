-- The facts that the normal forms lead to.
use Rattle.std.specs.Prelude.{ℕ, ◌<◌, ◌⊎◌, List, [], ◌∷◌, length}
use Rattle.std.specs.List.{All, Contains}
use Rattle.axioms.specs.Ontology.{Ontology, IsClassAt, thing, nothing}
use Rattle.normal_forms.specs.Forms.{Class2, Whole, Property2, Property, N1, N2, N3, N4, N5, N6, N7, N8, N9, N10, N11, N12, IsForm}

-- what classes are in, and what edges join
pub data Context : Type 0 where
  Expression : (expression : ℕ) → Context
  Individual : (individual : ℕ) → Context

-- a class in a context, or an edge between contexts
pub data Fact : Type 0 where
  In : (class : Class2) (context : Context) → Fact
  Edge : (source : Context) (property : Property2) (target : Context) → Fact

-- r is s or below it: a path of plain property forms leads there, also of no step
pub data IsAtOrBelow (o : Ontology) (asked : List ℕ) : Property2 → Property2 → Type 0 where
  same : {r : Property2} → IsAtOrBelow o asked r r
  step : {r : Property2} (s t : ℕ) → IsAtOrBelow o asked r (Property s) → IsForm o asked (N5 s t) → IsAtOrBelow o asked r (Property t)

-- the two individuals have one element: forms N10 lead from one to the other, each in either direction
pub data AreSame (o : Ontology) (asked : List ℕ) : ℕ → ℕ → Type 0 where
  itself : {a : ℕ} → AreSame o asked a a
  forth : {a b : ℕ} (c : ℕ) → AreSame o asked a c → IsForm o asked (N10 c b) → AreSame o asked a b
  back : {a b : ℕ} (c : ℕ) → AreSame o asked a c → IsForm o asked (N10 b c) → AreSame o asked a b

-- one form N10 leads from one to the other, in either direction
abbrev pub IsLink : Ontology → List ℕ → ℕ → ℕ → Type 0
IsLink o asked a b = IsForm o asked (N10 a b) ⊎ IsForm o asked (N10 b a)

-- the expressions that are asked about are there
abbrev pub AreAsked : Ontology → List ℕ → Type 0
AreAsked o asked = All (λ e. e < length o.nodes) asked

-- a named class, an individual or an expression that is asked about
pub data IsRoot (o : Ontology) (asked : List ℕ) : Context → Type 0 where
  named : (c e : ℕ) → IsClassAt o c e → IsRoot o asked (Expression e)
  individual : (a : ℕ) → a < length o.names.individuals → IsRoot o asked (Individual a)
  question : (e : ℕ) → e < length o.nodes → Contains asked e → IsRoot o asked (Expression e)

-- x is a context because of these facts: a root because of none, the target of an edge because of the edge
pub data IsContextBy (o : Ontology) (asked : List ℕ) : List Fact → Context → Type 0 where
  root : {x : Context} → IsRoot o asked x → IsContextBy o asked [] x
  target : {y : Context} (x : Context) (r : Property2) → IsContextBy o asked (Edge x r y ∷ []) y

-- the facts, in their order, give the fact by one of the thirteen conditions
pub data Gives (o : Ontology) (asked : List ℕ) : List Fact → Fact → Type 0 where
  in_thing : {older : List Fact} {x : Context} → IsContextBy o asked older x → Gives o asked older (In (Whole thing) x)
  in_itself : {older : List Fact} {e : ℕ} → IsContextBy o asked older (Expression e) → Gives o asked older (In (Whole e) (Expression e))
  asserted : {i : ℕ} {a : Class2} → IsForm o asked (N8 i a) → Gives o asked [] (In a (Individual i))
  asserted_edge : {i r j : ℕ} → IsForm o asked (N9 i r j) → Gives o asked [] (Edge (Individual i) (Property r) (Individual j))
  subsumed : {x : Context} {b : Class2} (a : Class2) → IsForm o asked (N1 a b) → Gives o asked (In a x ∷ []) (In b x)
  both : {x : Context} {c : Class2} (a b : Class2) → IsForm o asked (N2 a b c) → Gives o asked (In a x ∷ In b x ∷ []) (In c x)
  successor : {x : Context} {r b : ℕ} (a : Class2) → IsForm o asked (N3 a r b) → Gives o asked (In a x ∷ []) (Edge x (Property r) (Expression b))
  predecessor : {x : Context} {b : Class2} (r : ℕ) (a : Class2) (q : Property2) (y : Context) → IsForm o asked (N4 r a b) → IsAtOrBelow o asked q (Property r) → Gives o asked (Edge x q y ∷ In a y ∷ []) (In b x)
  unsatisfiable : {x : Context} (r : Property2) (y : Context) → Gives o asked (Edge x r y ∷ In (Whole nothing) y ∷ []) (In (Whole nothing) x)
  chained : {x z : Context} {t : Property2} (r s p q : Property2) (y : Context) → IsForm o asked (N6 r s t) → IsAtOrBelow o asked p r → IsAtOrBelow o asked q s → Gives o asked (Edge x p y ∷ Edge y q z ∷ []) (Edge x t z)
  loop : {older : List Fact} {x : Context} (r : ℕ) → IsForm o asked (N7 r) → IsContextBy o asked older x → Gives o asked older (Edge x (Property r) x)
  same_class : {b : ℕ} {c : Class2} (a : ℕ) → AreSame o asked a b → Gives o asked (In c (Individual a) ∷ []) (In c (Individual b))
  same_source : {b : ℕ} {r : Property2} {y : Context} (a : ℕ) → AreSame o asked a b → Gives o asked (Edge (Individual a) r y ∷ []) (Edge (Individual b) r y)
  same_target : {b : ℕ} {r : Property2} {x : Context} (a : ℕ) → AreSame o asked a b → Gives o asked (Edge x r (Individual a) ∷ []) (Edge x r (Individual b))
  different : {a : ℕ} (b : ℕ) → IsForm o asked (N11 a b) → AreSame o asked a b → Gives o asked [] (In (Whole nothing) (Individual a))
  denied : {a : ℕ} (r b : ℕ) (q : Property2) → IsForm o asked (N12 a r b) → IsAtOrBelow o asked q (Property r) → Gives o asked (Edge (Individual a) q (Individual b) ∷ []) (In (Whole nothing) (Individual a))

-- the closure: the facts with a finite derivation tree
mutual
  pub data IsFact (o : Ontology) (asked : List ℕ) : Fact → Type 0 where
    given : {fact : Fact} (older : List Fact) → Gives o asked older fact → AreFacts o asked older → IsFact o asked fact

  pub data AreFacts (o : Ontology) (asked : List ℕ) : List Fact → Type 0 where
    none : AreFacts o asked []
    more : {fact : Fact} {facts : List Fact} → IsFact o asked fact → AreFacts o asked facts → AreFacts o asked (fact ∷ facts)

-- a root, or the target of an edge of the closure
abbrev pub IsContext : Ontology → List ℕ → Context → Type 0
IsContext o asked x = (older : List Fact) × IsContextBy o asked older x × AreFacts o asked older
