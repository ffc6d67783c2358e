-- What facts over numbers say: the number of a prefix stands for its operands or steps.
use Rattle.std.specs.Prelude.{◌≡◌, ◌↔◌, ℕ, List, slice_get, Some}
use Rattle.std.specs.List.{Contains}
use Rattle.axioms.specs.Ontology.{Ontology, nothing}
use Rattle.axioms.specs.WellFormedness.{AreDistinct}
use Rattle.axioms.specs.declared.ids.ExprId.{ExprId}
use Rattle.axioms.specs.declared.ids.PropId.{PropId}
use Rattle.axioms.specs.declared.ids.IndId.{IndId}
use Rattle.normal_forms.specs.declared.forms.Class2 as code_class
use Rattle.normal_forms.specs.declared.forms.Class2.TheVariants as classes
use Rattle.normal_forms.specs.declared.forms.PropId2 as code_property
use Rattle.normal_forms.specs.declared.forms.PropId2.TheVariants as properties
use Rattle.normal_forms.specs.declared.forms.Form as code_form
use Rattle.normal_forms.specs.declared.forms.Form.TheVariants as forms
use Rattle.normal_forms.specs.Apart.{AreListedAt}
use Rattle.normal_forms.specs.Forms.{Class2, Whole, Prefix, Property2, Property, Steps, Form, N1, N2, N3, N4, N5, N6, N7, N8, N9, N10, N11, N12, IsForm}
use Rattle.facts.specs.declared.contexts.Context as code_context
use Rattle.facts.specs.declared.contexts.Context.TheVariants as contexts
use Rattle.facts.specs.declared.contexts.Fact as code_fact
use Rattle.facts.specs.declared.contexts.Fact.TheVariants as facts
use Rattle.facts.specs.Closure.{Problem}
use Rattle.facts.specs.Closure as numbered
use Rattle.closure.specs.Closure.{Context, Expression, Individual, Fact, In, Edge, AreSame, IsRoot, IsFact}

-- what numbers of prefixes stand for: the operands of each prefix of an intersection, the properties of each of a chain
pub record Prefixes : Type 0 where
  pub operands : List (List ℕ)
  pub steps : List (List ℕ)

-- the class says the class of the definition
pub data SaysClass (b : Prefixes) : code_class.Class2 → Class2 → Type 0 where
  whole : {e : ExprId} {c : ℕ} → e.0 ≡ c → SaysClass b (classes.Expr e) (Whole c)
  prefix : {n : ℕ} {ds : List ℕ} → slice_get b.operands n ≡ Some ds → SaysClass b (classes.Partial n) (Prefix ds)

pub data SaysProperty (b : Prefixes) : code_property.PropId2 → Property2 → Type 0 where
  property : {p : PropId} {r : ℕ} → p.0 ≡ r → SaysProperty b (properties.Property p) (Property r)
  steps : {n : ℕ} {rs : List ℕ} → slice_get b.steps n ≡ Some rs → SaysProperty b (properties.Partial n) (Steps rs)

pub data SaysContext : code_context.Context → Context → Type 0 where
  expression : {e : ExprId} {c : ℕ} → e.0 ≡ c → SaysContext (contexts.Expr e) (Expression c)
  individual : {i : IndId} {a : ℕ} → i.0 ≡ a → SaysContext (contexts.Individual i) (Individual a)

-- the context that the code's one says
abbrev pub context_of : code_context.Context → Context
context_of (contexts.Expr e) = Expression e.0
context_of (contexts.Individual a) = Individual a.0

pub data SaysFact (b : Prefixes) : code_fact.Fact → Fact → Type 0 where
  in_context : {a : code_class.Class2} {a' : Class2} {x : code_context.Context} {x' : Context} → SaysClass b a a' → SaysContext x x' → SaysFact b (facts.In a x) (In a' x')
  edge : {x y : code_context.Context} {x' y' : Context} {r : code_property.PropId2} {r' : Property2} → SaysContext x x' → SaysProperty b r r' → SaysContext y y' → SaysFact b (facts.Edge x r y) (Edge x' r' y')

pub data SaysForm (b : Prefixes) : code_form.Form → Form → Type 0 where
  n1 : {a c : code_class.Class2} {a' c' : Class2} → SaysClass b a a' → SaysClass b c c' → SaysForm b (forms.N1 a c) (N1 a' c')
  n2 : {a c d : code_class.Class2} {a' c' d' : Class2} → SaysClass b a a' → SaysClass b c c' → SaysClass b d d' → SaysForm b (forms.N2 a c d) (N2 a' c' d')
  n3 : {a : code_class.Class2} {a' : Class2} {r : PropId} {e : ExprId} {r' e' : ℕ} → SaysClass b a a' → r.0 ≡ r' → e.0 ≡ e' → SaysForm b (forms.N3 a r e) (N3 a' r' e')
  n4 : {a c : code_class.Class2} {a' c' : Class2} {r : PropId} {r' : ℕ} → r.0 ≡ r' → SaysClass b a a' → SaysClass b c c' → SaysForm b (forms.N4 r a c) (N4 r' a' c')
  n5 : {r s : PropId} {r' s' : ℕ} → r.0 ≡ r' → s.0 ≡ s' → SaysForm b (forms.N5 r s) (N5 r' s')
  n6 : {r s t : code_property.PropId2} {r' s' t' : Property2} → SaysProperty b r r' → SaysProperty b s s' → SaysProperty b t t' → SaysForm b (forms.N6 r s t) (N6 r' s' t')
  n7 : {r : PropId} {r' : ℕ} → r.0 ≡ r' → SaysForm b (forms.N7 r) (N7 r')
  n8 : {i : IndId} {i' : ℕ} {a : code_class.Class2} {a' : Class2} → i.0 ≡ i' → SaysClass b a a' → SaysForm b (forms.N8 i a) (N8 i' a')
  n9 : {i j : IndId} {i' j' : ℕ} {r : PropId} {r' : ℕ} → i.0 ≡ i' → r.0 ≡ r' → j.0 ≡ j' → SaysForm b (forms.N9 i r j) (N9 i' r' j')
  n10 : {i j : IndId} {i' j' : ℕ} → i.0 ≡ i' → j.0 ≡ j' → SaysForm b (forms.N10 i j) (N10 i' j')
  n12 : {i j : IndId} {i' j' : ℕ} {r : PropId} {r' : ℕ} → i.0 ≡ i' → r.0 ≡ r' → j.0 ≡ j' → SaysForm b (forms.N12 i r j) (N12 i' r' j')

-- a form over numbers says the form, or a list of what is apart has its two
pub data IsSaid (b : Prefixes) (k : Problem) : Form → Type 0 where
  by_form : {g : Form} (f : code_form.Form) → Contains k.forms f → SaysForm b f g → IsSaid b k g
  by_classes : (l : ℕ) (c d : ExprId) → AreListedAt k.apart.classes l c d → IsSaid b k (N2 (Whole c.0) (Whole d.0) (Whole nothing))
  by_individuals : (l : ℕ) (i j : IndId) → AreListedAt k.apart.individuals l i j → IsSaid b k (N11 i.0 j.0)

-- the forms, lists and roots over numbers are exactly those of the ontology and of what is asked about; no prefix has two numbers
pub record IsProblemOf (o : Ontology) (asked : List ℕ) (b : Prefixes) (k : Problem) : Type 0 where
  pub distinct_operands : AreDistinct b.operands
  pub distinct_steps : AreDistinct b.steps
  pub each_form : (f : code_form.Form) → Contains k.forms f → (g : Form) × SaysForm b f g × IsForm o asked g
  pub each_disjoint : (l : ℕ) (c d : ExprId) → AreListedAt k.apart.classes l c d → IsForm o asked (N2 (Whole c.0) (Whole d.0) (Whole nothing))
  pub each_different : (l : ℕ) (i j : IndId) → AreListedAt k.apart.individuals l i j → IsForm o asked (N11 i.0 j.0)
  pub all_forms : (g : Form) → IsForm o asked g → IsSaid b k g
  pub each_root : (x : code_context.Context) → Contains k.roots x → (y : Context) × SaysContext x y × IsRoot o asked y
  pub all_roots : (y : Context) → IsRoot o asked y → (x : code_context.Context) × Contains k.roots x × SaysContext x y

-- where forms and roots over numbers are exactly those of the ontology, the facts over numbers say exactly the facts of the closure
abbrev pub NumbersSayTheClosure : Type 0
NumbersSayTheClosure =
    (o : Ontology) (asked : List ℕ) (b : Prefixes) (k : Problem) → IsProblemOf o asked b k →
    ((f : code_fact.Fact) → numbered.IsFact k f → (g : Fact) × SaysFact b f g × IsFact o asked g)
    × ((g : Fact) → IsFact o asked g → (f : code_fact.Fact) × numbered.IsFact k f × SaysFact b f g)

-- .. and two individuals are one by the forms over numbers exactly where they are by those of the ontology
abbrev pub NumbersSayGroups : Type 0
NumbersSayGroups =
    (o : Ontology) (asked : List ℕ) (b : Prefixes) (k : Problem) → IsProblemOf o asked b k →
    (i j : IndId) → numbered.AreSame k.forms i j ↔ AreSame o asked i.0 j.0
