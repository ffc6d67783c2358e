-- What is said over numbers is one thing, and one thing over numbers says it.
use Rattle.std.proofs.Common.{◌≡◌, ℕ, List, sym, ap, ap₂, ◌∙◌}
use Rattle.std.proofs.lemmas.Option.{same_Some}
use Rattle.axioms.specs.Ontology.{Ontology}
use Rattle.axioms.specs.declared.ids.ExprId.{ExprId}
use Rattle.axioms.specs.declared.ids.PropId.{PropId}
use Rattle.axioms.specs.declared.ids.IndId.{IndId}
use Rattle.normal_forms.specs.declared.forms.Class2 as code_class
use Rattle.normal_forms.specs.declared.forms.Class2.TheVariants as classes
use Rattle.normal_forms.specs.declared.forms.PropId2 as code_property
use Rattle.normal_forms.specs.declared.forms.PropId2.TheVariants as properties
use Rattle.normal_forms.specs.Forms.{Class2, Whole, Prefix, Property2, Property, Steps}
use Rattle.facts.specs.declared.contexts.Context as code_context
use Rattle.facts.specs.declared.contexts.Context.TheVariants as contexts
use Rattle.facts.specs.declared.contexts.Fact as code_fact
use Rattle.facts.specs.declared.contexts.Fact.TheVariants as facts
use Rattle.facts.specs.Closure.{Problem}
use Rattle.closure.specs.Closure.{Context, Expression, Individual, Fact, In, Edge}
use Rattle.closure.specs.Denotations.{Prefixes, SaysClass, whole, prefix, SaysProperty, property, steps, SaysContext, expression, individual, SaysFact, in_context, edge, IsProblemOf}

-- ---- what is said is one thing

pub class_one : {b : Prefixes} {a : code_class.Class2} {c d : Class2} → SaysClass b a c → SaysClass b a d → c ≡ d
class_one (whole h) (whole k) = ap Whole (sym h ∙ k)
class_one (prefix h) (prefix k) = ap Prefix (same_Some _ _ (sym h ∙ k))

pub property_one : {b : Prefixes} {p : code_property.PropId2} {r s : Property2} → SaysProperty b p r → SaysProperty b p s → r ≡ s
property_one (property h) (property k) = ap Property (sym h ∙ k)
property_one (steps h) (steps k) = ap Steps (same_Some _ _ (sym h ∙ k))

pub context_one : {x : code_context.Context} {y z : Context} → SaysContext x y → SaysContext x z → y ≡ z
context_one (expression h) (expression k) = ap Expression (sym h ∙ k)
context_one (individual h) (individual k) = ap Individual (sym h ∙ k)

pub fact_one : {b : Prefixes} {f : code_fact.Fact} {g h : Fact} → SaysFact b f g → SaysFact b f h → g ≡ h
fact_one (in_context a x) (in_context c y) = ap₂ In (class_one a c) (context_one x y)
fact_one (edge x p z) (edge y q u) = ap₂ (λ v (w : Property2 × Context). Edge v w.0 w.1) (context_one x y) (ap₂ (λ r v. (r, v)) (property_one p q) (context_one z u))

-- ---- one thing says it

abbrev pub expr_id : ℕ → ExprId
expr_id n = record { 0 = n }

abbrev pub prop_id : ℕ → PropId
prop_id n = record { 0 = n }

abbrev pub ind_id : ℕ → IndId
ind_id n = record { 0 = n }

pub same_property : {p q : PropId} {r : ℕ} → p.0 ≡ r → q.0 ≡ r → p ≡ q
same_property h k = ap prop_id (h ∙ sym k)

pub context_same : {x y : code_context.Context} {z : Context} → SaysContext x z → SaysContext y z → x ≡ y
context_same (expression h) (expression k) = ap (λ n. contexts.Expr (expr_id n)) (h ∙ sym k)
context_same (individual h) (individual k) = ap (λ n. contexts.Individual (ind_id n)) (h ∙ sym k)

pub class_same : {o : Ontology} {asked : List ℕ} {b : Prefixes} {k : Problem} → IsProblemOf o asked b k → {a c : code_class.Class2} {d : Class2} → SaysClass b a d → SaysClass b c d → a ≡ c
class_same h (whole g) (whole l) = ap (λ n. classes.Expr (expr_id n)) (g ∙ sym l)
class_same h (prefix {n = m} {ds = ds} g) (prefix {n = n} l) = ap classes.Partial (h.distinct_operands m n ds g l)

pub property_same : {o : Ontology} {asked : List ℕ} {b : Prefixes} {k : Problem} → IsProblemOf o asked b k → {p q : code_property.PropId2} {r : Property2} → SaysProperty b p r → SaysProperty b q r → p ≡ q
property_same h (property g) (property l) = ap (λ n. properties.Property (prop_id n)) (g ∙ sym l)
property_same h (steps {n = m} {rs = rs} g) (steps {n = n} l) = ap properties.Partial (h.distinct_steps m n rs g l)

pub fact_same : {o : Ontology} {asked : List ℕ} {b : Prefixes} {k : Problem} → IsProblemOf o asked b k → {f f' : code_fact.Fact} {g : Fact} → SaysFact b f g → SaysFact b f' g → f ≡ f'
fact_same h (in_context a x) (in_context c y) = ap₂ facts.In (class_same h a c) (context_same x y)
fact_same h (edge x p z) (edge y q u) =
    ap₂ (λ v (w : code_property.PropId2 × code_context.Context). facts.Edge v w.0 w.1) (context_same x y) (ap₂ (λ r v. (r, v)) (property_same h p q) (context_same z u))
