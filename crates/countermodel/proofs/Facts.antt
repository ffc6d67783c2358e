-- What facts over numbers say of contexts.
use Rattle.std.proofs.Common.{◌≡◌, ◌↔◌, ℕ, Bool, true, false, not, ◌&&◌, List, Contains, refl, ap, ap₂, sym, ◌∙◌, subst}
use Rattle.axioms.specs.Ontology.{Ontology, thing}
use Rattle.axioms.specs.WellFormedness.{IsOntology}
use Rattle.axioms.specs.declared.ids.ExprId.{ExprId}
use Rattle.axioms.specs.declared.ids.PropId.{PropId}
use Rattle.facts.specs.declared.contexts.Context as code
use Rattle.facts.specs.declared.contexts.Context.TheVariants.{Expr, Individual as Individual2}
use Rattle.facts.specs.declared.contexts.Fact as code_fact
use Rattle.facts.specs.declared.contexts.Fact.TheVariants as facts
use Rattle.normal_forms.specs.declared.forms.Class2.TheVariants as classes
use Rattle.normal_forms.specs.declared.forms.PropId2.TheVariants as properties
use Rattle.normal_forms.specs.Forms.{Whole, Property}
use Rattle.closure.specs.Closure.{Context, Expression, Individual, Fact, In, Edge, IsFact}
use Rattle.closure.specs.Denotations.{Prefixes, whole, property, SaysContext, expression, individual, SaysFact, in_context, edge, context_of}
use Rattle.closure.proofs.Names.{prop_id}
use Rattle.exactness.specs.ListedInterpretation.{IsSatisfiable}
use Rattle.engine.specs.Saturations.{SayTheClosure}
use Rattle.countermodel.specs.Sets.{IsWithin, holds, admits}
use Rattle.countermodel.specs.declared.context_set.ContextSet.{ContextSet}
use Rattle.countermodel.specs.declared.satisfiable.Satisfiable.{Satisfiable}
use Rattle.countermodel.proofs.Contexts.{context_has_thing, class_within}

and_not : (a b : Bool) → (a && not b) ≡ true → (a ≡ true) × (b ≡ true → ⊥)
and_not true true h = absurd (cc)
and_not true false h = (refl, λ k. cc)
and_not false b h = absurd (cc)

and_not_true : (a b : Bool) → a ≡ true → (b ≡ true → ⊥) → (a && not b) ≡ true
and_not_true true true h k = absurd (k refl)
and_not_true true false h k = refl
and_not_true false b h k = absurd (cc)

-- the context of the code that stands for the one of the definitions
abbrev pub code_of : Context → code.Context
code_of (Expression e) = Expr (record { 0 = e })
code_of (Individual a) = Individual2 (record { 0 = a })

pub code_of-is : (x : Context) → context_of (code_of x) ≡ x
code_of-is (Expression e) = refl
code_of-is (Individual a) = refl

context_said : {x : code.Context} {y : Context} → SaysContext x y → y ≡ context_of x
context_said (expression h) = ap Expression (sym h)
context_said (individual h) = ap Individual (sym h)

said_context : {x : code.Context} {y : Context} → SaysContext x y → x ≡ code_of y
said_context (expression h) = ap (λ n. Expr (record { 0 = n })) h
said_context (individual h) = ap (λ n. Individual2 (record { 0 = n })) h

said_itself : {x y : code.Context} → SaysContext x (context_of y) → x ≡ y
said_itself {x = x} {y = y} s = said_context s ∙ same y
  where
    same : (y : code.Context) → code_of (context_of y) ≡ y
    same (Expr e) = refl
    same (Individual2 a) = refl

fact_of_whole : {b : Prefixes} {class : ExprId} {x : code.Context} {g : Fact} → SaysFact b (facts.In (classes.Expr class) x) g → g ≡ In (Whole class.0) (context_of x)
fact_of_whole (in_context (whole h) s) = ap₂ (λ c y. In (Whole c) y) (sym h) (context_said s)

whole_of_fact : {b : Prefixes} {f : code_fact.Fact} {e : ℕ} {y : Context} → SaysFact b f (In (Whole e) y) → f ≡ facts.In (classes.Expr (record { 0 = e })) (code_of y)
whole_of_fact (in_context (whole h) s) = ap₂ (λ n z. facts.In (classes.Expr (record { 0 = n })) z) h (said_context s)

fact_of_edge : {b : Prefixes} {x y : code.Context} {q : PropId} {g : Fact} → SaysFact b (facts.Edge x (properties.Property q) y) g → g ≡ Edge (context_of x) (Property q.0) (context_of y)
fact_of_edge (edge s (property h) t) = let source = context_said s in let target = context_said t in cc (source, h, target)

edge_of_fact : {b : Prefixes} {f : code_fact.Fact} {x y : code.Context} {q : PropId} → SaysFact b f (Edge (context_of x) (Property q.0) (context_of y)) → f ≡ facts.Edge x (properties.Property q) y
edge_of_fact {x = x} {y = y} {q = q} (edge {x = u} {y = v} s (property {p = p} h) t) =
    let source : u ≡ x = said_itself s in
    let target : v ≡ y = said_itself t in
    let same : p ≡ q = ap prop_id h in
    cc (source, same, target)

module _ (o : Ontology) (asked : List ℕ) (b : Prefixes) (list : List code_fact.Fact) (says : SayTheClosure o asked b list) where
  -- whole classes in contexts are said as they are
  pub whole_said : (class : ExprId) (x : Context) → Contains list (facts.In (classes.Expr class) (code_of x)) ↔ IsFact o asked (In (Whole class.0) x)
  whole_said class x = (
    λ there.
        let (g, s, f) = says.each (facts.In (classes.Expr class) (code_of x)) there in
        subst (λ y. IsFact o asked (In (Whole class.0) y)) (code_of-is x) (subst (IsFact o asked) (fact_of_whole s) f),
    λ f.
        let (g, there, s) = says.all (In (Whole class.0) x) f in
        subst (Contains list) (whole_of_fact s) there,
  )

  -- edges of properties are said as they are
  pub edge_said : (x : code.Context) (q : PropId) (y : code.Context) → Contains list (facts.Edge x (properties.Property q) y) ↔ IsFact o asked (Edge (context_of x) (Property q.0) (context_of y))
  edge_said x q y = (
    λ there.
        let (g, s, f) = says.each (facts.Edge x (properties.Property q) y) there in
        subst (IsFact o asked) (fact_of_edge s) f,
    λ f.
        let (g, there, s) = says.all (Edge (context_of x) (Property q.0) (context_of y)) f in
        subst (Contains list) (edge_of_fact s) there,
  )

  -- a set that is marked by the facts of the class holds the contexts with it
  marks : (s : ContextSet) (class : ExprId) → ((x : code.Context) → (holds s (context_of x) ≡ true) ↔ Contains list (facts.In (classes.Expr class) x)) → (x : Context) → (holds s x ≡ true) ↔ IsFact o asked (In (Whole class.0) x)
  marks s class m x =
      let k : (holds s x ≡ true) ↔ Contains list (facts.In (classes.Expr class) (code_of x)) = subst (λ y. (holds s y ≡ true) ↔ Contains list (facts.In (classes.Expr class) (code_of x))) (code_of-is x) (m (code_of x)) in
      let w = whole_said class x in
      (λ h. w.0 (k.0 h), λ f. k.1 (w.1 f))

  pub said_within : IsOntology o → (class : ExprId) (x : code.Context) → Contains list (facts.In (classes.Expr class) x) → IsWithin o (context_of x)
  said_within h class x there =
      let (g, s, f) = says.each (facts.In (classes.Expr class) x) there in
      class_within o asked h (Whole class.0) (context_of x) (subst (IsFact o asked) (fact_of_whole s) f)

  pub satisfiable_are : IsOntology o → (s : Satisfiable)
      → ((x : code.Context) → (holds s.things (context_of x) ≡ true) ↔ Contains list (facts.In (classes.Expr (record { 0 = 0 })) x))
      → ((x : code.Context) → (holds s.nothings (context_of x) ≡ true) ↔ Contains list (facts.In (classes.Expr (record { 0 = 1 })) x))
      → (x : Context) → (admits s x ≡ true) ↔ IsSatisfiable o asked x
  satisfiable_are h s t n x =
      let things = marks s.things (record { 0 = 0 }) t x in
      let nothings = marks s.nothings (record { 0 = 1 }) n x in
      let contexts = context_has_thing o asked h x in (
        λ e. (let (a, b) = and_not (holds s.things x) (holds s.nothings x) e in record { context = contexts.1 (things.0 a); without_nothing = λ f. b (nothings.1 f) }),
        λ is. and_not_true (holds s.things x) (holds s.nothings x) (things.1 (contexts.0 is.context)) (λ e. is.without_nothing (nothings.0 e)),
      )

-- a satisfiable context is there
pub satisfiable_within : (o : Ontology) (asked : List ℕ) → IsOntology o → (x : Context) → IsSatisfiable o asked x → IsWithin o x
satisfiable_within o asked h x is = class_within o asked h (Whole thing) x ((context_has_thing o asked h x).0 is.context)
