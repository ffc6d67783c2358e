-- The facts of a closure decide the listed interpretation, so that there is one.
use Rattle.std.proofs.Common.{◌≡◌, ◌↔◌, ℕ, zero, suc, inl, inr, ⊎_elim, List, [], ◌∷◌, ◌++◌, length, slice_get, Some, Contains, refl, sym, ap, ◌∙◌, subst, arith}
use Rattle.lemmas.proofs.Members.{Contains-from_slice_get, slice_get-from_Contains}
use Rattle.axioms.specs.Ontology.{Ontology, thing, nothing}
use Rattle.axioms.specs.WellFormedness.{IsOntology}
use Rattle.axioms.specs.declared.ids.PropId.{PropId}
use Rattle.facts.specs.declared.contexts.Context as code
use Rattle.facts.specs.declared.contexts.Context.TheVariants as contexts
use Rattle.facts.specs.declared.contexts.Fact as code_fact
use Rattle.facts.specs.declared.contexts.Fact.TheVariants as facts
use Rattle.facts.specs.Closure.{Problem}
use Rattle.normal_forms.specs.declared.forms.Class2.TheVariants as classes
use Rattle.normal_forms.specs.declared.forms.PropId2 as code_property
use Rattle.normal_forms.specs.declared.forms.PropId2.TheVariants as properties
use Rattle.normal_forms.specs.declared.forms.Form as code_form
use Rattle.normal_forms.specs.declared.forms.Form.TheVariants as forms
use Rattle.normal_forms.specs.Forms.{Whole, Property2, Property, Steps, Form, N5, IsForm}
use Rattle.closure.specs.Closure.{Context, Expression, Individual, Fact, In, Edge, IsFact, IsAtOrBelow, same, step}
use Rattle.closure.specs.Denotations.{Prefixes, SaysProperty, property, steps, SaysContext, expression, individual, SaysFact, edge, SaysForm, n5, IsSaid, by_form, IsProblemOf}
use Rattle.closure.proofs.Names.{context_one, expr_id, ind_id}
use Rattle.closure.proofs.Names as names
use Rattle.exactness.specs.ListedInterpretation.{HasEdge, IsConsistent, IsListedInterpretation, IsSatisfiable, Leads, AreSatisfiableContexts}
use Rattle.exactness.proofs.Listed.{listed_exists}
use Rattle.interpretation_spec.specs.Interpretation.{Interpretation}
use Rattle.countermodel.specs.Elements.{contexts_of}
use Rattle.countermodel.proofs.Contexts.{context_has_thing}
use Rattle.countermodel.proofs.Facts.{code_of, whole_said, satisfiable_within}
use Rattle.countermodel.proofs.Listing.{HasListed, HasListedMore, none_listed, listed_more, listed_same, none_listed_more, individual_more, individual_same, no_individual, expressions_done, contexts_done}
use Rattle.engine.specs.Saturations.{SayTheClosure}
use Rattle.classification.proofs.Deciding.{Decided, is_yes, tells, SomeOf, some_of, same_context, is_in, Reach, reach, reach_same, reach_on}
use Rattle.classification.proofs.Leading.{leading}

on : {o : Ontology} {asked : List ℕ} {r s t : Property2} → IsAtOrBelow o asked r s → IsAtOrBelow o asked s t → IsAtOrBelow o asked r t
on h same = h
on h (step s t k form) = step s t (on h k) form

said_context : {x : code.Context} {y : Context} → SaysContext x y → x ≡ code_of y
said_context (expression h) = ap (λ n. contexts.Expr (expr_id n)) h
said_context (individual h) = ap (λ n. contexts.Individual (ind_id n)) h

says_context : (x : Context) → SaysContext (code_of x) x
says_context (Expression e) = expression refl
says_context (Individual a) = individual refl

module _ (o : Ontology) (asked : List ℕ) (w : IsOntology o) (b : Prefixes) (k : Problem) (problem : IsProblemOf o asked b k) (list : List code_fact.Fact) (says : SayTheClosure o asked b list) where
  -- ---- properties

  form_of : (s t : PropId) {g : Form} → SaysForm b (forms.N5 s t) g → IsForm o asked g → IsForm o asked (N5 s.0 t.0)
  form_of s t (n5 {r' = r} h l) f = subst (λ n. IsForm o asked (N5 n t.0)) (sym h) (subst (λ n. IsForm o asked (N5 r n)) (sym l) f)

  form_at : (n : ℕ) (s t : PropId) → slice_get k.forms n ≡ Some (forms.N5 s t) → IsForm o asked (N5 s.0 t.0)
  form_at n s t at =
      let (g, says_g, is) = problem.each_form (forms.N5 s t) (Contains-from_slice_get k.forms n (forms.N5 s t) at) in
      form_of s t says_g is

  abbrev AreForms : List code_form.Form → Type 0
  AreForms fs = (n : ℕ) (s t : PropId) → slice_get fs n ≡ Some (forms.N5 s t) → IsForm o asked (N5 s.0 t.0)

  leads : (fs : List code_form.Form) → AreForms fs → (p q : ℕ) → Reach fs p q → IsAtOrBelow o asked (Property p) (Property q)
  leads [] are p q h = subst (λ n. IsAtOrBelow o asked (Property p) (Property n)) h same
  leads (f ∷ fs) are p q (inl h) = leads fs (λ n. are (suc n)) p q h
  leads (forms.N5 s t ∷ fs) are p q (inr v) =
      on (step s.0 t.0 (leads fs (λ n. are (suc n)) p s.0 v.0) (are 0 s t refl)) (leads fs (λ n. are (suc n)) t.0 q v.1)
  leads (_ ∷ fs) are p q (inr v) = absurd v

  abbrev number_in : Property2 → ℕ
  number_in (Property p) = p
  number_in (Steps rs) = 0

  on_by : (p s t : ℕ) (f : code_form.Form) → SaysForm b f (N5 s t) → (n : ℕ) → slice_get k.forms n ≡ Some f → Reach k.forms p s → Reach k.forms p t
  on_by p s t _ (n5 {r = s'} {s = t'} h l) n at r = subst (λ m. Reach k.forms p m) l (reach_on k.forms s' t' n p at (subst (λ m. Reach k.forms p m) (sym h) r))

  -- one of properties is said by a form: lists are of classes and of individuals
  by_its_form : (s t : ℕ) → IsSaid b k (N5 s t) → (f : code_form.Form) × Contains k.forms f × SaysForm b f (N5 s t)
  by_its_form s t (by_form f there says) = (f, there, says)

  led : (x y : Property2) → IsAtOrBelow o asked x y → (p q : ℕ) → x ≡ Property p → y ≡ Property q → Reach k.forms p q
  led x _ same p q e f = subst (λ n. Reach k.forms p n) (ap number_in (sym e ∙ f)) (reach_same k.forms p)
  led x _ (step s t h form) p q e f =
      let (g, there, says_g) = by_its_form s t (problem.all_forms (N5 s t) form) in
      let (n, at) = slice_get-from_Contains k.forms g there in
      subst (λ m. Reach k.forms p m) (ap number_in f) (on_by p s t g says_g n at (led x (Property s) h p s e refl))

  never : (x y : Property2) → IsAtOrBelow o asked x y → (rs : List ℕ) (r : ℕ) → x ≡ Steps rs → y ≡ Property r → ⊥
  never x _ same rs r e f = let h : Steps rs ≡ Property r = sym e ∙ f in absurd (cc)
  never x _ (step s t h form) rs r e f = never x (Property s) h rs s e refl

  below : (p r : ℕ) → Decided (IsAtOrBelow o asked (Property p) (Property r))
  below p r = ⊎_elim (λ h. inl (leads k.forms form_at p r h)) (λ n. inr (λ h. n (led (Property p) (Property r) h p r refl refl))) (reach k.forms p r)

  -- ---- edges

  steps_one : {n : ℕ} {p : Property2} → SaysProperty b (properties.Partial n) p → (rs : List ℕ) × (p ≡ Steps rs)
  steps_one (steps {rs = rs} h) = (rs, refl)

  property_one : {q : PropId} {p : Property2} → SaysProperty b (properties.Property q) p → p ≡ Property q.0
  property_one (property h) = ap Property (sym h)

  edge_parts : {u v : code.Context} {q : code_property.PropId2} {x y : Context} {p : Property2} → SaysFact b (facts.Edge u q v) (Edge x p y) → SaysContext u x × SaysProperty b q p × SaysContext v y
  edge_parts (edge h l m) = (h, l, m)

  abbrev IsEdgeOf : Context → ℕ → Context → code_fact.Fact → Type 0
  IsEdgeOf x r y f = (p : Property2) × SaysFact b f (Edge x p y) × IsAtOrBelow o asked p (Property r)

  no_edge : {a : _} {z : code.Context} {x y : Context} {p : Property2} → SaysFact b (facts.In a z) (Edge x p y) → ⊥
  no_edge h = elim h [ ]

  edge_of : (x : Context) (r : ℕ) (y : Context) (f : code_fact.Fact) → Decided (IsEdgeOf x r y f)
  edge_of x r y (facts.In a z) = inr (λ v. no_edge v.1)
  edge_of x r y (facts.Edge u q v) = go q (same_context u (code_of x)) (same_context v (code_of y))
    where
      by : (q : PropId) → u ≡ code_of x → v ≡ code_of y → Decided (IsAtOrBelow o asked (Property q.0) (Property r)) → Decided (IsEdgeOf x r y (facts.Edge u (properties.Property q) v))
      by q h l (inl is) = inl (Property q.0, edge (subst (λ c. SaysContext c x) (sym h) (says_context x)) (property refl) (subst (λ c. SaysContext c y) (sym l) (says_context y)), is)
      by q h l (inr other) = inr (λ e. other (subst (λ p. IsAtOrBelow o asked p (Property r)) (property_one (edge_parts e.1).1) e.2))

      go : (q : code_property.PropId2) → Decided (u ≡ code_of x) → Decided (v ≡ code_of y) → Decided (IsEdgeOf x r y (facts.Edge u q v))
      go (properties.Property p) (inl h) (inl l) = by p h l (below p.0 r)
      go (properties.Partial n) (inl h) (inl l) = inr (λ e. (let (rs, is) = steps_one (edge_parts e.1).1 in never e.0 (Property r) e.2 rs r is refl))
      go q (inl h) (inr other) = inr (λ e. other (said_context (edge_parts e.1).2))
      go q (inr other) l = inr (λ e. other (said_context (edge_parts e.1).0))

  edge_is_fact : (x y : Context) (p : Property2) (f : code_fact.Fact) → Contains list f → SaysFact b f (Edge x p y) → IsFact o asked (Edge x p y)
  edge_is_fact x y p f there s = (let (g, t, is) = says.each f there in go f g s t is)
    where
      go : (f : code_fact.Fact) (g : Fact) → SaysFact b f (Edge x p y) → SaysFact b f g → IsFact o asked g → IsFact o asked (Edge x p y)
      go _ _ (edge h l m) (edge {x' = u} {y' = v} {r' = q} h' l' m') is =
          subst (λ c. IsFact o asked (Edge c p y)) (context_one h' h)
          (subst (λ c. IsFact o asked (Edge u c y)) (names.property_one l' l)
          (subst (λ c. IsFact o asked (Edge u q c)) (context_one m' m) is))

  has_edge : (x : Context) (r : ℕ) (y : Context) → SomeOf list (IsEdgeOf x r y) ↔ HasEdge o asked x (Property r) y
  has_edge x r y = (
    λ v. record { property = v.3.0; edge = edge_is_fact x y v.3.0 v.1 (Contains-from_slice_get list v.0 v.1 v.2) v.3.1; below = v.3.2 },
    λ h.
        let (f, there, s) = says.all (Edge x h.property y) h.edge in
        let (n, at) = slice_get-from_Contains list f there in
        (n, f, at, (h.property, s, h.below)),
  )

  joined : (x : Context) (r : ℕ) (y : Context) → Decided (HasEdge o asked x (Property r) y)
  joined x r y = ⊎_elim (λ v. inl ((has_edge x r y).0 v)) (λ n. inr (λ h. n ((has_edge x r y).1 h))) (some_of (IsEdgeOf x r y) (edge_of x r y) list)

  -- ---- classes

  pub has_fact : (x : Context) (e : ℕ) → Decided (IsFact o asked (In (Whole e) x))
  has_fact x e =
      let said = whole_said o asked b list says (expr_id e) x in
      let f : code_fact.Fact = facts.In (classes.Expr (expr_id e)) (code_of x) in
      ⊎_elim
      (λ v. inl (said.0 (Contains-from_slice_get list v.0 f (subst (λ g. slice_get list v.0 ≡ Some g) v.3 v.2))))
      (λ n. inr (λ is. (let (m, at) = slice_get-from_Contains list f (said.1 is) in n (m, f, at, refl))))
      (some_of (λ g. g ≡ f) (is_in (expr_id e) (code_of x)) list)

  satisfiable : (x : Context) → Decided (IsSatisfiable o asked x)
  satisfiable x = ⊎_elim
      (λ t. ⊎_elim
      (λ n. inr (λ s. s.without_nothing n))
      (λ n. inl (record { context = (context_has_thing o asked w x).1 t; without_nothing = n }))
      (has_fact x nothing))
      (λ n. inr (λ s. n ((context_has_thing o asked w x).0 s.context)))
      (has_fact x thing)

  -- the context has an element
  abbrev HasElement : Context → Type 0
  HasElement x = IsSatisfiable o asked x × Leads o asked x

  has_element : (x : Context) → Decided (HasElement x)
  has_element x = ⊎_elim
      (λ s. ⊎_elim (λ l. inl (s, l)) (λ n. inr (λ h. n h.1)) (leading o asked x))
      (λ n. inr (λ h. n h.0))
      (satisfiable x)

  expressions : (n : ℕ) → (xs : List code.Context) × (places : List ℕ) × HasListed HasElement n xs places
  expressions zero = ([], [], none_listed HasElement 0 [] [])
  expressions (suc n) = (let (xs, places, h) = expressions n in go xs places h (has_element (Expression n)))
    where
      go : (xs : List code.Context) (places : List ℕ) → HasListed HasElement n xs places → Decided (HasElement (Expression n)) → (ys : List code.Context) × (more : List ℕ) × HasListed HasElement (suc n) ys more
      go xs places h (inl p) =
          let ys : List code.Context = xs ++ contexts.Expr (expr_id n) ∷ [] in
          let more : List ℕ = places ++ length xs ∷ [] in
          (ys, more, subst (λ m. HasListed HasElement m ys more) (omega arith) (listed_more HasElement n xs places (expr_id n) refl p h))
      go xs places h (inr fails) =
          let more : List ℕ = places ++ length xs ∷ [] in
          (xs, more, subst (λ m. HasListed HasElement m xs more) (omega arith) (listed_same HasElement n xs places fails h))

  individuals : (before : List code.Context) → HasListedMore HasElement before 0 before [] → (n : ℕ) → (xs : List code.Context) × (places : List ℕ) × HasListedMore HasElement before n xs places
  individuals before h zero = (before, [], h)
  individuals before h (suc n) = (let (xs, places, k) = individuals before h n in go xs places k (has_element (Individual n)))
    where
      go : (xs : List code.Context) (places : List ℕ) → HasListedMore HasElement before n xs places → Decided (HasElement (Individual n)) → (ys : List code.Context) × (more : List ℕ) × HasListedMore HasElement before (suc n) ys more
      go xs places k (inl p) =
          let ys : List code.Context = xs ++ contexts.Individual (ind_id n) ∷ [] in
          let more : List ℕ = places ++ length xs ∷ [] in
          (ys, more, subst (λ m. HasListedMore HasElement before m ys more) (omega arith) (individual_more HasElement n xs places before (ind_id n) refl p k))
      go xs places k (inr fails) =
          let more : List ℕ = places ++ length xs ∷ [] in
          (xs, more, subst (λ m. HasListedMore HasElement before m xs more) (omega arith) (individual_same HasElement n xs places before fails k))

  elements : (xs : List Context) × AreSatisfiableContexts o asked xs
  elements =
      let (es, places, h) = expressions (length o.nodes) in
      let done = expressions_done HasElement HasElement (length o.nodes) (contexts_of es) h.listed (λ e. (λ p. p, λ p. p)) (λ e p. satisfiable_within o asked w (Expression e) p.0) in
      let (xs, more, l) = individuals es (none_listed_more HasElement 0 es [] es done (no_individual HasElement es done)) (length o.names.individuals) in
      (contexts_of xs, contexts_done HasElement (length o.names.individuals) (contexts_of xs) o asked l.listed (λ x. (λ p. p, λ p. p)) (λ a p. satisfiable_within o asked w (Individual a) p.0))

  pub listed : IsConsistent o asked → (xs : List Context) × (i : Interpretation) × IsListedInterpretation o asked xs i
  listed consistent =
      let (xs, are) = elements in
      let (i, is) = listed_exists o asked w consistent xs are (λ x e. is_yes (has_fact x e)) (λ x r y. is_yes (joined x r y))
      (record { classes = λ x e. tells (has_fact x e); edges = λ x r y. tells (joined x r y) }) in
      (xs, i, is)
