-- The facts over numbers say exactly the facts of the closure.
use Rattle.std.proofs.Common.{◌≡◌, ℕ, inl, inr, List, [], ◌∷◌, slice_get, Some, Option, Contains, refl, sym, ap, ◌∙◌, subst}
use Rattle.lemmas.proofs.Members.{Contains-from_slice_get, slice_get-from_Contains}
use Rattle.axioms.specs.Ontology.{Ontology, thing, nothing}
use Rattle.axioms.specs.declared.ids.ExprId.{ExprId}
use Rattle.axioms.specs.declared.ids.PropId.{PropId}
use Rattle.axioms.specs.declared.ids.IndId.{IndId}
use Rattle.normal_forms.specs.declared.forms.Class2 as code_class
use Rattle.normal_forms.specs.declared.forms.Class2.TheVariants as classes
use Rattle.normal_forms.specs.declared.forms.PropId2 as code_property
use Rattle.normal_forms.specs.declared.forms.PropId2.TheVariants as properties
use Rattle.normal_forms.specs.declared.forms.Form as code_form
use Rattle.normal_forms.specs.declared.forms.Form.TheVariants as forms
use Rattle.normal_forms.specs.Properties as code_below
use Rattle.normal_forms.specs.Forms.{Class2, Whole, Property2, Property, Form, N1, N2, N3, N4, N5, N6, N7, N8, N9, N10, N11, N12, IsForm}
use Rattle.facts.specs.declared.contexts.Context as code_context
use Rattle.facts.specs.declared.contexts.Context.TheVariants as contexts
use Rattle.facts.specs.declared.contexts.Fact as code_fact
use Rattle.facts.specs.declared.contexts.Fact.TheVariants as facts
use Rattle.normal_forms.specs.Apart.{AreListedAt}
use Rattle.facts.specs.Closure.{Problem, FromNone, FromOne, FromTwo, Concludes, CarriesBack, IsLoop, Links, HandsOn, AreDisjointAt}
use Rattle.facts.specs.Closure as numbered
use Rattle.closure.specs.Closure.{Context, Expression, Individual, Fact, In, Edge, IsContextBy, IsAtOrBelow, AreSame, Gives, IsFact, AreFacts, given, none, more}
use Rattle.closure.specs.Denotations.{Prefixes, SaysClass, whole, SaysProperty, property, SaysContext, expression, individual, SaysFact, in_context, edge, SaysForm, n1, n2, n3, n4, n5, n6, n7, n8, n9, n10, n12, IsSaid, by_form, by_classes, by_individuals, IsProblemOf}
use Rattle.facts.proofs.Sameness.{class_handed_on, source_handed_on, target_handed_on}
use Rattle.closure.proofs.Groups.{and_then}
use Rattle.closure.proofs.Names.{class_one, property_one, context_one, ind_id, same_property, context_same, class_same, property_same}

-- each of the facts says one, in order
data SayFacts (b : Prefixes) : List code_fact.Fact → List Fact → Type 0 where
  no_facts : SayFacts b [] []
  one_more : {f : code_fact.Fact} {g : Fact} {fs : List code_fact.Fact} {gs : List Fact} → SaysFact b f g → SayFacts b fs gs → SayFacts b (f ∷ fs) (g ∷ gs)

only : {k : Problem} {f : code_fact.Fact} → numbered.AreFacts k (f ∷ []) → numbered.IsFact k f
only (numbered.more fact numbered.none) = fact

-- no list says the form
abbrev IsUnlisted : Form → Type 0
IsUnlisted (N2 _ _ _) = ⊥
IsUnlisted (N11 _ _) = ⊥
IsUnlisted _ = Unit {0}

by_a_form : (b : Prefixes) (k : Problem) (g : Form) → IsUnlisted g → IsSaid b k g → (f : code_form.Form) × Contains k.forms f × SaysForm b f g
by_a_form b k g unlisted (by_form f there says) = (f, there, says)
by_a_form b k _ unlisted (by_classes l c d at) = absurd unlisted
by_a_form b k _ unlisted (by_individuals l i j at) = absurd unlisted

module _ (o : Ontology) (asked : List ℕ) (b : Prefixes) (k : Problem) (h : IsProblemOf o asked b k) where
  -- the form of that place says a form
  said_form : (n : ℕ) (f : code_form.Form) → slice_get k.forms n ≡ Some f → (g : Form) × SaysForm b f g × IsForm o asked g
  said_form n f at = h.each_form f (Contains-from_slice_get k.forms n f at)

  -- a form that no list says is there
  said_by : (g : Form) → IsUnlisted g → IsForm o asked g → (f : code_form.Form) × Contains k.forms f × SaysForm b f g
  said_by g unlisted form = by_a_form b k g unlisted (h.all_forms g form)

  -- .. at some place
  form_at : (g : Form) → IsUnlisted g → IsForm o asked g → (f : code_form.Form) × (n : ℕ) × (slice_get k.forms n ≡ Some f) × SaysForm b f g
  form_at g unlisted form =
      let (f, there, says) = said_by g unlisted form in
      let (n, at) = slice_get-from_Contains k.forms f there in
      (f, n, at, says)

  -- ---- properties below properties

  step_said : (s t : PropId) {p : Property2} {q : Property2} → SaysProperty b (properties.Property s) q → IsAtOrBelow o asked p q → (g : Form) → SaysForm b (forms.N5 s t) g → IsForm o asked g
      → (r : Property2) × SaysProperty b (properties.Property t) r × IsAtOrBelow o asked p r
  step_said s t {p} (property at_s) below g (n5 {r' = s'} {s' = t'} from to) form =
      (Property t', property to, IsAtOrBelow.step s' t' (subst (λ n. IsAtOrBelow o asked p (Property n)) (sym at_s ∙ from) below) form)

  below_said : {p q : code_property.PropId2} {r : Property2} → code_below.IsAtOrBelow k.forms p q → SaysProperty b p r → (s : Property2) × SaysProperty b q s × IsAtOrBelow o asked r s
  below_said {r = r} code_below.same says = (r, says, IsAtOrBelow.same)
  below_said (code_below.step s t below there) says =
      let (q, says_q, below_q) = below_said below says in
      let (g, says_g, form) = h.each_form (forms.N5 s t) there in
      step_said s t says_q below_q g says_g form

  step_sayer : {p : code_property.PropId2} {s t : ℕ} (q : code_property.PropId2) → SaysProperty b q (Property s) → code_below.IsAtOrBelow k.forms p q → (f : code_form.Form) → Contains k.forms f → SaysForm b f (N5 s t)
      → (r : code_property.PropId2) × SaysProperty b r (Property t) × code_below.IsAtOrBelow k.forms p r
  step_sayer {p} q (property {p = s'} at_s) below f there (n5 {r = s''} {s = t'} from to) =
      (properties.Property t', property to, code_below.step s'' t' (subst (λ x. code_below.IsAtOrBelow k.forms p (properties.Property x)) (same_property at_s from) below) there)

  below_sayer : {p : code_property.PropId2} {r s : Property2} → IsAtOrBelow o asked r s → SaysProperty b p r → (q : code_property.PropId2) × SaysProperty b q s × code_below.IsAtOrBelow k.forms p q
  below_sayer {p = p} IsAtOrBelow.same says = (p, says, code_below.same)
  below_sayer (IsAtOrBelow.step s t below form) says =
      let (q, says_q, below_q) = below_sayer below says in
      let (f, there, says_f) = said_by (N5 s t) tt form in
      step_sayer q says_q below_q f there says_f

  -- a property over numbers is at or below another exactly where what the two say is so
  pub below_as : {p q : code_property.PropId2} {r s : Property2} → code_below.IsAtOrBelow k.forms p q → SaysProperty b p r → SaysProperty b q s → IsAtOrBelow o asked r s
  below_as {r = r} below says_p says_q =
      let (s', says_s, below_s) = below_said below says_p in
      subst (IsAtOrBelow o asked r) (property_one {b = b} says_s says_q) below_s

  pub below_by : {p q : code_property.PropId2} {r s : Property2} → IsAtOrBelow o asked r s → SaysProperty b p r → SaysProperty b q s → code_below.IsAtOrBelow k.forms p q
  below_by {p = p} below says_p says_q =
      let (q', says_s, below_q) = below_sayer below says_p in
      subst (code_below.IsAtOrBelow k.forms p) (property_same h says_s says_q) below_q

  -- ---- individuals that are one

  -- a form that links two over numbers makes one the two that they are
  link_said : (i j : IndId) (f : code_form.Form) → Links f i j → (g : Form) → SaysForm b f g → IsForm o asked g → AreSame o asked i.0 j.0
  link_said i j (forms.N10 a c) (inl (from, to)) g (n10 {i' = a'} {j' = c'} at_a at_c) form =
      let first : a' ≡ i.0 = sym (ap (λ (x : IndId). x.0) from ∙ at_a) in
      let second : c' ≡ j.0 = sym (ap (λ (x : IndId). x.0) to ∙ at_c) in
      AreSame.forth i.0 AreSame.itself (subst (λ n. IsForm o asked (N10 i.0 n)) second (subst (λ n. IsForm o asked (N10 n c')) first form))
  link_said i j (forms.N10 a c) (inr (from, to)) g (n10 {i' = a'} {j' = c'} at_a at_c) form =
      let first : a' ≡ j.0 = sym (ap (λ (x : IndId). x.0) to ∙ at_a) in
      let second : c' ≡ i.0 = sym (ap (λ (x : IndId). x.0) from ∙ at_c) in
      AreSame.back i.0 AreSame.itself (subst (λ n. IsForm o asked (N10 j.0 n)) second (subst (λ n. IsForm o asked (N10 n c')) first form))
  link_said i j _ link g says form = absurd link

  pub same_said : {i j : IndId} → numbered.AreSame k.forms i j → AreSame o asked i.0 j.0
  same_said numbered.itself = AreSame.itself
  same_said (numbered.step {j = j} m f same there link) =
      let (g, says, form) = h.each_form f there in
      and_then (same_said same) (link_said m j f link g says form)

  -- a form that says that two are one links their numbers
  link_sayer : (a c : ℕ) (f : code_form.Form) → SaysForm b f (N10 a c) → Links f (ind_id a) (ind_id c) × Links f (ind_id c) (ind_id a)
  link_sayer a c f (n10 at_a at_c) = (inl (ap ind_id (sym at_a), ap ind_id (sym at_c)), inr (ap ind_id (sym at_c), ap ind_id (sym at_a)))

  same_numbers : {a c : ℕ} → AreSame o asked a c → numbered.AreSame k.forms (ind_id a) (ind_id c)
  same_numbers AreSame.itself = numbered.itself
  same_numbers (AreSame.forth {b = c} d same form) =
      let (f, there, says) = said_by (N10 d c) tt form in
      numbered.step (ind_id d) f (same_numbers same) there (link_sayer d c f says).0
  same_numbers (AreSame.back {b = c} d same form) =
      let (f, there, says) = said_by (N10 c d) tt form in
      numbered.step (ind_id d) f (same_numbers same) there (link_sayer c d f says).1

  pub same_sayer : {i j : IndId} → AreSame o asked i.0 j.0 → numbered.AreSame k.forms i j
  same_sayer same = same_numbers same

  -- ---- each fact over numbers says a fact of the closure

  Said : code_fact.Fact → List Fact → Type 0
  Said f gs = (g : Fact) × SaysFact b f g × Gives o asked gs g

  SaidContext : code_context.Context → List Fact → Type 0
  SaidContext x gs = (y : Context) × SaysContext x y × IsContextBy o asked gs y

  context_by : {fs : List code_fact.Fact} {gs : List Fact} (x : code_context.Context) → numbered.IsContextBy k fs x → SayFacts b fs gs → SaidContext x gs
  unfolding SaidContext
  context_by x by no_facts =
      let (y, says, root) = h.each_root x by in
      (y, says, IsContextBy.root root)
  context_by x by (one_more (edge {x' = y} {y' = z} {r' = r} says_x says_r says_y) no_facts) =
      (z, subst (λ w. SaysContext w z) by says_y, IsContextBy.target y r)
  context_by x by (one_more (in_context says_a says_x) no_facts) = absurd by
  context_by x by (one_more says (one_more also rest)) = absurd by

  itself_said : {gs : List Fact} (e : ExprId) (y : Context) → SaysContext (contexts.Expr e) y → IsContextBy o asked gs y → Said (facts.In (classes.Expr e) (contexts.Expr e)) gs
  unfolding Said
  itself_said e y (expression {c = c} is) by = (In (Whole c) (Expression c), in_context (whole is) (expression is), Gives.in_itself by)

  from_none : (form : code_form.Form) (f : code_fact.Fact) → FromNone form f → (g : Form) → SaysForm b form g → IsForm o asked g → Said f []
  unfolding Said
  from_none (forms.N8 i a) f is g (n8 {i' = i'} {a' = a'} says_i says_a) form =
      (In a' (Individual i'), subst (λ x. SaysFact b x (In a' (Individual i'))) (sym is) (in_context says_a (individual says_i)), Gives.asserted form)
  from_none (forms.N9 i r j) f is g (n9 {i' = i'} {j' = j'} {r' = r'} says_i says_r says_j) form =
      let new : Fact = Edge (Individual i') (Property r') (Individual j') in
      (new, subst (λ x. SaysFact b x new) (sym is) (edge (individual says_i) (property says_r) (individual says_j)), Gives.asserted_edge form)
  from_none _ f is g says form = absurd is

  from_one : (form : code_form.Form) (first new : code_fact.Fact) → FromOne k form first new → (g : Form) → SaysForm b form g → IsForm o asked g → (f : Fact) → SaysFact b first f → Said new (f ∷ [])
  unfolding Said
  from_one (forms.N1 a c) (facts.In d x) new (same, is) g (n1 {a' = a'} {c' = c'} says_a says_c) form f (in_context {a' = d'} {x' = x'} says_d says_x) =
      let equal : a' ≡ d' = class_one {b = b} (subst (λ e. SaysClass b e a') (sym same) says_a) says_d in
      (In c' x', subst (λ y. SaysFact b y (In c' x')) (sym is) (in_context says_c says_x), Gives.subsumed d' (subst (λ e. IsForm o asked (N1 e c')) equal form))
  from_one (forms.N3 a r e) (facts.In d x) new (same, is) g (n3 {a' = a'} {r' = r'} {e' = e'} says_a says_r says_e) form f (in_context {a' = d'} {x' = x'} says_d says_x) =
      let equal : a' ≡ d' = class_one {b = b} (subst (λ c. SaysClass b c a') (sym same) says_a) says_d in
      let given' : Fact = Edge x' (Property r') (Expression e') in
      (given', subst (λ y. SaysFact b y given') (sym is) (edge says_x (property says_r) (expression says_e)), Gives.successor d' (subst (λ c. IsForm o asked (N3 c r' e')) equal form))
  from_one (forms.N12 i r j) (facts.Edge x q y) new (at_i, at_j, below, is) g (n12 {i' = i'} {j' = j'} {r' = r'} says_i says_r says_j) form f (edge {x' = x'} {y' = y'} {r' = q'} says_x says_q says_y) =
      let source_is : x' ≡ Individual i' = context_one says_x (subst (λ z. SaysContext z (Individual i')) (sym at_i) (individual says_i)) in
      let target_is : y' ≡ Individual j' = context_one says_y (subst (λ z. SaysContext z (Individual j')) (sym at_j) (individual says_j)) in
      let below' : IsAtOrBelow o asked q' (Property r') = below_as below says_q (property says_r) in (
        In (Whole nothing) x',
        subst (λ z. SaysFact b z (In (Whole nothing) x')) (sym is) (in_context (whole refl) says_x),
        subst (λ z. Gives o asked (Edge z q' y' ∷ []) (In (Whole nothing) z)) (sym source_is)
            (subst (λ z. Gives o asked (Edge (Individual i') q' z ∷ []) (In (Whole nothing) (Individual i'))) (sym target_is) (Gives.denied r' j' q' form below')),
      )
  from_one _ _ new is g says form f says_f = absurd is

  from_two : (form : code_form.Form) (first second new : code_fact.Fact) → FromTwo k form first second new → (g : Form) → SaysForm b form g → IsForm o asked g → (f l : Fact) → SaysFact b first f → SaysFact b second l → Said new (f ∷ l ∷ [])
  unfolding Said
  from_two (forms.N2 a c d) (facts.In e x) (facts.In j y) new (same_a, same_c, same_x, is) g (n2 {a' = a'} {c' = c'} {d' = d'} says_a says_c says_d) form f l (in_context {a' = e'} {x' = x'} says_e says_x) (in_context {a' = j'} {x' = y'} says_j says_y) =
      let first_is : a' ≡ e' = class_one {b = b} (subst (λ z. SaysClass b z a') (sym same_a) says_a) says_e in
      let second_is : c' ≡ j' = class_one {b = b} (subst (λ z. SaysClass b z c') (sym same_c) says_c) says_j in
      let context_is : x' ≡ y' = context_one says_x (subst (λ z. SaysContext z y') (sym same_x) says_y) in
      let form' : IsForm o asked (N2 e' j' d') = subst (λ z. IsForm o asked (N2 e' z d')) second_is (subst (λ z. IsForm o asked (N2 z c' d')) first_is form) in
      (In d' x', subst (λ z. SaysFact b z (In d' x')) (sym is) (in_context says_d says_x), subst (λ z. Gives o asked (In e' x' ∷ In j' z ∷ []) (In d' x')) context_is (Gives.both e' j' form'))
  from_two (forms.N4 r a c) (facts.Edge x q y) (facts.In d z) new (below, same_a, same_y, is) g (n4 {a' = a'} {c' = c'} {r' = r'} says_r says_a says_c) form f l (edge {x' = x'} {y' = y'} {r' = q'} says_x says_q says_y) (in_context {a' = d'} {x' = z'} says_d says_z) =
      let class_is : a' ≡ d' = class_one {b = b} (subst (λ w. SaysClass b w a') (sym same_a) says_a) says_d in
      let context_is : y' ≡ z' = context_one says_y (subst (λ w. SaysContext w z') (sym same_y) says_z) in
      let form' : IsForm o asked (N4 r' d' c') = subst (λ w. IsForm o asked (N4 r' w c')) class_is form in (
        In c' x',
        subst (λ w. SaysFact b w (In c' x')) (sym is) (in_context says_c says_x),
        subst (λ w. Gives o asked (Edge x' q' y' ∷ In d' w ∷ []) (In c' x')) context_is (Gives.predecessor r' d' q' y' form' (below_as below says_q (property says_r))),
      )
  from_two (forms.N6 r s t) (facts.Edge x p y) (facts.Edge z q w) new (below_r, below_s, same_y, is) g (n6 {r' = r'} {s' = s'} {t' = t'} says_r says_s says_t) form f l (edge {x' = x'} {y' = y'} {r' = p'} says_x says_p says_y) (edge {x' = z'} {y' = w'} {r' = q'} says_z says_q says_w) =
      let context_is : y' ≡ z' = context_one says_y (subst (λ v. SaysContext v z') (sym same_y) says_z) in
      let new' : Fact = Edge x' t' w' in (
        new',
        subst (λ v. SaysFact b v new') (sym is) (edge says_x says_t says_w),
        subst (λ v. Gives o asked (Edge x' p' y' ∷ Edge v q' w' ∷ []) new') context_is (Gives.chained r' s' p' q' y' form (below_as below_r says_p says_r) (below_as below_s says_q says_s)),
      )
  from_two _ _ _ new is g says form f l says_f says_l = absurd is

  concluded : {fs : List code_fact.Fact} {gs : List Fact} (form : code_form.Form) (new : code_fact.Fact) → Concludes k form fs new → SayFacts b fs gs → (g : Form) → SaysForm b form g → IsForm o asked g → Said new gs
  concluded form new is no_facts g says found = from_none form new is g says found
  concluded form new is (one_more {f = f} {g = l} says_f no_facts) g says found = from_one form f new is g says found l says_f
  concluded form new is (one_more {f = f} {g = l} says_f (one_more {f = e} {g = m} says_e no_facts)) g says found = from_two form f e new is g says found l m says_f says_e
  concluded form new is (one_more says_f (one_more says_e (one_more says_d rest))) g says found = absurd is

  carried : {fs : List code_fact.Fact} {gs : List Fact} (new : code_fact.Fact) → SayFacts b fs gs → CarriesBack fs new → Said new gs
  unfolding Said
  carried new no_facts is = absurd is
  carried new (one_more says no_facts) is = absurd is
  carried new (one_more says (one_more also (one_more more_says rest))) is = absurd is
  carried new (one_more (in_context _ _) (one_more also no_facts)) is = absurd is
  carried new (one_more (edge _ _ _) (one_more (edge _ _ _) no_facts)) is = absurd is
  carried new (one_more (edge {x' = x'} {y' = y'} {r' = r'} says_x says_r says_y) (one_more (in_context {a' = c'} {x' = z'} says_c says_z) no_facts)) (same_c, same_y, is) =
      let class_is : Whole nothing ≡ c' = class_one {b = b} (whole refl) (subst (λ w. SaysClass b w c') same_c says_c) in
      let context_is : y' ≡ z' = context_one says_y (subst (λ w. SaysContext w z') (sym same_y) says_z) in (
        In (Whole nothing) x',
        subst (λ w. SaysFact b w (In (Whole nothing) x')) (sym is) (in_context (whole refl) says_x),
        subst (λ w. Gives o asked (Edge x' r' y' ∷ In c' w ∷ []) (In (Whole nothing) x')) context_is
            (subst (λ c. Gives o asked (Edge x' r' y' ∷ In c y' ∷ []) (In (Whole nothing) x')) class_is (Gives.unsatisfiable r' y')),
      )

  looped : {gs : List Fact} (x : code_context.Context) (form : code_form.Form) (new : code_fact.Fact) → IsLoop x form new → (y : Context) → SaysContext x y → IsContextBy o asked gs y → (g : Form) → SaysForm b form g → IsForm o asked g → Said new gs
  unfolding Said
  looped x (forms.N7 r) new is y says_x by g (n7 {r' = r'} says_r) form =
      let loop' : Fact = Edge y (Property r') y in
      (loop', subst (λ w. SaysFact b w loop') (sym is) (edge says_x (property says_r) says_x), Gives.loop r' form by)
  looped x _ new is y says_x by g says form = absurd is

  handed_said : (form : code_form.Form) (old new : code_fact.Fact) → HandsOn form old new → (g : Form) → SaysForm b form g → IsForm o asked g → (f : Fact) → SaysFact b old f → Said new (f ∷ [])
  unfolding Said
  handed_said form _ _ (HandsOn.class {i = i} {j = j} link) g says form' f (in_context {a' = c'} says_c (individual {a = a} at_i)) =
      let same = link_said i j form link g says form' in
      (In c' (Individual j.0), in_context says_c (individual refl), Gives.same_class a (subst (λ n. AreSame o asked n j.0) at_i same))
  handed_said form _ _ (HandsOn.source {i = i} {j = j} link) g says form' f (edge {y' = y'} {r' = r'} (individual {a = a} at_i) says_r says_y) =
      let same = link_said i j form link g says form' in
      (Edge (Individual j.0) r' y', edge (individual refl) says_r says_y, Gives.same_source a (subst (λ n. AreSame o asked n j.0) at_i same))
  handed_said form _ _ (HandsOn.target {i = i} {j = j} link) g says form' f (edge {x' = x'} {r' = r'} says_x says_r (individual {a = a} at_i)) =
      let same = link_said i j form link g says form' in
      (Edge x' r' (Individual j.0), edge says_x says_r (individual refl), Gives.same_target a (subst (λ n. AreSame o asked n j.0) at_i same))

  different_said : (l : ℕ) (i j : IndId) → AreListedAt k.apart.individuals l i j → numbered.AreSame k.forms i j → Said (facts.In numbered.nothing (contexts.Individual i)) []
  unfolding Said
  different_said l i j at same =
      (In (Whole nothing) (Individual i.0), in_context (whole refl) (individual refl), Gives.different j.0 (h.each_different l i j at) (same_said same))

  -- two of a list of disjoint classes in one context
  two_apart : (l : ℕ) (c d : ExprId) (x : code_context.Context) → AreListedAt k.apart.classes l c d → (f e : Fact) → SaysFact b (facts.In (classes.Expr c) x) f → SaysFact b (facts.In (classes.Expr d) x) e
      → Said (facts.In numbered.nothing x) (f ∷ e ∷ [])
  unfolding Said
  two_apart l c d x at f e (in_context {a' = c'} {x' = x'} says_c says_x) (in_context {a' = d'} {x' = y'} says_d says_y) =
      let first_is : Whole c.0 ≡ c' = class_one {b = b} (whole refl) says_c in
      let second_is : Whole d.0 ≡ d' = class_one {b = b} (whole refl) says_d in
      let context_is : x' ≡ y' = context_one says_x says_y in
      let form : IsForm o asked (N2 c' d' (Whole nothing)) = subst (λ z. IsForm o asked (N2 c' z (Whole nothing))) second_is (subst (λ z. IsForm o asked (N2 z (Whole d.0) (Whole nothing))) first_is (h.each_disjoint l c d at)) in
      (In (Whole nothing) x', in_context (whole refl) says_x, subst (λ z. Gives o asked (In c' x' ∷ In d' z ∷ []) (In (Whole nothing) x')) context_is (Gives.both c' d' form))

  apart_said : {gs : List Fact} (l : ℕ) (u v : code_class.Class2) (x : code_context.Context) → AreDisjointAt k l u v → SayFacts b (facts.In u x ∷ facts.In v x ∷ []) gs → Said (facts.In numbered.nothing x) gs
  apart_said l u v x (c, d, is_c, is_d, at) (one_more {g = f} says_f (one_more {g = e} says_e no_facts)) =
      two_apart l c d x at f e (subst (λ z. SaysFact b (facts.In z x) f) is_c says_f) (subst (λ z. SaysFact b (facts.In z x) e) is_d says_e)

  given_said : {condition : ℕ} {place : Option ℕ} {fs : List code_fact.Fact} {gs : List Fact} (f : code_fact.Fact) → numbered.Gives k condition place fs f → SayFacts b fs gs → Said f gs
  unfolding Said SaidContext
  given_said f (numbered.in_thing {x = x} by) says =
      let (y, says_x, by') = context_by x by says in
      (In (Whole thing) y, in_context (whole refl) says_x, Gives.in_thing by')
  given_said f (numbered.in_itself {e = e} by) says =
      let (y, says_x, by') = context_by (contexts.Expr e) by says in
      itself_said e y says_x by'
  given_said f (numbered.by_form n form at concludes) says =
      let (g, says_g, found) = said_form n form at in
      concluded form f concludes says g says_g found
  given_said f (numbered.unsatisfiable back) says = carried f says back
  given_said f (numbered.loop x n form at is by) says =
      let (g, says_g, found) = said_form n form at in
      let (y, says_x, by') = context_by x by says in
      looped x form f is y says_x by' g says_g found
  given_said f (numbered.handed_on {g = old} n form at hands) (one_more {g = g} says no_facts) =
      let (form', says_form, found) = said_form n form at in
      handed_said form old f hands form' says_form found g says
  given_said f (numbered.different l i j at same) no_facts = different_said l i j at same
  given_said f (numbered.apart l u v x are) says = apart_said l u v x are says

  mutual
    unfolding Said

    pub said : (f : code_fact.Fact) → numbered.IsFact k f → (g : Fact) × SaysFact b f g × IsFact o asked g
    said f (numbered.given condition form older gives are) =
        let (gs, says, facts') = all_said older are in
        let (g, says_g, gives') = given_said f gives says in
        (g, says_g, given gs gives' facts')

    all_said : (fs : List code_fact.Fact) → numbered.AreFacts k fs → (gs : List Fact) × SayFacts b fs gs × AreFacts o asked gs
    all_said fs numbered.none = ([], no_facts, none)
    all_said fs (numbered.more {f = f} {facts = rest} fact rest_are) =
        let (g, says_g, fact') = said f fact in
        let (gs, says, facts') = all_said rest rest_are in
        (g ∷ gs, one_more says_g says, more fact' facts')

  -- ---- each fact of the closure is said by a fact over numbers

  -- a fact that says it is there where these are
  Sayer : List code_fact.Fact → Fact → Type 0
  Sayer fs g = (f : code_fact.Fact) × (numbered.AreFacts k fs → numbered.IsFact k f) × SaysFact b f g

  by_condition : {fs : List code_fact.Fact} {condition : ℕ} {place : Option ℕ} (f : code_fact.Fact) → numbered.Gives k condition place fs f → (g : Fact) → SaysFact b f g → Sayer fs g
  unfolding Sayer
  by_condition {fs = fs} {condition = condition} {place = place} f gives g says = (f, numbered.given condition place fs gives, says)

  context_from : {fs : List code_fact.Fact} {gs : List Fact} (y : Context) → IsContextBy o asked gs y → SayFacts b fs gs → (x : code_context.Context) × SaysContext x y × numbered.IsContextBy k fs x
  context_from y (IsContextBy.root root) no_facts =
      let (x, there, says) = h.all_roots y root in
      (x, says, there)
  context_from y (IsContextBy.target x r) (one_more (edge {y = y'} says_x says_r says_y) no_facts) = (y', says_y, refl)

  itself_sayer : (fs : List code_fact.Fact) (c : ℕ) (x : code_context.Context) → SaysContext x (Expression c) → numbered.IsContextBy k fs x → Sayer fs (In (Whole c) (Expression c))
  itself_sayer fs c x (expression {e = e} is) by = by_condition (facts.In (classes.Expr e) (contexts.Expr e)) (numbered.in_itself by) (In (Whole c) (Expression c)) (in_context (whole is) (expression is))

  place_of : (n : ℕ) (form : code_form.Form) → slice_get k.forms n ≡ Some form → (fs : List code_fact.Fact) (f : code_fact.Fact) → Concludes k form fs f → (g : Fact) → SaysFact b f g → Sayer fs g
  place_of n form at fs f is g says = by_condition f (numbered.by_form n form at is) g says

  asserted_by : (i : ℕ) (a : Class2) (n : ℕ) (form : code_form.Form) → slice_get k.forms n ≡ Some form → SaysForm b form (N8 i a) → Sayer [] (In a (Individual i))
  asserted_by i a n form at (n8 {i = i'} {a = a'} says_i says_a) = place_of n form at _ (facts.In a' (contexts.Individual i')) refl (In a (Individual i)) (in_context says_a (individual says_i))

  edge_asserted_by : (i r j : ℕ) (n : ℕ) (form : code_form.Form) → slice_get k.forms n ≡ Some form → SaysForm b form (N9 i r j) → Sayer [] (Edge (Individual i) (Property r) (Individual j))
  edge_asserted_by i r j n form at (n9 {i = i'} {j = j'} {r = r'} says_i says_r says_j) =
      place_of n form at _ (facts.Edge (contexts.Individual i') (properties.Property r') (contexts.Individual j')) refl (Edge (Individual i) (Property r) (Individual j))
      (edge (individual says_i) (property says_r) (individual says_j))

  subsumed_by : (a c : Class2) (x : Context) (n : ℕ) (form : code_form.Form) → slice_get k.forms n ≡ Some form → SaysForm b form (N1 a c) → (f : code_fact.Fact) → SaysFact b f (In a x) → Sayer (f ∷ []) (In c x)
  subsumed_by a c x n form at (n1 {c = c'} says_a says_c) f (in_context {x = x'} says_d says_x) =
      place_of n form at _ (facts.In c' x') (class_same h says_d says_a, refl) (In c x) (in_context says_c says_x)

  successor_by : (a : Class2) (r e : ℕ) (x : Context) (n : ℕ) (form : code_form.Form) → slice_get k.forms n ≡ Some form → SaysForm b form (N3 a r e) → (f : code_fact.Fact) → SaysFact b f (In a x) → Sayer (f ∷ []) (Edge x (Property r) (Expression e))
  successor_by a r e x n form at (n3 {r = r'} {e = e'} says_a says_r says_e) f (in_context {x = x'} says_d says_x) =
      place_of n form at _ (facts.Edge x' (properties.Property r') (contexts.Expr e')) (class_same h says_d says_a, refl) (Edge x (Property r) (Expression e)) (edge says_x (property says_r) (expression says_e))

  both_by : (a c d : Class2) (x : Context) (n : ℕ) (form : code_form.Form) → slice_get k.forms n ≡ Some form → SaysForm b form (N2 a c d) → (f l : code_fact.Fact) → SaysFact b f (In a x) → SaysFact b l (In c x) → Sayer (f ∷ l ∷ []) (In d x)
  both_by a c d x n form at (n2 {d = d'} says_a says_c says_d) f l (in_context {x = x'} says_e says_x) (in_context {x = y'} says_j says_y) =
      place_of n form at _ (facts.In d' x') (class_same h says_e says_a, class_same h says_j says_c, context_same says_x says_y, refl) (In d x) (in_context says_d says_x)

  predecessor_by : (r : ℕ) (a c : Class2) (q : Property2) (x y : Context) → IsAtOrBelow o asked q (Property r) → (n : ℕ) (form : code_form.Form) → slice_get k.forms n ≡ Some form → SaysForm b form (N4 r a c)
      → (f l : code_fact.Fact) → SaysFact b f (Edge x q y) → SaysFact b l (In a y) → Sayer (f ∷ l ∷ []) (In c x)
  predecessor_by r a c q x y below n form at (n4 {c = c'} says_r says_a says_c) f l (edge {x = x'} says_x says_q says_y) (in_context says_d says_z) =
      place_of n form at _ (facts.In c' x') (below_by below says_q (property says_r), class_same h says_d says_a, context_same says_y says_z, refl) (In c x) (in_context says_c says_x)

  chained_by : (r s t p q : Property2) (x y z : Context) → IsAtOrBelow o asked p r → IsAtOrBelow o asked q s → (n : ℕ) (form : code_form.Form) → slice_get k.forms n ≡ Some form → SaysForm b form (N6 r s t)
      → (f l : code_fact.Fact) → SaysFact b f (Edge x p y) → SaysFact b l (Edge y q z) → Sayer (f ∷ l ∷ []) (Edge x t z)
  chained_by r s t p q x y z below_r below_s n form at (n6 {t = t'} says_r says_s says_t) f l (edge {x = x'} says_x says_p says_y) (edge {y = z'} says_w says_q says_z) =
      place_of n form at _ (facts.Edge x' t' z') (below_by below_r says_p says_r, below_by below_s says_q says_s, context_same says_y says_w, refl) (Edge x t z) (edge says_x says_t says_z)

  carried_by : (r : Property2) (x y : Context) (f l : code_fact.Fact) → SaysFact b f (Edge x r y) → SaysFact b l (In (Whole nothing) y) → Sayer (f ∷ l ∷ []) (In (Whole nothing) x)
  carried_by r x y f l (edge {x = x'} says_x says_r says_y) (in_context says_c says_z) =
      by_condition (facts.In numbered.nothing x') (numbered.unsatisfiable (class_same h says_c (whole refl), context_same says_y says_z, refl)) (In (Whole nothing) x) (in_context (whole refl) says_x)

  looped_by : (fs : List code_fact.Fact) (r : ℕ) (y : Context) (x : code_context.Context) → SaysContext x y → numbered.IsContextBy k fs x → (n : ℕ) (form : code_form.Form) → slice_get k.forms n ≡ Some form → SaysForm b form (N7 r) → Sayer fs (Edge y (Property r) y)
  looped_by fs r y x says_x by n form at (n7 {r = r'} says_r) =
      by_condition (facts.Edge x (properties.Property r') x) (numbered.loop x n form at refl by) (Edge y (Property r) y) (edge says_x (property says_r) says_x)

  same_class_by : (a c : ℕ) (d : Class2) → AreSame o asked a c → (f : code_fact.Fact) → SaysFact b f (In d (Individual a)) → Sayer (f ∷ []) (In d (Individual c))
  unfolding Sayer
  same_class_by a c d same f (in_context {a = d'} says_d (individual {i = i} at_i)) = (
    facts.In d' (contexts.Individual (ind_id c)),
    λ are. class_handed_on k d' (same_sayer (subst (λ n. AreSame o asked n c) (sym at_i) same)) (only are),
    in_context says_d (individual refl),
  )

  same_source_by : (a c : ℕ) (r : Property2) (y : Context) → AreSame o asked a c → (f : code_fact.Fact) → SaysFact b f (Edge (Individual a) r y) → Sayer (f ∷ []) (Edge (Individual c) r y)
  unfolding Sayer
  same_source_by a c r y same f (edge {y = y'} {r = r'} (individual {i = i} at_i) says_r says_y) = (
    facts.Edge (contexts.Individual (ind_id c)) r' y',
    λ are. source_handed_on k r' y' (same_sayer (subst (λ n. AreSame o asked n c) (sym at_i) same)) (only are),
    edge (individual refl) says_r says_y,
  )

  same_target_by : (a c : ℕ) (x : Context) (r : Property2) → AreSame o asked a c → (f : code_fact.Fact) → SaysFact b f (Edge x r (Individual a)) → Sayer (f ∷ []) (Edge x r (Individual c))
  unfolding Sayer
  same_target_by a c x r same f (edge {x = x'} {r = r'} says_x says_r (individual {i = i} at_i)) = (
    facts.Edge x' r' (contexts.Individual (ind_id c)),
    λ are. target_handed_on k x' r' (same_sayer (subst (λ n. AreSame o asked n c) (sym at_i) same)) (only are),
    edge says_x says_r (individual refl),
  )

  -- what a list of disjoint classes gives by two of them
  listed_by : (l : ℕ) (c d : ExprId) → AreListedAt k.apart.classes l c d → (x : Context) (f e : code_fact.Fact) → SaysFact b f (In (Whole c.0) x) → SaysFact b e (In (Whole d.0) x) → Sayer (f ∷ e ∷ []) (In (Whole nothing) x)
  listed_by l c d at x f e (in_context {a = u} {x = x'} says_c says_x) (in_context {a = v} {x = y'} says_d says_y) =
      let gives : numbered.Gives k 14 (Some l) (facts.In u x' ∷ facts.In v x' ∷ []) (facts.In numbered.nothing x') =
      numbered.apart l u v x' (c, d, class_same h says_c (whole refl), class_same h says_d (whole refl), at) in
      by_condition (facts.In numbered.nothing x')
      (subst (λ z. numbered.Gives k 14 (Some l) (facts.In u x' ∷ facts.In v z ∷ []) (facts.In numbered.nothing x')) (context_same says_x says_y) gives)
      (In (Whole nothing) x) (in_context (whole refl) says_x)

  -- .. or a form does
  both_said : (a c d : Class2) (x : Context) → IsSaid b k (N2 a c d) → (f e : code_fact.Fact) → SaysFact b f (In a x) → SaysFact b e (In c x) → Sayer (f ∷ e ∷ []) (In d x)
  both_said a c d x (by_form form there says) f e says_f says_e =
      let (n, at) = slice_get-from_Contains k.forms form there in
      both_by a c d x n form at says f e says_f says_e
  both_said _ _ _ x (by_classes l c d at) f e says_f says_e = listed_by l c d at x f e says_f says_e

  different_by : (a c : ℕ) → AreSame o asked a c → IsSaid b k (N11 a c) → Sayer [] (In (Whole nothing) (Individual a))
  different_by a c same (by_form form there says) = elim says [ ]
  different_by _ _ same (by_individuals l i j at) =
      by_condition (facts.In numbered.nothing (contexts.Individual i)) (numbered.different l i j at (same_sayer same)) (In (Whole nothing) (Individual i.0)) (in_context (whole refl) (individual refl))

  denied_by : (a r c : ℕ) (q : Property2) → IsAtOrBelow o asked q (Property r) → (n : ℕ) (form : code_form.Form) → slice_get k.forms n ≡ Some form → SaysForm b form (N12 a r c)
      → (f : code_fact.Fact) → SaysFact b f (Edge (Individual a) q (Individual c)) → Sayer (f ∷ []) (In (Whole nothing) (Individual a))
  denied_by a r c q below n form at (n12 says_a says_r says_c) f (edge {x = x'} says_x says_q says_y) =
      place_of n form at _ (facts.In numbered.nothing x') (context_same says_x (individual says_a), context_same says_y (individual says_c), below_by below says_q (property says_r), refl) (In (Whole nothing) (Individual a)) (in_context (whole refl) says_x)

  given_by : {fs : List code_fact.Fact} {gs : List Fact} (g : Fact) → Gives o asked gs g → SayFacts b fs gs → Sayer fs g
  given_by g (Gives.in_thing {x = y} by) says =
      let (x, says_x, by') = context_from y by says in
      by_condition (facts.In numbered.thing x) (numbered.in_thing by') g (in_context (whole refl) says_x)
  given_by g (Gives.in_itself {e = c} by) says =
      let (x, says_x, by') = context_from (Expression c) by says in
      itself_sayer _ c x says_x by'
  given_by g (Gives.asserted {i = i} {a = a} form) no_facts =
      let (f, n, at, says_f) = form_at (N8 i a) tt form in
      asserted_by i a n f at says_f
  given_by g (Gives.asserted_edge {i = i} {r = r} {j = j} form) no_facts =
      let (f, n, at, says_f) = form_at (N9 i r j) tt form in
      edge_asserted_by i r j n f at says_f
  given_by g (Gives.subsumed {x = x} {b = c} a form) (one_more {f = e} says_e no_facts) =
      let (f, n, at, says_f) = form_at (N1 a c) tt form in
      subsumed_by a c x n f at says_f e says_e
  given_by g (Gives.both {x = x} {c = d} a c form) (one_more {f = e} says_e (one_more {f = l} says_l no_facts)) = both_said a c d x (h.all_forms (N2 a c d) form) e l says_e says_l
  given_by g (Gives.successor {x = x} {r = r} {b = c} a form) (one_more {f = e} says_e no_facts) =
      let (f, n, at, says_f) = form_at (N3 a r c) tt form in
      successor_by a r c x n f at says_f e says_e
  given_by g (Gives.predecessor {x = x} {b = c} r a q y form below) (one_more {f = e} says_e (one_more {f = l} says_l no_facts)) =
      let (f, n, at, says_f) = form_at (N4 r a c) tt form in
      predecessor_by r a c q x y below n f at says_f e l says_e says_l
  given_by g (Gives.unsatisfiable {x = x} r y) (one_more {f = e} says_e (one_more {f = l} says_l no_facts)) = carried_by r x y e l says_e says_l
  given_by g (Gives.chained {x = x} {z = z} {t = t} r s p q y form below below') (one_more {f = e} says_e (one_more {f = l} says_l no_facts)) =
      let (f, n, at, says_f) = form_at (N6 r s t) tt form in
      chained_by r s t p q x y z below below' n f at says_f e l says_e says_l
  given_by g (Gives.loop {x = y} r form by) says =
      let (f, n, at, says_f) = form_at (N7 r) tt form in
      let (x, says_x, by') = context_from y by says in
      looped_by _ r y x says_x by' n f at says_f
  given_by g (Gives.same_class {b = c} {c = d} a same) (one_more {f = f} says no_facts) = same_class_by a c d same f says
  given_by g (Gives.same_source {b = c} {r = r} {y = y} a same) (one_more {f = f} says no_facts) = same_source_by a c r y same f says
  given_by g (Gives.same_target {b = c} {r = r} {x = x} a same) (one_more {f = f} says no_facts) = same_target_by a c x r same f says
  given_by g (Gives.different {a = a} c form same) no_facts = different_by a c same (h.all_forms (N11 a c) form)
  given_by g (Gives.denied {a = a} r c q form below) (one_more {f = e} says_e no_facts) =
      let (f, n, at, says_f) = form_at (N12 a r c) tt form in
      denied_by a r c q below n f at says_f e says_e

  mutual
    unfolding Sayer

    pub sayer : (g : Fact) → IsFact o asked g → (f : code_fact.Fact) × numbered.IsFact k f × SaysFact b f g
    sayer g (given older gives are) =
        let (fs, facts', says) = all_sayers older are in
        let (f, fact', says_f) = given_by g gives says in
        (f, fact' facts', says_f)

    all_sayers : (gs : List Fact) → AreFacts o asked gs → (fs : List code_fact.Fact) × numbered.AreFacts k fs × SayFacts b fs gs
    all_sayers gs none = ([], numbered.none, no_facts)
    all_sayers gs (more {fact = g} {facts = rest} fact rest_are) =
        let (f, fact', says_f) = sayer g fact in
        let (fs, facts', says) = all_sayers rest rest_are in
        (f ∷ fs, numbered.more fact' facts', one_more says_f says)
