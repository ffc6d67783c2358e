-- What the form of an axiom leads to: a line by the axiom's rule, or the lines that show a prefix.
use Rattle.std.proofs.Common.{◌≡◌, ℕ, ◌+◌, ◌<◌, inl, inr, List, [], ◌∷◌, ◌++◌, length, slice_get, slice_index, take, Option, Some, None, Contains, refl, sym, ap, ◌∙◌, subst, arith}
use Rattle.std.proofs.lemmas.List.{take_all}
use Rattle.std.proofs.lemmas.Option.{slice_get_within}
use Rattle.lemmas.proofs.Members.{Contains-from_slice_get}
use Rattle.lemmas.proofs.Places.{take_push}
use Rattle.axioms.specs.Ontology.{Ontology, Axiom, SubClass, EquivalentClasses, DisjointClasses, SubProperty, EquivalentProperties, Domain, Transitive, Reflexive, ClassAssertion, PropertyAssertion, SameIndividuals, DifferentIndividuals, NegativePropertyAssertion}
use Rattle.axioms.specs.declared.ids.ExprId.{ExprId}
use Rattle.axioms.specs.declared.ids.PropId.{PropId}
use Rattle.certificate.specs.Certificate.{Subject, Conclusion, Sub, Line}
use Rattle.certificate.specs.Certificate as line
use Rattle.cert_check.specs.Derivation.{at_numbers}
use Rattle.cert_check.specs.Lines.{IsWalk, Follows}
use Rattle.closure.specs.Denotations.{Prefixes, whole, SaysProperty, property, steps, SaysForm, n1, n2, n4, n5, n6, n7, n8, n9, n10, n12}
use Rattle.exactness.proofs.Derivable.{conclusions}
use Rattle.explain.proofs.Prefixes.{take_one, at_first}
use Rattle.explain.proofs.Births.{TakesByAxiom}
use Rattle.explain.proofs.Conclusions.{class_shown, edge_shown, property_shown, showing_edge, one_shown, two_shown, both_conclude}
use Rattle.explain.specs.FormRule.{axiom_rule}
use Rattle.explain.specs.Premises.{AreShowingEach, taken}
use Rattle.explain.specs.LinesOfFacts.{AreShowing, steps_of}
use Rattle.explain.specs.Step.{subject_in, said_by}
use Rattle.facts.specs.Closure.{Problem}
use Rattle.facts.specs.declared.contexts.Context.{Context}
use Rattle.facts.specs.declared.contexts.Context.TheVariants as contexts
use Rattle.facts.specs.declared.contexts.Fact.{Fact}
use Rattle.facts.specs.declared.contexts.Fact.TheVariants.{In, Edge}
use Rattle.normal_forms.specs.declared.forms.Class2 as code_class
use Rattle.normal_forms.specs.declared.forms.Class2.TheVariants as classes
use Rattle.normal_forms.specs.declared.forms.Form as code_form
use Rattle.normal_forms.specs.declared.forms.PropId2.{PropId2}
use Rattle.normal_forms.specs.declared.forms.PropId2.TheVariants as properties
use Rattle.normal_forms.specs.Forms.{Whole, Property, Steps, Property2, Form, N1, N2, N4, N5, N6, N7, N8, N9, N10, N11, N12, first_steps}
use Rattle.normal_forms.specs.Origins.{AxiomGives, CircleGives}

-- ---- chains

walk_joined : (x y z : Subject) (rs ss : List ℕ) (cs ds : List Conclusion) → IsWalk x rs y cs → IsWalk y ss z ds → IsWalk x (rs ++ ss) z (cs ++ ds)
walk_joined x y z [] ss [] ds e w = subst (λ u. IsWalk u ss z ds) (sym e) w
walk_joined x y z [] ss (c ∷ cs) ds v w = absurd v
walk_joined x y z (r ∷ rs) ss [] ds v w = absurd v
walk_joined x y z (r ∷ rs) ss (c ∷ cs) ds (u, is, v) w = (u, is, walk_joined u y z rs ss cs ds v w)

-- the steps before the last of a chain
steps_before : (rs : List ℕ) (s : Property2) (n : ℕ) → n < length rs → steps_of (first_steps rs s n) ≡ take n rs
steps_before rs s n l =
    at_first (λ (p : Property2). steps_of p ≡ take n rs) n (length rs) s (Property (slice_index rs 0)) (Steps (take n rs))
    (λ e. absurd (omega arith))
    (λ e. take_one rs n e l)
    refl

-- the steps before the last of a chain, and the last behind them
steps_with : (rs : List ℕ) (s : Property2) (n r : ℕ) → slice_get rs n ≡ Some r → steps_of (first_steps rs s n) ++ r ∷ [] ≡ take (n + 1) rs
steps_with rs s n r at = ap (λ ps. ps ++ r ∷ []) (steps_before rs s n (slice_get_within rs n r at)) ∙ sym (take_push rs n r at)

in_circle : (make : ℕ → ℕ → Form) (cs : List ℕ) (n : ℕ) (g : Form) (circle : CircleGives make cs n g) → Contains cs circle.0 × Contains cs circle.1
in_circle make cs n g (c, d, at, next, is) = (
  Contains-from_slice_get cs n c at,
  elim next [ inl k ↦ Contains-from_slice_get cs (n + 1) d k | inr k ↦ Contains-from_slice_get cs 0 d k.1 ],
)

module _ (o : Ontology) (b : Prefixes) (k : Problem) (lines : List Line) (numbers : List ℕ) where
  -- the lines of the numbers conclude these
  abbrev Conclude : List Conclusion → Type 0
  Conclude cs = at_numbers (conclusions lines) numbers ≡ Some cs

  -- from them the axiom's rule leads to what the fact says; a fact of a prefix they show
  abbrev pub Lead : Axiom → Option Conclusion → Fact → Type 0
  Lead a None f = AreShowing b lines numbers f
  Lead a (Some c) f = (cs : List Conclusion) × Conclude cs × Follows o (axiom_rule a) cs (Some a) c

  -- the lines show what the form takes from these facts
  abbrev Given : code_form.Form → List Fact → Fact → Type 0
  Given form older f = TakesByAxiom k form older f × AreShowingEach b lines numbers (taken form older)

  leads_to_class : (a : Axiom) (cs : List Conclusion) (x : Context) (e : ExprId) (f : Fact) → f ≡ In (classes.Expr e) x → Conclude cs → Follows o (axiom_rule a) cs (Some a) (Sub (subject_in x) e.0) → Lead a (said_by f) f
  leads_to_class a cs x e f is at follows = subst (λ g. Lead a (said_by g) g) (sym is) (cs, at, follows)

  leads_to_edge : (a : Axiom) (cs : List Conclusion) (x : Context) (r : PropId) (y : Context) (f : Fact) → f ≡ Edge x (properties.Property r) y → Conclude cs → Follows o (axiom_rule a) cs (Some a) (line.Edge (subject_in x) r.0 (subject_in y)) → Lead a (said_by f) f
  leads_to_edge a cs x r y f is at follows = subst (λ g. Lead a (said_by g) g) (sym is) (cs, at, follows)

  -- ---- the normal forms

  by_n1 : (c d : ℕ) (form : code_form.Form) → SaysForm b form (N1 (Whole c) (Whole d)) → (older : List Fact) (f : Fact) → Given form older f
      → (x : Context) × (e : ExprId) × (e.0 ≡ d) × (f ≡ In (classes.Expr e) x) × Conclude (Sub (subject_in x) c ∷ [])
  by_n1 c d form (n1 {a = a} says (whole {e = e} at)) (In z x ∷ []) f ((same, is), shown) =
      (x, e, at, is, class_shown says (one_shown (subst (λ (y : code_class.Class2). AreShowingEach b lines numbers (In y x ∷ [])) same shown)))
  by_n1 c d form (n1 says (whole at)) [] f (takes, shown) = absurd takes
  by_n1 c d form (n1 says (whole at)) (Edge _ _ _ ∷ []) f (takes, shown) = absurd takes
  by_n1 c d form (n1 says (whole at)) (g ∷ h ∷ []) f (takes, shown) = absurd takes
  by_n1 c d form (n1 says (whole at)) (g ∷ h ∷ i ∷ more) f (takes, shown) = absurd takes

  by_n2 : (c d c' : ℕ) (form : code_form.Form) → SaysForm b form (N2 (Whole c) (Whole d) (Whole c')) → (older : List Fact) (f : Fact) → Given form older f
      → (x : Context) × (e : ExprId) × (e.0 ≡ c') × (f ≡ In (classes.Expr e) x) × Conclude (Sub (subject_in x) c ∷ Sub (subject_in x) d ∷ [])
  by_n2 c d c' form (n2 {a = a} {c = a'} says_a says_c (whole {e = e} at)) (In z x ∷ In z' y ∷ []) f ((same_a, same_c, same_x, is), shown) =
      let (first, second, joined, shown_a, shown_c) = two_shown shown in
      let at_a = class_shown says_a (subst (λ (v : code_class.Class2). AreShowing b lines first (In v x)) same_a shown_a) in
      let at_c = class_shown says_c (subst (λ (v : code_class.Class2). AreShowing b lines second (In v x)) same_c (subst (λ (v : Context). AreShowing b lines second (In z' v)) (sym same_x) shown_c)) in
      (x, e, at, is, both_conclude lines numbers first second (Sub (subject_in x) c ∷ []) (Sub (subject_in x) d ∷ []) joined at_a at_c)
  by_n2 c d c' form (n2 says_a says_c (whole at)) [] f (takes, shown) = absurd takes
  by_n2 c d c' form (n2 says_a says_c (whole at)) (g ∷ []) f (takes, shown) = absurd takes
  by_n2 c d c' form (n2 says_a says_c (whole at)) (In _ _ ∷ Edge _ _ _ ∷ []) f (takes, shown) = absurd takes
  by_n2 c d c' form (n2 says_a says_c (whole at)) (Edge _ _ _ ∷ h ∷ []) f (takes, shown) = absurd takes
  by_n2 c d c' form (n2 says_a says_c (whole at)) (g ∷ h ∷ i ∷ more) f (takes, shown) = absurd takes

  by_n4 : (r c d : ℕ) (form : code_form.Form) → SaysForm b form (N4 r (Whole c) (Whole d)) → (older : List Fact) (f : Fact) → Given form older f
      → (x : Context) × (y : Context) × (e : ExprId) × (e.0 ≡ d) × (f ≡ In (classes.Expr e) x) × Conclude (line.Edge (subject_in x) r (subject_in y) ∷ [])
  by_n4 r c d form (n4 {a = a} {r = p} says_r says_a (whole {e = e} at)) older f ((x, q, y, only, below, is), shown) =
      (x, y, e, at, is, property_shown (property says_r) (one_shown (subst (λ (fs : List Fact). AreShowingEach b lines numbers (taken (code_form.TheVariants.N4 p a (classes.Expr e)) fs)) only shown)))

  by_n6 : (p' q' t' : Property2) (form : code_form.Form) → SaysForm b form (N6 p' q' t') → (older : List Fact) (f : Fact) → Given form older f
      → (x : Context) × (z : Context) × (t : PropId2) × SaysProperty b t t' × (f ≡ Edge x t z) × ((cs : List Conclusion) × Conclude cs × IsWalk (subject_in x) (steps_of p' ++ steps_of q') (subject_in z) cs)
  by_n6 p' q' t' form (n6 {r = r} {s = s} {t = t} says_r says_s says_t) (Edge x p y ∷ Edge v q z ∷ []) f ((below_r, below_s, same_y, is), shown) =
      let (first, second, joined, shown_r, shown_s) = two_shown shown in
      let (cs, at_r, walk_r) = edge_shown says_r shown_r in
      let (ds, at_s, walk_s) = edge_shown says_s (subst (λ (w : Context). AreShowing b lines second (Edge w s z)) (sym same_y) shown_s) in
      (x, z, t, says_t, is, (cs ++ ds, both_conclude lines numbers first second cs ds joined at_r at_s, walk_joined (subject_in x) (subject_in y) (subject_in z) (steps_of p') (steps_of q') cs ds walk_r walk_s))
  by_n6 p' q' t' form (n6 says_r says_s says_t) [] f (takes, shown) = absurd takes
  by_n6 p' q' t' form (n6 says_r says_s says_t) (g ∷ []) f (takes, shown) = absurd takes
  by_n6 p' q' t' form (n6 says_r says_s says_t) (In _ _ ∷ h ∷ []) f (takes, shown) = absurd takes
  by_n6 p' q' t' form (n6 says_r says_s says_t) (Edge _ _ _ ∷ In _ _ ∷ []) f (takes, shown) = absurd takes
  by_n6 p' q' t' form (n6 says_r says_s says_t) (g ∷ h ∷ i ∷ more) f (takes, shown) = absurd takes

  nothing_taken : (form : code_form.Form) (older : List Fact) → older ≡ [] → AreShowingEach b lines numbers (taken form older) → Conclude []
  nothing_taken form older e shown = subst (λ ns. at_numbers (conclusions lines) ns ≡ Some []) (sym (subst (λ (fs : List Fact). AreShowingEach b lines numbers (taken form fs)) e shown)) refl

  -- ---- the axioms

  by_chain : (rs : List ℕ) (s n r : ℕ) (x z : Context) (t : PropId2) (cs : List Conclusion) → 0 < n → slice_get rs n ≡ Some r → SaysProperty b t (first_steps rs (Property s) (n + 1)) → Conclude cs
      → IsWalk (subject_in x) (take (n + 1) rs) (subject_in z) cs → Lead (SubProperty rs s) (said_by (Edge x t z)) (Edge x t z)
  by_chain rs s n r x z t cs low at_n says at is_walk =
      let l : n < length rs = slice_get_within rs n r at_n in
      at_first (λ (p : Property2). SaysProperty b t p → Lead (SubProperty rs s) (said_by (Edge x t z)) (Edge x t z)) (n + 1) (length rs) (Property s) (Property (slice_index rs 0)) (Steps (take (n + 1) rs))
      (λ e. whole_chain t (omega arith) (subst (λ ps. IsWalk (subject_in x) ps (subject_in z) cs) (take_all (n + 1) rs (omega arith)) is_walk))
      (λ e. absurd (omega arith))
      (prefix_of_chain t)
      says
    where
      whole_chain : (t : PropId2) → 1 < length rs → IsWalk (subject_in x) rs (subject_in z) cs → SaysProperty b t (Property s) → Lead (SubProperty rs s) (said_by (Edge x t z)) (Edge x t z)
      whole_chain _ many walk (property is) = (cs, at, (many, walk, sym is))

      prefix_of_chain : (t : PropId2) → SaysProperty b t (Steps (take (n + 1) rs)) → Lead (SubProperty rs s) (said_by (Edge x t z)) (Edge x t z)
      prefix_of_chain _ (steps is) = showing_edge cs (steps is) at is_walk

  chain_leads : (rs : List ℕ) (s n r : ℕ) (form : code_form.Form) → 0 < n → slice_get rs n ≡ Some r → SaysForm b form (N6 (first_steps rs (Property s) n) (Property r) (first_steps rs (Property s) (n + 1))) → (older : List Fact) (f : Fact) → Given form older f → Lead (SubProperty rs s) (said_by f) f
  chain_leads rs s n r form low at_n says older f given =
      let (x, z, t, says_t, is, (cs, at, is_walk)) = by_n6 (first_steps rs (Property s) n) (Property r) (first_steps rs (Property s) (n + 1)) form says older f given in
      let walk = subst (λ ps. IsWalk (subject_in x) ps (subject_in z) cs) (steps_with rs (Property s) n r at_n) is_walk in
      subst (λ g. Lead (SubProperty rs s) (said_by g) g) (sym is) (by_chain rs s n r x z t cs low at_n says_t at walk)

  transitive_leads : (r : ℕ) (x z : Context) (t : PropId2) (cs : List Conclusion) → SaysProperty b t (Property r) → Conclude cs → IsWalk (subject_in x) (r ∷ r ∷ []) (subject_in z) cs → Lead (Transitive r) (said_by (Edge x t z)) (Edge x t z)
  transitive_leads r x z _ cs (property is) at is_walk = (cs, at, (is_walk, sym is))

  reflexive_leads : (r : ℕ) (form : code_form.Form) → SaysForm b form (N7 r) → (older : List Fact) (f : Fact) → Given form older f → Lead (Reflexive r) (said_by f) f
  reflexive_leads r form (n7 {r = p} says) older f ((x, none, is), shown) =
      leads_to_edge (Reflexive r) [] x p x f is (nothing_taken (code_form.TheVariants.N7 p) older none shown) (refl, sym says)

  no_plain : (r s : ℕ) (form : code_form.Form) → SaysForm b form (N5 r s) → (older : List Fact) (f : Fact) → Given form older f → ⊥
  no_plain r s form (n5 says_r says_s) older f (takes, shown) = takes

  assertion_leads : (c a : ℕ) (form : code_form.Form) → SaysForm b form (N8 a (Whole c)) → (older : List Fact) (f : Fact) → Given form older f → Lead (ClassAssertion c a) (said_by f) f
  assertion_leads c a form (n8 {i = i} says_i (whole {e = e} says)) [] f (is, shown) =
      leads_to_class (ClassAssertion c a) [] (contexts.Individual i) e f is (subst (λ ns. at_numbers (conclusions lines) ns ≡ Some []) (sym shown) refl) (ap line.Individual says_i, sym says)
  assertion_leads c a form (n8 says_i (whole says)) (g ∷ []) f (takes, shown) = absurd takes
  assertion_leads c a form (n8 says_i (whole says)) (g ∷ h ∷ []) f (takes, shown) = absurd takes
  assertion_leads c a form (n8 says_i (whole says)) (g ∷ h ∷ i ∷ more) f (takes, shown) = absurd takes

  edge_assertion_leads : (r i j : ℕ) (form : code_form.Form) → SaysForm b form (N9 i r j) → (older : List Fact) (f : Fact) → Given form older f → Lead (PropertyAssertion r i j) (said_by f) f
  edge_assertion_leads r i j form (n9 {i = x} {j = y} {r = p} says_i says_r says_j) [] f (is, shown) =
      leads_to_edge (PropertyAssertion r i j) [] (contexts.Individual x) p (contexts.Individual y) f is (subst (λ ns. at_numbers (conclusions lines) ns ≡ Some []) (sym shown) refl) (ap line.Individual says_i, sym says_r, ap line.Individual says_j)
  edge_assertion_leads r i j form (n9 says_i says_r says_j) (g ∷ []) f (takes, shown) = absurd takes
  edge_assertion_leads r i j form (n9 says_i says_r says_j) (g ∷ h ∷ []) f (takes, shown) = absurd takes
  edge_assertion_leads r i j form (n9 says_i says_r says_j) (g ∷ h ∷ e ∷ more) f (takes, shown) = absurd takes

  -- individuals that are one, or that differ, take no facts alone
  no_same : (i j : ℕ) (form : code_form.Form) → SaysForm b form (N10 i j) → (older : List Fact) (f : Fact) → Given form older f → ⊥
  no_same i j form (n10 says_i says_j) older f (takes, shown) = takes

  -- that individuals differ no form over numbers says
  no_different : (i j : ℕ) (form : code_form.Form) → SaysForm b form (N11 i j) → ⊥
  no_different i j form says = elim says [ ]

  denied_leads : (r i j : ℕ) (form : code_form.Form) → SaysForm b form (N12 i r j) → (older : List Fact) (f : Fact) → Given form older f → Lead (NegativePropertyAssertion r i j) (said_by f) f
  denied_leads r i j form (n12 {i = x} {j = y} {r = p} says_i says_r says_j) older f ((q, only, below, is), shown) =
      let edge : AreShowing b lines numbers (Edge (contexts.Individual x) (properties.Property p) (contexts.Individual y)) =
      one_shown (subst (λ (fs : List Fact). AreShowingEach b lines numbers (taken (code_form.TheVariants.N12 x p y) fs)) only shown) in
      leads_to_class (NegativePropertyAssertion r i j) (line.Edge (line.Individual x.0) r (line.Individual y.0) ∷ []) (contexts.Individual x) (record { 0 = 1 }) f is (property_shown (property says_r) edge)
      (ap line.Individual says_i, refl, ap line.Individual says_j, ap line.Individual says_i, refl)

  pub axiom_leads : (a : Axiom) (form : code_form.Form) (g : Form) → SaysForm b form g → AxiomGives a g → (older : List Fact) (f : Fact) → TakesByAxiom k form older f → AreShowingEach b lines numbers (taken form older) → Lead a (said_by f) f
  axiom_leads (SubClass c d) form g says gives older f takes shown =
      let (x, e, at_e, is, at) = by_n1 c d form (subst (SaysForm b form) gives says) older f (takes, shown) in
      leads_to_class (SubClass c d) (Sub (subject_in x) c ∷ []) x e f is at (refl, refl, at_e)
  axiom_leads (EquivalentClasses cs) form g says (n, circle) older f takes shown =
      let (c, d, at_c, next, made) = circle in
      let (there_c, there_d) = in_circle (λ c d. N1 (Whole c) (Whole d)) cs n g circle in
      let (x, e, at_e, is, at) = by_n1 c d form (subst (SaysForm b form) made says) older f (takes, shown) in
      leads_to_class (EquivalentClasses cs) (Sub (subject_in x) c ∷ []) x e f is at (refl, there_c, subst (Contains cs) (sym at_e) there_d)
  axiom_leads (DisjointClasses cs) form g says (m, (n, (c, d, low, at_c, at_d, made))) older f takes shown =
      let (x, e, at_e, is, at) = by_n2 c d 1 form (subst (SaysForm b form) made says) older f (takes, shown) in
      leads_to_class (DisjointClasses cs) (Sub (subject_in x) c ∷ Sub (subject_in x) d ∷ []) x e f is at (refl, refl, (m, n, (λ same. omega arith), at_c, at_d), at_e)
  axiom_leads (SubProperty rs s) form g says gives older f takes shown = elim gives [
    | inl (r, alone, made) ↦ absurd (no_plain r s form (subst (SaysForm b form) made says) older f (takes, shown))
    | inr (n, (r, low, at_n, made)) ↦ chain_leads rs s n r form low at_n (subst (SaysForm b form) made says) older f (takes, shown)
  ]
  axiom_leads (EquivalentProperties rs) form g says (n, (r, s, at_r, next, made)) older f takes shown = absurd (no_plain r s form (subst (SaysForm b form) made says) older f (takes, shown))
  axiom_leads (Domain r c) form g says gives older f takes shown =
      let (x, y, e, at_e, is, at) = by_n4 r 0 c form (subst (SaysForm b form) gives says) older f (takes, shown) in
      leads_to_class (Domain r c) (line.Edge (subject_in x) r (subject_in y) ∷ []) x e f is at (refl, refl, sym at_e)
  axiom_leads (Transitive r) form g says gives older f takes shown =
      let (x, z, t, says_t, is, (cs, at, is_walk)) = by_n6 (Property r) (Property r) (Property r) form (subst (SaysForm b form) gives says) older f (takes, shown) in
      subst (λ h. Lead (Transitive r) (said_by h) h) (sym is) (transitive_leads r x z t cs says_t at is_walk)
  axiom_leads (Reflexive r) form g says gives older f takes shown = reflexive_leads r form (subst (SaysForm b form) gives says) older f (takes, shown)
  axiom_leads (ClassAssertion c a) form g says gives older f takes shown = assertion_leads c a form (subst (SaysForm b form) gives says) older f (takes, shown)
  axiom_leads (PropertyAssertion r i j) form g says gives older f takes shown = edge_assertion_leads r i j form (subst (SaysForm b form) gives says) older f (takes, shown)
  axiom_leads (SameIndividuals xs) form g says (n, (i, j, at_i, at_j, made)) older f takes shown = absurd (no_same i j form (subst (SaysForm b form) made says) older f (takes, shown))
  axiom_leads (DifferentIndividuals xs) form g says (m, (n, (i, j, low, at_i, at_j, made))) older f takes shown = absurd (no_different i j form (subst (SaysForm b form) made says))
  axiom_leads (NegativePropertyAssertion r i j) form g says gives older f takes shown = denied_leads r i j form (subst (SaysForm b form) gives says) older f (takes, shown)
