-- What the form of an expression leads to: a line by K5, K6, K8 or K9, or the lines that show a prefix.
use Rattle.std.proofs.Common.{◌≡◌, ℕ, ◌+◌, ◌<◌, inl, inr, List, [], ◌∷◌, ◌++◌, length, map, slice_get, slice_index, take, Option, Some, None, Contains, refl, sym, ap, ap₂, ◌∙◌, subst, arith}
use Rattle.std.proofs.lemmas.List.{take_all, map-append}
use Rattle.std.proofs.lemmas.Option.{same_Some, none-some, slice_get_within}
use Rattle.lemmas.proofs.Places.{take_push}
use Rattle.axioms.specs.Ontology.{Ontology, Node, Class, And, Exists}
use Rattle.axioms.specs.declared.ids.ExprId.{ExprId}
use Rattle.certificate.specs.Certificate.{Conclusion, Sub, Line}
use Rattle.certificate.specs.Certificate as line
use Rattle.certificate.specs.Writability.{IsConclusionOf}
use Rattle.certificate.specs.declared.line.Rule.{Rule}
use Rattle.certificate.specs.declared.line.Rule.TheVariants.{K5, K6, K8, K9}
use Rattle.cert_check.specs.Derivation.{at_numbers}
use Rattle.cert_check.specs.Lines.{Follows}
use Rattle.closure.specs.Denotations.{Prefixes, SaysClass, whole, prefix, property, SaysForm, n1, n2, n3, n4}
use Rattle.exactness.proofs.Derivable.{conclusions}
use Rattle.explain.proofs.Prefixes.{take_one, at_first}
use Rattle.explain.proofs.Conclusions.{class_shown, property_shown, showing_class, one_shown, two_shown, both_conclude}
use Rattle.explain.specs.Premises.{AreShowingEach, TakesNoSame, taken}
use Rattle.explain.specs.LinesOfFacts.{AreShowing, operands_of}
use Rattle.explain.specs.FormRule.{expression_rule}
use Rattle.explain.specs.Step.{subject_in, said_by, LeadTo}
use Rattle.facts.specs.Closure.{Problem, Concludes}
use Rattle.facts.specs.declared.contexts.Context.{Context}
use Rattle.facts.specs.declared.contexts.Fact.{Fact}
use Rattle.facts.specs.declared.contexts.Fact.TheVariants.{In, Edge}
use Rattle.normal_forms.specs.declared.forms.Class2 as code_class
use Rattle.normal_forms.specs.declared.forms.Form as code_form
use Rattle.normal_forms.specs.declared.forms.Origin.TheVariants as origins
use Rattle.normal_forms.specs.Forms.{Class2, Whole, Prefix, Form, N1, N2, N3, N4, first_of}
use Rattle.normal_forms.specs.Origins.{RightGives, LeftGives, GivenBy}

-- ---- prefixes of intersections

-- the operands before one
operands_before : (ds : List ℕ) (e n : ℕ) → n < length ds → operands_of (first_of ds e n) ≡ take n ds
operands_before ds e n l =
    at_first (λ (c : Class2). operands_of c ≡ take n ds) n (length ds) (Whole e) (Whole (slice_index ds 0)) (Prefix (take n ds))
    (λ k. absurd (omega arith))
    (λ k. take_one ds n k l)
    refl

-- the operands before one, and that one behind them
operands_with : (ds : List ℕ) (e n d : ℕ) → slice_get ds n ≡ Some d → operands_of (first_of ds e n) ++ d ∷ [] ≡ take (n + 1) ds
operands_with ds e n d at = ap (λ cs. cs ++ d ∷ []) (operands_before ds e n (slice_get_within ds n d at)) ∙ sym (take_push ds n d at)

-- the form of an expression has one of four kinds
abbrev pub IsOfExpression : code_form.Form → Type 0
IsOfExpression (code_form.TheVariants.N1 _ _) = Unit {0}
IsOfExpression (code_form.TheVariants.N2 _ _ _) = Unit {0}
IsOfExpression (code_form.TheVariants.N3 _ _ _) = Unit {0}
IsOfExpression (code_form.TheVariants.N4 _ _ _) = Unit {0}
IsOfExpression _ = ⊥

pub expression_free : (form : code_form.Form) → IsOfExpression form → TakesNoSame form
expression_free (code_form.TheVariants.N10 _ _) kind = kind
expression_free _ kind = tt

-- what a line says of a whole class in a context, and of a prefix
said_whole : {b : Prefixes} {c : code_class.Class2} {d : ℕ} (x : Context) → SaysClass b c (Whole d) → said_by (In c x) ≡ Some (Sub (subject_in x) d)
said_whole x (whole is) = ap (λ n. Some (Sub (subject_in x) n)) is

said_prefix : {b : Prefixes} {c : code_class.Class2} {ds : List ℕ} (x : Context) → SaysClass b c (Prefix ds) → said_by (In c x) ≡ None
said_prefix x (prefix is) = refl

module _ (o : Ontology) (b : Prefixes) (k : Problem) (lines : List Line) (numbers : List ℕ) where
  -- the lines of the numbers conclude these
  abbrev Conclude : List Conclusion → Type 0
  Conclude cs = at_numbers (conclusions lines) numbers ≡ Some cs

  -- from them the rule leads to what the fact says; a fact of a prefix they show
  abbrev pub Lead : Rule → Option Conclusion → Fact → Type 0
  Lead rule None f = AreShowing b lines numbers f
  Lead rule (Some c) f = (cs : List Conclusion) × Conclude cs × Follows o rule cs None c

  -- the lines show what the form takes from the facts that give this one
  abbrev Given : code_form.Form → List Fact → Fact → Type 0
  Given form older f = Concludes k form older f × AreShowingEach b lines numbers (taken form older)

  -- ---- N1, from an intersection that occurs right

  right_and_leads : (e d : ℕ) (ds : List ℕ) (form : code_form.Form) → slice_get o.nodes e ≡ Some (And ds) → Contains ds d → SaysForm b form (N1 (Whole e) (Whole d)) → (older : List Fact) (f : Fact) → Given form older f → Lead (expression_rule form) (said_by f) f
  right_and_leads e d ds form node member (n1 {a = a} {c = c} says_a says_c) (In z x ∷ []) f ((same, is), shown) =
      let at = class_shown says_a (one_shown (subst (λ (y : code_class.Class2). AreShowingEach b lines numbers (In y x ∷ [])) same shown)) in
      subst (λ (g : Fact). Lead K6 (said_by g) g) (sym is)
      (rw (said_whole x says_c) (Sub (subject_in x) e ∷ [], at, (refl, ds, node, member)))
  right_and_leads e d ds form node member (n1 says_a says_c) [] f (con, shown) = absurd con
  right_and_leads e d ds form node member (n1 says_a says_c) (Edge _ _ _ ∷ []) f (con, shown) = absurd con
  right_and_leads e d ds form node member (n1 says_a says_c) (g ∷ h ∷ []) f (con, shown) = absurd con
  right_and_leads e d ds form node member (n1 says_a says_c) (g ∷ h ∷ i ∷ more) f (con, shown) = absurd con

  -- ---- N2, from an intersection that occurs left

  next_operand : (e n d : ℕ) (ds : List ℕ) (c : code_class.Class2) (x : Context) → slice_get o.nodes e ≡ Some (And ds) → 0 < n → slice_get ds n ≡ Some d → SaysClass b c (first_of ds e (n + 1)) → Conclude (map (Sub (subject_in x)) (take (n + 1) ds)) → Lead K5 (said_by (In c x)) (In c x)
  next_operand e n d ds c x node low at_n says at =
      let l : n < length ds = slice_get_within ds n d at_n in
      at_first (λ (a : Class2). SaysClass b c a → Lead K5 (said_by (In c x)) (In c x)) (n + 1) (length ds) (Whole e) (Whole (slice_index ds 0)) (Prefix (take (n + 1) ds))
      (λ k says_whole. (
      let all : take (n + 1) ds ≡ ds = take_all (n + 1) ds (omega arith) in
      rw (said_whole x says_whole) (map (Sub (subject_in x)) ds, rw (← all) at, (ds, node, refl))))
      (λ k. absurd (omega arith))
      (λ says_prefix. rw (said_prefix x says_prefix) (showing_class says_prefix at))
      says

  left_and_leads : (e n d : ℕ) (ds : List ℕ) (form : code_form.Form) → slice_get o.nodes e ≡ Some (And ds) → 0 < n → slice_get ds n ≡ Some d → SaysForm b form (N2 (first_of ds e n) (Whole d) (first_of ds e (n + 1))) → (older : List Fact) (f : Fact) → Given form older f → Lead (expression_rule form) (said_by f) f
  left_and_leads e n d ds form node low at_n (n2 {a = a} {c = a'} {d = c} says_a says_d says_c) (In z x ∷ In z' y ∷ []) f ((same_a, same_d, same_x, is), shown) =
      let (first, second, joined, shown_a, shown_d) = two_shown shown in
      let at_a = class_shown says_a (subst (λ (v : code_class.Class2). AreShowing b lines first (In v x)) same_a shown_a) in
      let at_d = class_shown says_d (subst (λ (v : code_class.Class2). AreShowing b lines second (In v x)) same_d (subst (λ (v : Context). AreShowing b lines second (In z' v)) (sym same_x) shown_d)) in
      let both = both_conclude lines numbers first second (map (Sub (subject_in x)) (operands_of (first_of ds e n))) (Sub (subject_in x) d ∷ []) joined at_a at_d in
      let at : Conclude (map (Sub (subject_in x)) (take (n + 1) ds)) = both ∙ ap Some (sym (map-append (Sub (subject_in x)) (operands_of (first_of ds e n)) (d ∷ [])) ∙ ap (map (Sub (subject_in x))) (operands_with ds e n d at_n)) in
      subst (λ (g : Fact). Lead K5 (said_by g) g) (sym is) (next_operand e n d ds c x node low at_n says_c at)
  left_and_leads e n d ds form node low at_n (n2 says_a says_d says_c) [] f (con, shown) = absurd con
  left_and_leads e n d ds form node low at_n (n2 says_a says_d says_c) (g ∷ []) f (con, shown) = absurd con
  left_and_leads e n d ds form node low at_n (n2 says_a says_d says_c) (Edge _ _ _ ∷ h ∷ []) f (con, shown) = absurd con
  left_and_leads e n d ds form node low at_n (n2 says_a says_d says_c) (In _ _ ∷ Edge _ _ _ ∷ []) f (con, shown) = absurd con
  left_and_leads e n d ds form node low at_n (n2 says_a says_d says_c) (g ∷ h ∷ i ∷ more) f (con, shown) = absurd con

  -- ---- N3, from an existential that occurs right

  right_some_leads : (e r c : ℕ) (form : code_form.Form) → slice_get o.nodes e ≡ Some (Exists r c) → SaysForm b form (N3 (Whole e) r c) → (older : List Fact) (f : Fact) → Given form older f → Lead (expression_rule form) (said_by f) f
  right_some_leads e r c form node (n3 {a = a} {r = p} {e = d} says_a says_r says_c) (In z x ∷ []) f ((same, is), shown) =
      let at = class_shown says_a (one_shown (subst (λ (y : code_class.Class2). AreShowingEach b lines numbers (In y x ∷ [])) same shown)) in
      subst (λ (g : Fact). Lead K8 (said_by g) g) (sym is)
      (Sub (subject_in x) e ∷ [], at, (refl, node ∙ ap₂ (λ s t. Some (Exists s t)) (sym says_r) (sym says_c)))
  right_some_leads e r c form node (n3 says_a says_r says_c) [] f (con, shown) = absurd con
  right_some_leads e r c form node (n3 says_a says_r says_c) (Edge _ _ _ ∷ []) f (con, shown) = absurd con
  right_some_leads e r c form node (n3 says_a says_r says_c) (g ∷ h ∷ []) f (con, shown) = absurd con
  right_some_leads e r c form node (n3 says_a says_r says_c) (g ∷ h ∷ i ∷ more) f (con, shown) = absurd con

  -- ---- N4, from an existential that occurs left

  left_some_leads : (e r c : ℕ) (form : code_form.Form) → slice_get o.nodes e ≡ Some (Exists r c) → SaysForm b form (N4 r (Whole c) (Whole e)) → (older : List Fact) (f : Fact) → Given form older f → Lead (expression_rule form) (said_by f) f
  left_some_leads e r c form node (n4 {a = a} {c = d} {r = p} says_r says_a says_d) (Edge x q y ∷ In z y' ∷ []) f ((below, same, same_y, is), shown) =
      let (first, second, joined, shown_r, shown_a) = two_shown shown in
      let at_r = property_shown (property says_r) shown_r in
      let at_a = class_shown says_a (subst (λ (v : code_class.Class2). AreShowing b lines second (In v y')) same shown_a) in
      let at = both_conclude lines numbers first second (line.Edge (subject_in x) r (subject_in y) ∷ []) (Sub (subject_in y') c ∷ []) joined at_r at_a in
      subst (λ (g : Fact). Lead K9 (said_by g) g) (sym is)
      (rw (said_whole x says_d) (line.Edge (subject_in x) r (subject_in y) ∷ Sub (subject_in y') c ∷ [], at, (refl, ap subject_in same_y, node)))
  left_some_leads e r c form node (n4 says_r says_a says_d) [] f (con, shown) = absurd con
  left_some_leads e r c form node (n4 says_r says_a says_d) (g ∷ []) f (con, shown) = absurd con
  left_some_leads e r c form node (n4 says_r says_a says_d) (In _ _ ∷ h ∷ []) f (con, shown) = absurd con
  left_some_leads e r c form node (n4 says_r says_a says_d) (Edge _ _ _ ∷ Edge _ _ _ ∷ []) f (con, shown) = absurd con
  left_some_leads e r c form node (n4 says_r says_a says_d) (g ∷ h ∷ i ∷ more) f (con, shown) = absurd con

  -- ---- the expressions

  right_leads : (e : ℕ) (node : Node) (form : code_form.Form) (g : Form) → slice_get o.nodes e ≡ Some node → SaysForm b form g → RightGives e node g → (older : List Fact) (f : Fact) → Given form older f → Lead (expression_rule form) (said_by f) f
  right_leads e (Class c) form g node says gives older f given = absurd gives
  right_leads e (And ds) form g node says (d, member, is) older f given = right_and_leads e d ds form node member (subst (SaysForm b form) is says) older f given
  right_leads e (Exists r c) form g node says is older f given = right_some_leads e r c form node (subst (SaysForm b form) is says) older f given

  left_leads : (e : ℕ) (node : Node) (form : code_form.Form) (g : Form) → slice_get o.nodes e ≡ Some node → SaysForm b form g → LeftGives e node g → (older : List Fact) (f : Fact) → Given form older f → Lead (expression_rule form) (said_by f) f
  left_leads e (Class c) form g node says gives older f given = absurd gives
  left_leads e (And ds) form g node says (n, (d, low, at_n, is)) older f given = left_and_leads e n d ds form node low at_n (subst (SaysForm b form) is says) older f given
  left_leads e (Exists r c) form g node says is older f given = left_some_leads e r c form node (subst (SaysForm b form) is says) older f given

  pub expression_leads : (asked : List ℕ) (e : ExprId) (form : code_form.Form) (g : Form) → SaysForm b form g → GivenBy o asked (origins.Expr e) g → (older : List Fact) (f : Fact) → Concludes k form older f → AreShowingEach b lines numbers (taken form older) → Lead (expression_rule form) (said_by f) f
  expression_leads asked e form g says (node, at, gives) older f con shown = elim gives [
    | inl right ↦ right_leads e.0 node form g at says right.1 older f (con, shown)
    | inr left ↦ left_leads e.0 node form g at says left.1 older f (con, shown)
  ]

  -- lines that lead by the rule to what the fact says lead to the fact, where what its line names is there
  pub leads_to : (rule : Rule) (f : Fact) → ((c : Conclusion) → said_by f ≡ Some c → IsConclusionOf o c) → Lead rule (said_by f) f → LeadTo o b lines rule None numbers f
  leads_to rule f within = go (said_by f) refl
    where
      go : (said : Option Conclusion) → said_by f ≡ said → Lead rule said f → LeadTo o b lines rule None numbers f
      go None is shown = record { line = λ c e. absurd (none-some c (sym is ∙ e)); prefix = λ e. shown }
      go (Some c) is (cs, at, follows) = record {
        line = λ d e. (
            let same : c ≡ d = same_Some c d (sym is ∙ e) in
            record {
              within = record { conclusion = within d e; axiom' = tt };
              premises = cs;
              premises_at = at;
              follows = subst (λ z. Follows o rule cs None z) same follows;
            });
        prefix = λ e. absurd (none-some c (sym e ∙ is));
      }

-- ---- the kinds of forms

right_kind : (b : Prefixes) (e : ℕ) (node : Node) (form : code_form.Form) (g : Form) → SaysForm b form g → RightGives e node g → IsOfExpression form
right_kind b e (Class c) form g says gives = absurd gives
right_kind b e (And ds) form g says (d, member, is) = go (subst (SaysForm b form) is says)
  where
    go : {d : ℕ} {form : code_form.Form} → SaysForm b form (N1 (Whole e) (Whole d)) → IsOfExpression form
    go (n1 says_a says_c) = tt
right_kind b e (Exists r c) form g says is = go (subst (SaysForm b form) is says)
  where
    go : {form : code_form.Form} → SaysForm b form (N3 (Whole e) r c) → IsOfExpression form
    go (n3 says_a says_r says_c) = tt

left_kind : (b : Prefixes) (e : ℕ) (node : Node) (form : code_form.Form) (g : Form) → SaysForm b form g → LeftGives e node g → IsOfExpression form
left_kind b e (Class c) form g says gives = absurd gives
left_kind b e (And ds) form g says (n, (d, low, at_n, is)) = go (subst (SaysForm b form) is says)
  where
    go : {x y z : Class2} {form : code_form.Form} → SaysForm b form (N2 x y z) → IsOfExpression form
    go (n2 says_a says_d says_c) = tt
left_kind b e (Exists r c) form g says is = go (subst (SaysForm b form) is says)
  where
    go : {form : code_form.Form} → SaysForm b form (N4 r (Whole c) (Whole e)) → IsOfExpression form
    go (n4 says_r says_a says_c) = tt

pub expression_kind : (o : Ontology) (asked : List ℕ) (b : Prefixes) (e : ExprId) (form : code_form.Form) (g : Form) → SaysForm b form g → GivenBy o asked (origins.Expr e) g → IsOfExpression form
expression_kind o asked b e form g says (node, at, gives) = elim gives [
  | inl right ↦ right_kind b e.0 node form g says right.1
  | inr left ↦ left_kind b e.0 node form g says left.1
]
