-- What leads to a fact that no form gave: of a context, or owl:Nothing from the target of an edge.
use Rattle.std.proofs.Common.{◌≡◌, ℕ, ◌<◌, List, [], ◌∷◌, ◌++◌, length, map, slice_get, get_or, Option, Some, None, Bool, true, false, ◌==◌, if◌then◌else◌, Contains, refl, sym, ap, ◌∙◌, subst, arith, eqb-true}
use Rattle.std.proofs.lemmas.List.{length-map}
use Rattle.std.proofs.lemmas.Option.{same_Some, none-some}
use Rattle.lemmas.proofs.Members.{Contains-first, Contains-later}
use Rattle.axioms.specs.Ontology.{Ontology}
use Rattle.axioms.specs.WellFormedness.{IsOntology}
use Rattle.axioms.specs.View.{at_number}
use Rattle.axioms.specs.declared.ids.ExprId.{ExprId}
use Rattle.certificate.specs.Certificate.{Expression, Conclusion, Sub, Line}
use Rattle.certificate.specs.declared.line.Rule.TheVariants.{K1, K2}
use Rattle.cert_check.specs.Derivation.{at_numbers}
use Rattle.cert_check.specs.Lines.{Follows, IsWalk}
use Rattle.closure.specs.Denotations.{Prefixes, SaysFact, edge, whole}
use Rattle.closure.specs.Closure as definition
use Rattle.exactness.proofs.Derivable.{conclusions}
use Rattle.engine.specs.Saturations.{Saturated, IsSaturated}
use Rattle.explain.proofs.Births.{born_by, heads, tails}
use Rattle.explain.proofs.Conclusions.{class_shown, edge_shown, showing_line}
use Rattle.explain.proofs.Used.{one_given, shows_those, used_from}
use Rattle.explain.proofs.Walking.{alone}
use Rattle.explain.proofs.Within.{fact_within}
use Rattle.explain.specs.ContextRule.{context_rule}
use Rattle.explain.specs.OlderFacts.{AreOlderShown, rests_on}
use Rattle.explain.specs.Uses.{EachIsUsed, IsAmong, IsAmongThose, NamesForm, ShowsOlder, Uses}
use Rattle.explain.specs.LinesOfFacts.{AreShowing, steps_of}
use Rattle.explain.specs.Step.{LeadTo, said_by, subject_in}
use Rattle.explain.specs.Walks.{LeadsToNothing}
use Rattle.facts.specs.Births.{Reason, numbers_of}
use Rattle.facts.specs.Closure.{Problem, Gives, in_thing, in_itself, by_form, unsatisfiable, loop, handed_on, different, apart, CarriesBack, IsContextBy, condition, nothing}
use Rattle.facts.specs.declared.births.Older as code_older
use Rattle.facts.specs.declared.births.Older.TheVariants as older
use Rattle.facts.specs.declared.births.FactId.{FactId}
use Rattle.facts.specs.declared.contexts.Context.{Context}
use Rattle.facts.specs.declared.contexts.Context.TheVariants as contexts
use Rattle.facts.specs.declared.contexts.Fact.{Fact}
use Rattle.facts.specs.declared.contexts.Fact.TheVariants.{In, Edge}
use Rattle.normal_forms.specs.declared.forms.Class2.TheVariants as classes
use Rattle.normal_forms.specs.declared.forms.Form.{Form}
use Rattle.normal_forms.specs.declared.forms.Form.TheVariants.{N1}
use Rattle.normal_forms.specs.declared.forms.PropId2.{PropId2}
use Rattle.number_sets.specs.Pieces.{list_at}
use Rattle.normalise.specs.Problem.{prefixes_of}

-- ---- what gave the fact

-- a form that gave a fact is there
pub gives_form : (k : Problem) {c : ℕ} {place : Option ℕ} {older : List Fact} {f : Fact} (m : ℕ) → NamesForm c → Gives k c place older f → place ≡ Some m → (form : Form) × (slice_get k.forms m ≡ Some form)
gives_form k m of_form (by_form n form at c) e = (form, ap (slice_get k.forms) (sym (same_Some n m e)) ∙ at)
gives_form k m of_form (loop x n form at is by) e = (form, ap (slice_get k.forms) (sym (same_Some n m e)) ∙ at)
gives_form k m of_form (handed_on n form at hands) e = (form, ap (slice_get k.forms) (sym (same_Some n m e)) ∙ at)
gives_form k m of_form (different l a b listed same) e = absurd (of_form.0 refl)
gives_form k m of_form (apart l a b x listed) e = absurd (of_form.1 refl)
gives_form k m of_form _ e = absurd (none-some m e)

-- an edge, and owl:Nothing at its target
pub record CarriesNothing (older : List Fact) (f : Fact) : Type 0 where
  pub source : Context
  pub step : PropId2
  pub target : Context
  pub older_are : older ≡ Edge source step target ∷ In nothing target ∷ []
  pub is : f ≡ In nothing source

not_eight : (form : Form) → condition form ≡ 8 → ⊥
not_eight (N1 _ _) e = omega arith
not_eight _ e = omega arith

carries_back : (older : List Fact) (f : Fact) → CarriesBack older f → CarriesNothing older f
carries_back (g ∷ h ∷ i ∷ more) f c = absurd c
carries_back (Edge x r y ∷ In d z ∷ []) f (class, target, is) = record {
  source = x;
  step = r;
  target = y;
  older_are = ap (λ e. Edge x r y ∷ In e z ∷ []) class ∙ ap (λ v. Edge x r y ∷ In nothing v ∷ []) (sym target);
  is = is;
}
carries_back _ f c = absurd c

gives_nothing : (k : Problem) {c : ℕ} {place : Option ℕ} {older : List Fact} {f : Fact} → Gives k c place older f → c ≡ 8 → CarriesNothing older f
gives_nothing k (by_form n form at c) e = absurd (not_eight form e)
gives_nothing k {older = older} {f = f} (unsatisfiable back) e = carries_back older f back
gives_nothing k _ e = absurd (omega arith)

-- owl:Thing, or the expression itself
lies_in : (o : Ontology) (e : ExprId) (x : Context) → subject_in x ≡ Expression e.0 → Follows o (context_rule (In (classes.Expr e) x)) [] None (Sub (subject_in x) e.0)
lies_in o e x is = go (e.0 == 0) (eqb-true e.0 0)
  where
    go : (b : Bool) → (b ≡ true → e.0 ≡ 0) → Follows o (if b then K2 else K1) [] None (Sub (subject_in x) e.0)
    go true h = h refl
    go false h = is

-- no two facts make a context
not_of_two : (k : Problem) (older : List Fact) (x : Context) → IsContextBy k older x → length older ≡ 2 → ⊥
not_of_two k [] x by two = absurd (omega arith)
not_of_two k (g ∷ []) x by two = absurd (omega arith)
not_of_two k (g ∷ h ∷ more) x by two = absurd by

gives_of_context : (o : Ontology) (k : Problem) {c : ℕ} {place : Option ℕ} {older : List Fact} {f : Fact} → Gives k c place older f → place ≡ None → (c ≡ 8 → ⊥)
    → (d : Conclusion) × (said_by f ≡ Some d) × Follows o (context_rule f) [] None d
gives_of_context o k (in_thing {x = x} by) e h = (Sub (subject_in x) 0, refl, refl)
gives_of_context o k (in_itself {e = e'} by) e h = (Sub (Expression e'.0) e'.0, refl, lies_in o e' (contexts.Expr e') refl)
gives_of_context o k (by_form n form at c) e h = absurd (none-some n (sym e))
gives_of_context o k (loop x n form at is by) e h = absurd (none-some n (sym e))
gives_of_context o k (handed_on n form at hands) e h = absurd (none-some n (sym e))
gives_of_context o k (different l a b listed same) e h = absurd (none-some l (sym e))
gives_of_context o k (apart l a b x listed) e h = absurd (none-some l (sym e))
gives_of_context o k (unsatisfiable back) e h = absurd (h refl)

condition_of_context : (k : Problem) {c : ℕ} {place : Option ℕ} {older : List Fact} {f : Fact} → Gives k c place older f → place ≡ None → (c ≡ 8 → ⊥) → c ≡ 1
condition_of_context k (in_thing by) e h = refl
condition_of_context k (in_itself by) e h = refl
condition_of_context k (by_form n form at c) e h = absurd (none-some n (sym e))
condition_of_context k (loop x n form at is by) e h = absurd (none-some n (sym e))
condition_of_context k (handed_on n form at hands) e h = absurd (none-some n (sym e))
condition_of_context k (different l a b listed same) e h = absurd (none-some l (sym e))
condition_of_context k (apart l a b x listed) e h = absurd (none-some l (sym e))
condition_of_context k (unsatisfiable back) e h = absurd (h refl)

-- two facts give one without a form only where owl:Nothing is carried
two_carry : (k : Problem) {c : ℕ} {place : Option ℕ} {older : List Fact} {f : Fact} → Gives k c place older f → place ≡ None → length older ≡ 2 → c ≡ 8
two_carry k {older = older} (in_thing {x = x} by) e two = absurd (not_of_two k older x by two)
two_carry k {older = older} (in_itself {e = e'} by) e two = absurd (not_of_two k older (contexts.Expr e') by two)
two_carry k (by_form n form at c) e two = absurd (none-some n (sym e))
two_carry k (loop x n form at is by) e two = absurd (none-some n (sym e))
two_carry k (handed_on n form at hands) e two = absurd (none-some n (sym e))
two_carry k (different l a b listed same) e two = absurd (none-some l (sym e))
two_carry k (apart l a b x listed) e two = absurd (none-some l (sym e))
two_carry k (unsatisfiable back) e two = refl

-- an edge is shown by a walk
walk_said : {b : Prefixes} {lines : List Line} {ns : List ℕ} {x y : Context} {r : PropId2} (g : definition.Fact) → SaysFact b (Edge x r y) g → AreShowing b lines ns (Edge x r y)
    → (rs : List ℕ) × (cs : List Conclusion) × (at_numbers (conclusions lines) ns ≡ Some cs) × IsWalk (subject_in x) rs (subject_in y) cs
walk_said g (edge {r' = r'} says_x says_r says_y) shown =
    let (cs, at, is_walk) = edge_shown says_r shown in
    (steps_of r', cs, at, is_walk)

walk_of_edge : {b : Prefixes} {lines : List Line} {ns : List ℕ} {x y : Context} {r : PropId2} → AreShowing b lines ns (Edge x r y) → (rs : List ℕ) × (cs : List Conclusion) × (at_numbers (conclusions lines) ns ≡ Some cs) × IsWalk (subject_in x) rs (subject_in y) cs
walk_of_edge shown = walk_said shown.fact shown.says shown

-- two facts gave it, where two are there
pub two_older : {X : Type 0} (o : code_older.Older) (xs : List X) (g h : X) → map (slice_get xs) (numbers_of o) ≡ map Some (g ∷ h ∷ []) → (x : FactId) × (y : FactId) × (o ≡ older.Two x y)
two_older older.None xs g h e = absurd cc
two_older (older.One x) xs g h e = absurd (let t = tails e in cc)
two_older (older.Two x y) xs g h e = (x, y, refl)

-- ---- of a saturation

module _ (o : Ontology) (s : Saturated) (saturated : IsSaturated o s) (n : ℕ) (r : Reason) (born : slice_get s.state.births n ≡ Some r) (f : Fact) (there : slice_get s.state.facts n ≡ Some f) where
  pub form_of_birth : (m : ℕ) → r.form ≡ Some m → NamesForm r.condition → (form : Form) × (slice_get s.state.problem.forms m ≡ Some form)
  form_of_birth m place of_form =
      let (older, at, gives) = born_by o s n r f saturated born there in
      gives_form s.state.problem m of_form gives place

  pub context_leads : IsOntology o → r.form ≡ None → (r.condition ≡ 8 → ⊥) → (lines : List Line) → LeadTo o (prefixes_of s.normal) lines (context_rule f) None [] f
  context_leads w place other lines =
      let (older, at, gives) = born_by o s n r f saturated born there in
      let (d, said, follows) = gives_of_context o s.state.problem gives place other in
      record {
        line = λ c is. record {
          within = record { conclusion = fact_within o s n f c w saturated there is; axiom' = tt };
          premises = [];
          premises_at = refl;
          follows = subst (Follows o (context_rule f) [] None) (same_Some d c (sym said ∙ is)) follows;
        };
        prefix = λ is. absurd (none-some d (sym is ∙ said));
      }

  -- of a context nothing is taken
  pub rests_on_none : r.form ≡ None → (r.condition ≡ 8 → ⊥) → rests_on s.normal.entries r ≡ []
  rests_on_none place other =
      let (older, at, gives) = born_by o s n r f saturated born there in
      subst (λ (c : ℕ). rests_on s.normal.entries (record r { condition = c }) ≡ []) (sym (condition_of_context s.state.problem gives place other)) refl

  -- where no form gave it, it was carried if two facts gave it
  pub two_are_carried : r.form ≡ None → (x y : ℕ) → r.older ≡ x ∷ y ∷ [] → r.condition ≡ 8
  two_are_carried place x y two =
      let (older, at, gives) = born_by o s n r f saturated born there in
      two_carry s.state.problem gives place (let many : length r.older ≡ length older = sym (length-map r.older (slice_get s.state.facts)) ∙ ap length at ∙ length-map older Some in omega (arith, ap length two))

  -- where owl:Nothing was carried over an edge
  pub record IsCarried : Type 0 where
    pub older : List Fact
    pub at : map (slice_get s.state.facts) r.older ≡ map Some older
    pub carries : CarriesNothing older f

  pub is_carried : r.condition ≡ 8 → IsCarried
  is_carried eight =
      let (older, at, gives) = born_by o s n r f saturated born there in
      record { older = older; at = at; carries = gives_nothing s.state.problem gives eight }

  -- all that gave it is taken
  rests_on_all : r.condition ≡ 8 → rests_on s.normal.entries r ≡ r.older
  rests_on_all eight = subst (λ (c : ℕ). rests_on s.normal.entries (record r { condition = c }) ≡ r.older) (sym eight) refl

  module _ (eight : r.condition ≡ 8) (lines : List Line) (shown : List (List ℕ)) (shows : AreOlderShown s lines shown n) (e d : ℕ) (two : r.older ≡ e ∷ d ∷ []) where
    there_each : let c = is_carried eight in map (slice_get s.state.facts) (e ∷ d ∷ []) ≡ map Some (Edge c.carries.source c.carries.step c.carries.target ∷ In nothing c.carries.target ∷ [])
    there_each =
        let c = is_carried eight in
        ap (map (slice_get s.state.facts)) (sym two) ∙ c.at ∙ ap (map Some) c.carries.older_are

    older_shown : (m : ℕ) (g : Fact) → Contains (e ∷ d ∷ []) m → slice_get s.state.facts m ≡ Some g → AreShowing (prefixes_of s.normal) lines (list_at shown m) g
    older_shown m g in_two at = shows r born m (subst (λ ns. Contains ns m) (sym (rests_on_all eight ∙ two)) in_two) g at

    edge_walk : let c = is_carried eight in (rs : List ℕ) × (cs : List Conclusion) × (at_numbers (conclusions lines) (list_at shown e) ≡ Some cs) × IsWalk (subject_in c.carries.source) rs (subject_in c.carries.target) cs
    edge_walk =
        let c = is_carried eight in
        walk_of_edge (older_shown e (Edge c.carries.source c.carries.step c.carries.target) (Contains-first e (d ∷ [])) (heads there_each))

    class_line : let c = is_carried eight in at_numbers (conclusions lines) (list_at shown d) ≡ Some (Sub (subject_in c.carries.target) 1 ∷ [])
    class_line =
        let c = is_carried eight in
        class_shown (whole refl) (older_shown d (In nothing c.carries.target) (Contains-later e d (d ∷ []) (Contains-first d [])) (heads (tails there_each)))

    pub some_end : (ends : List ℕ) → ends ≡ list_at shown d → 0 < length ends
    some_end ends is =
        let (n, only, at) = alone (conclusions lines) (list_at shown d) _ class_line in
        subst (λ ns. 0 < length ns) (sym (is ∙ only)) (omega arith)

    pub walk_leads : (walk ends : List ℕ) → walk ≡ list_at shown e → ends ≡ list_at shown d → LeadsToNothing lines walk (get_or ends 0 0) (subject_in (is_carried eight).carries.source)
    walk_leads walk ends walk_is ends_are =
        let c = is_carried eight in
        let (n, only, at) = alone (conclusions lines) (list_at shown d) (Sub (subject_in c.carries.target) 1) class_line in
        let (rs, cs, at_walk, is_walk) = edge_walk in
        record {
          target = subject_in c.carries.target;
          steps = rs;
          edges = cs;
          at = subst (λ ns. at_numbers (conclusions lines) ns ≡ Some cs) (sym walk_is) at_walk;
          is_walk = is_walk;
          at_end = subst (λ ns. at_number (conclusions lines) (get_or ns 0 0) ≡ Some (Sub (subject_in c.carries.target) 1)) (sym (ends_are ∙ only)) at;
        }

    pub carried_shown : (new : List Line) (number : ℕ) (numbers : List ℕ) → at_number (conclusions new) number ≡ Some (Sub (subject_in (is_carried eight).carries.source) 1) → numbers ≡ number ∷ [] → AreShowing (prefixes_of s.normal) new numbers f
    carried_shown new number numbers at are =
        let c = is_carried eight in
        subst (λ ns. AreShowing (prefixes_of s.normal) new ns f) (sym are)
        (showing_line f (Sub (subject_in c.carries.source) 1) (ap said_by c.carries.is) (rw (at) refl))

    pub carried_used : (new : List Line) (walk ends : List ℕ) (number : ℕ) (numbers : List ℕ) → walk ≡ list_at shown e → ends ≡ list_at shown d → numbers ≡ number ∷ []
        → Uses lines new (IsAmong (walk ++ get_or ends 0 0 ∷ [])) (number ∷ []) → EachIsUsed s shown n lines new numbers
    carried_used new walk ends number numbers walk_is ends_are are used =
        let c = is_carried eight in
        let (m, only, at) = alone (conclusions lines) (list_at shown d) (Sub (subject_in c.carries.target) 1) class_line in
        let one : ends ≡ get_or ends 0 0 ∷ [] = subst (λ ns. ns ≡ get_or ns 0 0 ∷ []) (sym (ends_are ∙ only)) refl in
        subst (λ ns. EachIsUsed s shown n lines new ns) (sym are)
        (used_from lines new (IsAmong (walk ++ get_or ends 0 0 ∷ [])) (ShowsOlder s shown n) (number ∷ [])
        (λ k h. one_given shown e d walk (get_or ends 0 0 ∷ []) walk_is (sym one ∙ ends_are) k (subst (λ ms. IsAmongThose shown ms k) (rests_on_all eight ∙ two) (shows_those s shown n r born k h))) used)
