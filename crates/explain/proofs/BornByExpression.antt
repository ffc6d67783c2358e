-- What gave a fact by the form of an expression.
use Rattle.std.proofs.Common.{◌≡◌, ℕ, ◌<◌, List, [], ◌∷◌, map, length, slice_get, option_map, Option, Some, None, false, Contains, refl, sym, ap, ◌∙◌, subst}
use Rattle.std.proofs.lemmas.Option.{same_Some, none-some}
use Rattle.axioms.specs.Ontology.{Ontology}
use Rattle.axioms.specs.WellFormedness.{IsOntology}
use Rattle.axioms.specs.declared.ids.ExprId.{ExprId}
use Rattle.certificate.specs.Certificate.{Line}
use Rattle.engine.specs.Saturations.{Saturated, IsSaturated}
use Rattle.explain.proofs.Births.{born_by, same_each, each_there, none_named, other_hand, reason_of}
use Rattle.explain.proofs.ByExpression.{IsOfExpression, expression_free, expression_kind, expression_leads, leads_to}
use Rattle.explain.proofs.Within.{fact_within, form_said}
use Rattle.explain.specs.OlderFacts.{rests_on, by_axiom, is_by_axiom, is_axiom}
use Rattle.explain.specs.Premises.{AreShowingEach, LiftTo, taken}
use Rattle.explain.specs.Uses.{NamesForm}
use Rattle.explain.specs.FormRule.{expression_rule}
use Rattle.explain.specs.Step.{LeadTo}
use Rattle.facts.specs.Births.{Reason}
use Rattle.facts.specs.Closure.{Problem, Gives, by_form, loop, handed_on, different, apart, Concludes, HandsOn, IsLoop, condition}
use Rattle.facts.specs.declared.contexts.Context.{Context}
use Rattle.facts.specs.declared.contexts.Fact.{Fact}
use Rattle.facts.specs.declared.contexts.Fact.TheVariants.{In, Edge}
use Rattle.normal_forms.specs.declared.forms.Form.{Form}
use Rattle.normal_forms.specs.declared.forms.Form.TheVariants.{N1, N2, N3, N4}
use Rattle.normal_forms.specs.declared.forms.Origin.TheVariants as origins
use Rattle.normalise.specs.Entries.{form_in, origin_in}
use Rattle.normalise.specs.declared.entries.Entry.{Entry}
use Rattle.normalise.specs.Problem.{prefixes_of}

-- the facts give this one by the form, and its line rests on them all
pub record IsGivenBy (k : Problem) (entries : List Entry) (r : Reason) (form : Form) (older : List Fact) (f : Fact) : Type 0 where
  pub concludes : Concludes k form older f
  pub rests : rests_on entries r ≡ r.older

module _ (k : Problem) (entries : List Entry) (m : ℕ) (by : by_axiom entries (Some m) ≡ false) where
  concluded_by : (numbers : List ℕ) (older : List Fact) (form : Form) (f : Fact) → IsOfExpression form → Concludes k form older f → IsGivenBy k entries (reason_of (condition form) numbers (Some m)) form older f
  concluded_by numbers older (N1 a b) f kind c = record { concludes = c; rests = refl }
  concluded_by numbers older (N2 a b d) f kind c = record { concludes = c; rests = refl }
  concluded_by numbers older (N3 a r b) f kind c = record { concludes = c; rests = refl }
  concluded_by numbers older (N4 r a b) f kind c = record { concludes = c; rests = rw by refl }
  concluded_by numbers older _ f kind c = absurd kind

  no_loop : (x : Context) (form : Form) (f : Fact) → IsOfExpression form → IsLoop x form f → ⊥
  no_loop x (N1 a b) f kind l = l
  no_loop x (N2 a b d) f kind l = l
  no_loop x (N3 a r b) f kind l = l
  no_loop x (N4 r a b) f kind l = l
  no_loop x _ f kind l = kind

  -- no such form makes individuals one
  no_hand : (form : Form) {g f : Fact} → IsOfExpression form → HandsOn form g f → ⊥
  no_hand form kind hands = other_hand form (expression_free form kind) hands

  same_form : {n : ℕ} {form form' : Form} → Some n ≡ Some m → slice_get k.forms n ≡ Some form' → slice_get k.forms m ≡ Some form → form' ≡ form
  same_form {n} {form} {form'} e at there = same_Some form' form (sym at ∙ ap (slice_get k.forms) (same_Some n m e) ∙ there)

  given_by : {c : ℕ} {place : Option ℕ} {older : List Fact} {f : Fact} (numbers : List ℕ) (form : Form) → NamesForm c → Gives k c place older f → place ≡ Some m → slice_get k.forms m ≡ Some form → IsOfExpression form → IsGivenBy k entries (reason_of c numbers place) form older f
  given_by {older = older} {f = f} numbers form of_form (by_form n form' at_n c) e there kind =
      let same = same_form e at_n there in
      subst (λ (p : Option ℕ). IsGivenBy k entries (reason_of (condition form') numbers p) form older f) (sym e)
      (subst (λ g. IsGivenBy k entries (reason_of (condition form') numbers (Some m)) g older f) same (concluded_by numbers older form' f (subst IsOfExpression (sym same) kind) c))
  given_by {f = f} numbers form of_form (loop x n form' at_n is by') e there kind =
      absurd (no_loop x form f kind (subst (λ g. IsLoop x g f) (same_form e at_n there) is))
  given_by numbers form of_form (handed_on n form' at_n hands) e there kind = absurd (no_hand form' (subst IsOfExpression (sym (same_form e at_n there)) kind) hands)
  given_by numbers form of_form (different l a b listed same) e there kind = absurd (of_form.0 refl)
  given_by numbers form of_form (apart l a b x listed) e there kind = absurd (of_form.1 refl)
  given_by numbers form of_form _ e there kind = absurd (none-some m e)

-- each edge is lifted to the property of the form
lifts : (k : Problem) (form : Form) (older : List Fact) (f : Fact) → IsOfExpression form → Concludes k form older f → LiftTo k.forms form older
lifts k (N1 a b) older f kind c = none_named k.forms (N1 a b) older refl refl
lifts k (N2 a b d) older f kind c = none_named k.forms (N2 a b d) older refl refl
lifts k (N3 a r b) older f kind c = none_named k.forms (N3 a r b) older refl refl
lifts k (N4 r a b) [] f kind c = tt
lifts k (N4 r a b) (g ∷ []) f kind c = absurd c
lifts k (N4 r a b) (In _ _ ∷ h ∷ []) f kind c = absurd c
lifts k (N4 r a b) (Edge _ _ _ ∷ Edge _ _ _ ∷ []) f kind c = absurd c
lifts k (N4 r a b) (Edge x q y ∷ In d z ∷ []) f kind c = (c.0, tt)
lifts k (N4 r a b) (g ∷ h ∷ i ∷ more) f kind c = absurd c
lifts k _ older f kind c = absurd kind

-- what is known of a fact that the form of an expression gave
pub record IsBornByExpression (o : Ontology) (s : Saturated) (r : Reason) (form : Form) (f : Fact) : Type 0 where
  -- its line rests on all older facts that gave it
  pub rests : rests_on s.normal.entries r ≡ r.older
  pub there : (p : ℕ) → Contains r.older p → p < length s.state.facts
  pub lift : (fs : List Fact) → map (slice_get s.state.facts) r.older ≡ map Some fs → LiftTo s.state.problem.forms form fs
  -- lines that show these lead to it
  pub lead_to : (lines : List Line) (numbers : List ℕ) → ((fs : List Fact) → map (slice_get s.state.facts) r.older ≡ map Some fs → AreShowingEach (prefixes_of s.normal) lines numbers (taken form fs)) → LeadTo o (prefixes_of s.normal) lines (expression_rule form) None numbers f

is_by_expression : (e : ExprId) (entry : Option Entry) → option_map origin_in entry ≡ Some (origins.Expr e) → is_by_axiom entry ≡ false
is_by_expression e None h = absurd (none-some (origins.Expr e) h)
is_by_expression e (Some entry) h = ap is_axiom (same_Some entry.origin (origins.Expr e) h)

module _ (o : Ontology) (s : Saturated) (w : IsOntology o) (saturated : IsSaturated o s) (n : ℕ) (r : Reason) (born : slice_get s.state.births n ≡ Some r) (f : Fact) (there : slice_get s.state.facts n ≡ Some f) where
  -- the fact is born by the expression
  pub born_by_expression : (m : ℕ) (e : ExprId) (form : Form) → r.form ≡ Some m → NamesForm r.condition → option_map origin_in (slice_get s.normal.entries m) ≡ Some (origins.Expr e) → slice_get (map form_in s.normal.entries) m ≡ Some form → IsBornByExpression o s r form f
  born_by_expression m e form place of_form origin at_entries =
      let b = prefixes_of s.normal in
      let at = subst (λ (fs : List Form). slice_get fs m ≡ Some form) (sym saturated.forms) at_entries in
      let (g, says, given) = form_said o s.normal m form (origins.Expr e) saturated.normal at_entries origin in
      let kind = expression_kind o s.normal.asked b e form g says given in
      let (older, at_older, from) = born_by o s n r f saturated born there in
      let is = given_by s.state.problem s.normal.entries m (is_by_expression e (slice_get s.normal.entries m) origin) r.older form of_form from place at kind in
      record {
        rests = is.rests;
        there = λ p member. each_there s.state.facts r.older older p at_older member;
        lift = λ fs at_fs. subst (LiftTo s.state.problem.forms form) (same_each older fs (sym at_older ∙ at_fs)) (lifts s.state.problem form older f kind is.concludes);
        lead_to = λ lines numbers shown. leads_to o b s.state.problem lines numbers (expression_rule form) f (λ c e. fact_within o s n f c w saturated there e)
            (expression_leads o b s.state.problem lines numbers s.normal.asked e form g says given older f is.concludes (shown older at_older));
      }
