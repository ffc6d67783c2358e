-- What is known of a fact that a form of two classes gave.
use Rattle.std.proofs.Common.{◌≡◌, ℕ, List, [], ◌∷◌, map, slice_get, option_map, Option, Some, None, Contains, inl, inr, refl, sym, ap, ◌∙◌, subst, arith}
use Rattle.std.proofs.lemmas.List.{append-nil}
use Rattle.std.proofs.lemmas.Option.{same_Some}
use Rattle.axioms.specs.Ontology.{Ontology, Axiom, SubClass, EquivalentClasses, DisjointClasses, SubProperty, EquivalentProperties, SameIndividuals, DifferentIndividuals}
use Rattle.axioms.specs.WellFormedness.{IsOntology}
use Rattle.certificate.specs.Certificate.{Line}
use Rattle.certificate.specs.declared.line.Rule.{Rule}
use Rattle.certificate.specs.declared.line.Rule.TheVariants.{K4}
use Rattle.closure.specs.Denotations.{Prefixes, SaysForm, n1}
use Rattle.engine.specs.Saturations.{Saturated, IsSaturated}
use Rattle.facts.specs.Births.{Reason, numbers_of}
use Rattle.facts.specs.declared.births.FactId.{FactId}
use Rattle.facts.specs.declared.births.Older as code_older
use Rattle.facts.specs.declared.births.Older.TheVariants as older
use Rattle.lemmas.proofs.Members.{Contains-first}
use Rattle.facts.specs.Closure.{Problem, Concludes, Gives, by_form}
use Rattle.facts.specs.declared.contexts.Fact.{Fact}
use Rattle.normal_forms.specs.Forms as definition
use Rattle.normal_forms.specs.Origins.{AxiomGives}
use Rattle.normal_forms.specs.declared.forms.Class2.{Class2}
use Rattle.normal_forms.specs.declared.forms.Form.{Form}
use Rattle.normal_forms.specs.declared.forms.Form.TheVariants.{N1}
use Rattle.normal_forms.specs.declared.forms.Origin.{Origin}
use Rattle.normal_forms.specs.declared.forms.Origin.TheVariants as origins
use Rattle.normalise.specs.Entries.{form_in, origin_in}
use Rattle.normalise.specs.Problem.{prefixes_of}
use Rattle.explain.specs.FormRule.{axiom_rule, inclusion_rule, origin_rule, stated_rule}
use Rattle.explain.specs.OlderFacts.{rests_on}
use Rattle.explain.specs.LinesOfFacts.{AreShowing}
use Rattle.explain.specs.Premises.{AreShowingEach, taken}
use Rattle.explain.specs.Uses.{NamesForm}
use Rattle.explain.proofs.Births.{born_by, heads}
use Rattle.explain.proofs.Sameness.{one_older}
use Rattle.explain.proofs.ByForm.{IsLedTo, LeadsBy, led_to}
use Rattle.explain.proofs.Within.{form_said}

-- ---- the rule

abbrev IsInclusion : definition.Form → Type 0
IsInclusion (definition.N1 a b) = Unit {0}
IsInclusion _ = ⊥

said_inclusion : (b : Prefixes) (x y : Class2) (g : definition.Form) → SaysForm b (N1 x y) g → IsInclusion g
said_inclusion b x y g (n1 says_x says_y) = tt

-- an axiom that gives a form of two classes says that one is below the other
axiom_of_inclusion : (a : Axiom) (g : definition.Form) → IsInclusion g → AxiomGives a g → axiom_rule a ≡ K4
axiom_of_inclusion (SubClass c d) g is gives = refl
axiom_of_inclusion (EquivalentClasses cs) g is gives = refl
axiom_of_inclusion (DisjointClasses cs) g is (m, (n, (c, d, low, at_c, at_d, made))) = absurd (subst IsInclusion made is)
axiom_of_inclusion (SubProperty rs s) g is gives = elim gives [
  | inl (r, alone, made) ↦ absurd (subst IsInclusion made is)
  | inr (n, (r, low, at_n, made)) ↦ absurd (subst IsInclusion made is)
]
axiom_of_inclusion (EquivalentProperties rs) g is (n, (r, s, at_r, next, made)) = absurd (subst IsInclusion made is)
axiom_of_inclusion (SameIndividuals xs) g is (n, (i, j, at_i, at_j, made)) = absurd (subst IsInclusion made is)
axiom_of_inclusion (DifferentIndividuals xs) g is (m, (n, (i, j, low, at_i, at_j, made))) = absurd (subst IsInclusion made is)
axiom_of_inclusion _ g is gives = absurd (subst IsInclusion gives is)

-- so the rule is told without the axiom
pub rule_of_inclusion : (o : Ontology) (s : Saturated) → IsSaturated o s → (m : ℕ) (x y : Class2) → slice_get s.state.problem.forms m ≡ Some (N1 x y)
    → origin_rule o (option_map origin_in (slice_get s.normal.entries m)) (N1 x y) ≡ inclusion_rule (option_map origin_in (slice_get s.normal.entries m))
rule_of_inclusion o s saturated m x y at_form = go (option_map origin_in (slice_get s.normal.entries m)) refl
  where
    at_entries : slice_get (map form_in s.normal.entries) m ≡ Some (N1 x y)
    at_entries = ap (λ (fs : List Form). slice_get fs m) (sym saturated.forms) ∙ at_form

    go : (by : Option Origin) → option_map origin_in (slice_get s.normal.entries m) ≡ by → origin_rule o by (N1 x y) ≡ inclusion_rule by
    go None is = refl
    go (Some (origins.Expr e)) is = refl
    go (Some (origins.Axiom number)) is =
        let (g, says, (a, stated, gives)) = form_said o s.normal m (N1 x y) (origins.Axiom number) saturated.normal at_entries is in
        ap (λ (found : Option Axiom). stated_rule found number (N1 x y)) stated
        ∙ ap (λ (rule : Rule). (rule, Some number)) (axiom_of_inclusion a g (said_inclusion (prefixes_of s.normal) x y g says) gives)

-- ---- the form and the fact

-- the form is of two classes, and gives the fact from that one
record IsGiven (k : Problem) (m : ℕ) (older : List Fact) : Type 0 where
  lower : Class2
  upper : Class2
  at : slice_get k.forms m ≡ Some (N1 lower upper)
  fact : Fact
  only : older ≡ fact ∷ []

given_one : (k : Problem) (m : ℕ) (x y : Class2) (older : List Fact) (f : Fact) → slice_get k.forms m ≡ Some (N1 x y) → Concludes k (N1 x y) older f → IsGiven k m older
given_one k m x y (g ∷ h ∷ i ∷ more) f at c = absurd c
given_one k m x y (g ∷ []) f at c = record { lower = x; upper = y; at = at; fact = g; only = refl }
given_one k m x y _ f at c = absurd c

-- what gives a fact by that condition
is_given : (k : Problem) (c : ℕ) (place : Option ℕ) (older : List Fact) (f : Fact) → Gives k c place older f → c ≡ 4 → (m : ℕ) → place ≡ Some m → IsGiven k m older
is_given k c place older f (by_form n (N1 x y) at concludes) e m p = given_one k m x y older f (subst (λ z. slice_get k.forms z ≡ Some (N1 x y)) (same_Some n m p) at) concludes
is_given k c place older f _ e m p = absurd (omega (arith, e))

-- ---- the line

-- lines of one fact are what the line takes
shown_alone : (b : Prefixes) (lines : List Line) (numbers : List ℕ) (facts : List Fact) (x y : Class2) (n : ℕ) (fs : List Fact) → map (slice_get facts) (n ∷ []) ≡ map Some fs
    → ((g : Fact) → slice_get facts n ≡ Some g → AreShowing b lines numbers g) → AreShowingEach b lines numbers (taken (N1 x y) fs)
shown_alone b lines numbers facts x y n [] at showing = absurd cc
shown_alone b lines numbers facts x y n (g ∷ []) at showing = (numbers, [], sym (append-nil numbers), showing g (heads at), refl)
shown_alone b lines numbers facts x y n (g ∷ h ∷ more) at showing = absurd cc

module _ (o : Ontology) (s : Saturated) (w : IsOntology o) (saturated : IsSaturated o s) (n : ℕ) (r : Reason) (born : slice_get s.state.births n ≡ Some r) (f : Fact) (there : slice_get s.state.facts n ≡ Some f)
    (m : ℕ) (place : r.form ≡ Some m) (inclusion : r.condition ≡ 4) (o' : code_older.Older) (older_is : numbers_of o' ≡ r.older) where
  given : (older : List Fact) × (map (slice_get s.state.facts) r.older ≡ map Some older) × IsGiven s.state.problem m older
  given =
      let (older, at_older, gives) = born_by o s n r f saturated born there in
      (older, at_older, is_given s.state.problem r.condition r.form older f gives inclusion m place)

  names_form : NamesForm r.condition
  names_form = (λ e. (let bad : ⊥ = omega (arith, e, inclusion) in bad), λ e. (let bad : ⊥ = omega (arith, e, inclusion) in bad))

  alone : map (slice_get s.state.facts) r.older ≡ map Some (given.2.fact ∷ [])
  alone = given.1 ∙ ap (map Some) given.2.only

  -- one older fact gave it
  pub one_taken : ((x : FactId) → o' ≡ older.One x → ⊥) → ⊥
  one_taken none =
      let (x, is, at_x) = one_older o' s.state.facts given.2.fact (ap (map (slice_get s.state.facts)) older_is ∙ alone) in
      none x is

  module _ (x : FactId) (is : o' ≡ older.One x) where
    -- the line rests on it alone
    pub rests_on_one : rests_on s.normal.entries r ≡ x.0 ∷ []
    rests_on_one = subst (λ (c : ℕ). rests_on s.normal.entries (record r { condition = c }) ≡ r.older) (sym inclusion) refl ∙ sym older_is ∙ ap numbers_of is

    pub rests : Contains (rests_on s.normal.entries r) x.0
    rests = subst (λ ns. Contains ns x.0) (sym rests_on_one) (Contains-first x.0 [])

    -- and lines that show that one lead to the fact
    pub leads_on : (lines : List Line) (numbers : List ℕ) → ((g : Fact) → slice_get s.state.facts x.0 ≡ Some g → AreShowing (prefixes_of s.normal) lines numbers g)
        → LeadsBy o s lines numbers f (inclusion_rule (option_map origin_in (slice_get s.normal.entries m)))
    leads_on lines numbers showing =
        let led : IsLedTo o s r m (N1 given.2.lower given.2.upper) f = led_to o s w saturated n r born f there m place names_form (N1 given.2.lower given.2.upper) given.2.at tt in
        subst (LeadsBy o s lines numbers f) (rule_of_inclusion o s saturated m given.2.lower given.2.upper given.2.at)
        (led.lead_to lines numbers (λ fs at. shown_alone (prefixes_of s.normal) lines numbers s.state.facts given.2.lower given.2.upper x.0 fs (ap (map (slice_get s.state.facts)) (sym rests_on_one) ∙ at) showing))
