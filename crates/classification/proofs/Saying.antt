-- What the facts of a saturation say of named classes and individuals.
use Rattle.std.proofs.Common.{◌≡◌, ◌↔◌, ℕ, zero, suc, ◌<◌, Bool, true, false, not, IsTrue, Option, None, Some, is_some, List, [], length, get_or, All, Contains, refl, sym, ap, ap₂, ◌∙◌, subst, subst₂}
use Rattle.std.proofs.lemmas.Bool.{false≢true}
use Rattle.std.proofs.lemmas.List.Elements.{All-contains, Contains-get_or}
use Rattle.std.proofs.lemmas.Option.{none-some}
use Rattle.lemmas.proofs.Members.{Contains-from_slice_get, slice_get-from_Contains}
use Rattle.axioms.specs.Ontology.{Ontology, Class, IsClassAt, nothing, thing}
use Rattle.axioms.specs.WellFormedness.{IsOntology}
use Rattle.axioms.specs.declared.ids.ExprId.{ExprId}
use Rattle.axioms.specs.declared.ids.IndId.{IndId}
use Rattle.normal_forms.specs.declared.forms.Class2 as code_class
use Rattle.normal_forms.specs.declared.forms.Class2.TheVariants as classes
use Rattle.normal_forms.specs.Forms.{Whole}
use Rattle.facts.specs.declared.contexts.Context.TheVariants as contexts
use Rattle.facts.specs.declared.contexts.Fact as code_fact
use Rattle.facts.specs.declared.contexts.Fact.TheVariants as facts
use Rattle.closure.specs.Closure.{Expression, Individual, Fact, In, IsFact}
use Rattle.closure.specs.Denotations.{Prefixes, whole, expression, individual, SaysFact, in_context}
use Rattle.exactness.specs.ListedInterpretation.{IsConsistent}
use Rattle.exactness.specs.Derivability.{FactIsDerivable}
use Rattle.exactness.proofs.Facts.{fact_derivable}
use Rattle.engine.specs.Saturations.{IsSaturated, IsUnasked, Saturated, SayTheClosure}
use Rattle.explain.specs.Marks.{FindsGoal, IsGoal, IsContradictoryFact}
use Rattle.explain.proofs.Saying.{no_contradiction}
use Rattle.normalise.specs.Problem.{prefixes_of}
use Rattle.classification.specs.Contradiction.{IsFreeOfNothing}
use Rattle.classification.specs.Lists.{PutsBelow, PutsInto, IsAboutIndividualOf, SomeFact}

-- ---- one fact

abbrev class_fact : ExprId → ExprId → code_fact.Fact
class_fact f e = facts.In (classes.Expr f) (contexts.Expr e)

abbrev type_fact : ExprId → IndId → code_fact.Fact
type_fact f i = facts.In (classes.Expr f) (contexts.Individual i)

says_class : {b : Prefixes} {f e : ExprId} {g : Fact} → SaysFact b (class_fact f e) g → g ≡ In (Whole f.0) (Expression e.0)
says_class (in_context (whole h) (expression k)) = ap₂ (λ c d. In (Whole c) (Expression d)) (sym h) (sym k)

says_type : {b : Prefixes} {f : ExprId} {i : IndId} {g : Fact} → SaysFact b (type_fact f i) g → g ≡ In (Whole f.0) (Individual i.0)
says_type (in_context (whole h) (individual k)) = ap₂ (λ c a. In (Whole c) (Individual a)) (sym h) (sym k)

class_sayer : {b : Prefixes} {fact : code_fact.Fact} {c d : ℕ} → SaysFact b fact (In (Whole c) (Expression d)) → (f : ExprId) × (e : ExprId) × (fact ≡ class_fact f e) × (f.0 ≡ c) × (e.0 ≡ d)
class_sayer (in_context (whole {e = f} h) (expression {e = e} k)) = (f, e, refl, h, k)

type_sayer : {b : Prefixes} {fact : code_fact.Fact} {c a : ℕ} → SaysFact b fact (In (Whole c) (Individual a)) → (f : ExprId) × (i : IndId) × (fact ≡ type_fact f i) × (f.0 ≡ c) × (i.0 ≡ a)
type_sayer (in_context (whole {e = f} h) (individual {i = i} k)) = (f, i, refl, h, k)

individual_there : (o : Ontology) {b : Prefixes} {a : code_class.Class2} {i : IndId} {g : Fact} → SaysFact b (facts.In a (contexts.Individual i)) g → FactIsDerivable o g → i.0 < length o.names.individuals
individual_there o (in_context s (individual k)) d = subst (λ n. n < length o.names.individuals) (sym k) d.0

-- ---- all facts

-- where nothing is asked about, they say the closure of the ontology alone
pub say_alone : (o : Ontology) (s : Saturated) → IsSaturated o s → IsUnasked s → SayTheClosure o [] (prefixes_of s.normal) s.state.facts
say_alone o s h unasked = subst (λ asked. SayTheClosure o asked (prefixes_of s.normal) s.state.facts) unasked h.facts

module _ (o : Ontology) (asked : List ℕ) (w : IsOntology o) (b : Prefixes) (fs : List code_fact.Fact) (h : SayTheClosure o asked b fs) where
  class_is_fact : (f e : ExprId) → Contains fs (class_fact f e) → IsFact o asked (In (Whole f.0) (Expression e.0))
  class_is_fact f e there =
      let (g, says, fact) = h.each (class_fact f e) there in
      subst (IsFact o asked) (says_class says) fact

  type_is_fact : (f : ExprId) (i : IndId) → Contains fs (type_fact f i) → IsFact o asked (In (Whole f.0) (Individual i.0))
  type_is_fact f i there =
      let (g, says, fact) = h.each (type_fact f i) there in
      subst (IsFact o asked) (says_type says) fact

  pub about_individual : (fact : code_fact.Fact) → Contains fs fact → IsAboutIndividualOf o fact
  about_individual (facts.In a (contexts.Individual i)) there =
      let (g, says, fact) = h.each (facts.In a (contexts.Individual i)) there in
      individual_there o says (fact_derivable o asked w fact)
  about_individual (facts.In a (contexts.Expr e)) there = tt
  about_individual (facts.Edge x r y) there = tt

  -- a fact puts a class below another where that is a fact of the closure
  pub below_by_fact : (c d e f : ℕ) → IsClassAt o c e → IsClassAt o d f → SomeFact fs (λ fact. PutsBelow o fact c d) ↔ IsFact o asked (In (Whole f) (Expression e))
  below_by_fact c d e f class above = (
    λ (n, fact, at, (e', f', is, class', above')).
        subst₂ (λ x y. IsFact o asked (In (Whole x) (Expression y))) (w.distinct_nodes f'.0 f (Class d) above' above) (w.distinct_nodes e'.0 e (Class c) class' class)
        (class_is_fact f' e' (subst (Contains fs) is (Contains-from_slice_get fs n fact at))),
    λ is_fact.
        let (fact, there, says) = h.all (In (Whole f) (Expression e)) is_fact in
        let (f', e', is, same_f, same_e) = class_sayer says in
        let (n, at) = slice_get-from_Contains fs fact there in
        (n, fact, at, (e', f', is, subst (IsClassAt o c) (sym same_e) class, subst (IsClassAt o d) (sym same_f) above)),
  )

  -- a fact puts an individual into a class where that is a fact of the closure
  pub type_by_fact : (a d f : ℕ) → IsClassAt o d f → SomeFact fs (λ fact. PutsInto o fact a d) ↔ IsFact o asked (In (Whole f) (Individual a))
  type_by_fact a d f above = (
    λ (n, fact, at, (i, f', is, same, above')).
        subst₂ (λ x y. IsFact o asked (In (Whole x) (Individual y))) (w.distinct_nodes f'.0 f (Class d) above' above) same
        (type_is_fact f' i (subst (Contains fs) is (Contains-from_slice_get fs n fact at))),
    λ is_fact.
        let (fact, there, says) = h.all (In (Whole f) (Individual a)) is_fact in
        let (f', i, is, same_f, same_i) = type_sayer says in
        let (n, at) = slice_get-from_Contains fs fact there in
        (n, fact, at, (i, f', is, same_i, subst (IsClassAt o d) (sym same_f) above)),
  )

  no_contradictory : IsConsistent o asked → (fact : code_fact.Fact) → Contains fs fact → IsContradictoryFact o fact → ⊥
  no_contradictory consistent (facts.In (classes.Expr c) (contexts.Expr e)) there bad =
      consistent.things (subst₂ (λ x y. IsFact o asked (In (Whole x) (Expression y))) bad.0 bad.1 (class_is_fact c e there))
  no_contradictory consistent (facts.In (classes.Expr c) (contexts.Individual i)) there bad =
      consistent.individuals i.0 bad.1 (subst (λ x. IsFact o asked (In (Whole x) (Individual i.0))) bad.0 (type_is_fact c i there))
  no_contradictory consistent (facts.In (classes.Partial n) x) there bad = bad
  no_contradictory consistent (facts.Edge x r y) there bad = bad

  -- the closure is consistent where none of the facts is there that would say otherwise
  pub consistent_by_finding : IsFreeOfNothing o fs ↔ IsConsistent o asked
  consistent_by_finding = (
    λ none. record {
      things = λ is_fact.
          let (fact, there, says) = h.all (In (Whole nothing) (Expression thing)) is_fact in
          let (f, e, is, same_f, same_e) = class_sayer says in
          none.0 (subst (Contains fs) (is ∙ ap₂ (λ c d. class_fact (record { 0 = c }) (record { 0 = d })) same_f same_e) there);
      individuals = λ a l is_fact.
          let (fact, there, says) = h.all (In (Whole nothing) (Individual a)) is_fact in
          let (f, i, is, same_f, same_i) = type_sayer says in
          none.1 i (subst (λ n. n < length o.names.individuals) (sym same_i) l) (subst (Contains fs) (is ∙ ap (λ c. type_fact (record { 0 = c }) i) same_f) there);
    },
    λ consistent. (
      λ there. consistent.things (class_is_fact (record { 0 = nothing }) (record { 0 = thing }) there),
      λ a l there. consistent.individuals a.0 l (type_is_fact (record { 0 = nothing }) a there),
    ),
  )

-- the closure is consistent where no fact is a contradiction
pub consistent_by_facts : (o : Ontology) (s : Saturated) → IsOntology o → IsSaturated o s → All (λ fact. IsContradictoryFact o fact → ⊥) s.state.facts ↔ IsConsistent o s.normal.asked
consistent_by_facts o s w h = (
  no_contradiction o s h,
  λ consistent k d l.
      let fs = s.state.facts in
      no_contradictory o s.normal.asked w (prefixes_of s.normal) fs h.facts consistent (get_or fs k d) (Contains-get_or fs k d l),
)

-- ---- facts that are looked for

module _ (P : code_fact.Fact → Type 0) (fs : List code_fact.Fact) where
  goal_there : (n : ℕ) → IsGoal P fs n → All (λ f. P f → ⊥) fs → ⊥
  goal_there zero (f, at, is) none = none-some f at
  goal_there (suc n) (f, at, is) none = All-contains (λ g. P g → ⊥) fs f none (Contains-from_slice_get fs n f at) is

  -- none of the facts is so where none is found
  pub none_where_none_found : (found : Option ℕ) (is_none : Bool) → is_some found ≡ not is_none → FindsGoal P fs found → IsTrue is_none ↔ All (λ f. P f → ⊥) fs
  none_where_none_found None true same none = (λ t. none, λ k. refl)
  none_where_none_found None false same none = absurd (false≢true same)
  none_where_none_found (Some n) true same found = absurd (false≢true (sym same))
  none_where_none_found (Some n) false same found = (λ t. absurd (false≢true t), λ none. absurd (goal_there n found none))
