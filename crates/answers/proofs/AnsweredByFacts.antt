-- What the facts of a saturation answer is what follows.
use Rattle.std.proofs.Common.{◌≡◌, ◌↔◌, ℕ, ◌<◌, ◌⊎◌, inl, inr, ⊎_elim, Bool, List, length, slice_get, Some, refl, sym, ap, ◌∙◌, subst}
use Rattle.number_sets.proofs.Members.{has_within}
use Rattle.lemmas.proofs.Members.{Contains-from_slice_get, slice_get-from_Contains}
use Rattle.axioms.specs.Expression.{ClassExpression, Iri, Named}
use Rattle.axioms.specs.Ontology.{Ontology, IsClassAt, nothing, name_at, individual_name, expression, axiom_trees}
use Rattle.axioms.specs.WellFormedness.{AreDistinct, IsOntology}
use Rattle.axioms.specs.declared.ids.ExprId.{ExprId}
use Rattle.axioms.specs.declared.ids.IndId.{IndId}
use Rattle.axioms.proofs.Trees.{class_tree}
use Rattle.facts.specs.declared.contexts.Fact.{Fact}
use Rattle.facts.specs.declared.contexts.Fact.TheVariants.{In}
use Rattle.normal_forms.specs.declared.forms.Class2.TheVariants.{Expr}
use Rattle.normal_forms.specs.Forms.{Whole}
use Rattle.closure.specs.Closure.{Context, Expression, Individual, IsFact, IsRoot}
use Rattle.closure.specs.Closure as closure
use Rattle.closure.proofs.Names.{expr_id}
use Rattle.interpretation_spec.specs.Interpretation.{IsBelow, IsMember}
use Rattle.normalise.specs.Problem.{prefixes_of}
use Rattle.engine.specs.Saturations.{Saturated, IsSaturated}
use Rattle.countermodel.proofs.Facts.{code_of, whole_said}
use Rattle.classification.specs.Lists.{SomeFact}
use Rattle.answers.specs.Selections.{Answers, AreGiven, FollowsFor, IsEvery, PutsExpression, PutsIndividual, context_asked, names_asked}
use Rattle.answers.specs.Entailment.{LiesBelow, BelongsTo}
use Rattle.answers.specs.Explanations.{IsClassNamed}
use Rattle.answers.specs.Neighbours.{AreMarksAmong}
use Rattle.answers.specs.Names.{AreThose, IsMarked}
use Rattle.answers.specs.declared.selection.Selection.{Selection}
use Rattle.answers.specs.declared.selection.Selection.TheVariants.{Above, Below, Members, Types}
use Rattle.answers.proofs.Deriving.{named_tree, root_subject}
use Rattle.classification.proofs.Following.{below_by_facts, members_by_facts}
use Rattle.answers.proofs.Naming.{those_same}

module _ (o : Ontology) (w : IsOntology o) (s : Saturated) (h : IsSaturated o s) where
  abbrev asked : List ℕ
  asked = s.normal.asked

  -- a fact puts a context in an expression where that is a fact of the closure
  fact_in : (x : Context) (f : ℕ) → SomeFact s.state.facts (λ fact. fact ≡ In (Expr (expr_id f)) (code_of x)) ↔ IsFact o asked (closure.In (Whole f) x)
  fact_in x f =
      let said = whole_said o asked (prefixes_of s.normal) s.state.facts h.facts (expr_id f) x in
      let wanted : Fact = In (Expr (expr_id f)) (code_of x) in (
        λ v. said.0 (Contains-from_slice_get s.state.facts v.0 wanted (subst (λ fact. slice_get s.state.facts v.0 ≡ Some fact) v.3 v.2)),
        λ is. (let (n, at) = slice_get-from_Contains s.state.facts wanted (said.1 is) in (n, wanted, at, refl)),
      )

  expression_in : (e f : ℕ) → SomeFact s.state.facts (λ fact. PutsExpression fact e f) ↔ IsFact o asked (closure.In (Whole f) (Expression e))
  expression_in e f = fact_in (Expression e) f

  individual_in : (a f : ℕ) → SomeFact s.state.facts (λ fact. PutsIndividual fact a f) ↔ IsFact o asked (closure.In (Whole f) (Individual a))
  individual_in a f = fact_in (Individual a) f

  -- the class of number n is one expression
  one_expression : (n e f : ℕ) → IsClassAt o n e → IsClassAt o n f → e ≡ f
  one_expression n e f class other = w.distinct_nodes e f _ class other

  above_by_fact : (e : ExprId) (n f : ℕ) → IsClassAt o n f → SomeFact s.state.facts (λ fact. Answers o (Above e) fact n) ↔ IsFact o asked (closure.In (Whole f) (Expression e.0))
  above_by_fact e n f class =
      let here = expression_in e.0 f in (
        λ v. here.0 (v.0, v.1, v.2, subst (λ m. PutsExpression v.1 e.0 m) (one_expression n v.3.0 f v.3.1 class) v.3.2),
        λ is. (let v = here.1 is in (v.0, v.1, v.2, (f, class, v.3))),
      )

  below_by_fact : (e : ExprId) (n f : ℕ) → IsClassAt o n f → SomeFact s.state.facts (λ fact. Answers o (Below e) fact n)
      ↔ (IsFact o asked (closure.In (Whole nothing) (Expression f)) ⊎ IsFact o asked (closure.In (Whole e.0) (Expression f)))
  below_by_fact e n f class =
      let here = expression_in f e.0 in
      let empty = expression_in f nothing in (
        λ v.
            let puts = subst (λ m. PutsExpression v.1 m e.0 ⊎ PutsExpression v.1 m nothing) (one_expression n v.3.0 f v.3.1 class) v.3.2 in
            ⊎_elim (λ p. inr (here.0 (v.0, v.1, v.2, p))) (λ p. inl (empty.0 (v.0, v.1, v.2, p))) puts,
        λ is. ⊎_elim
            (λ none. (let v = empty.1 none in (v.0, v.1, v.2, (f, class, inr v.3))))
            (λ fact. (let v = here.1 fact in (v.0, v.1, v.2, (f, class, inl v.3)))) is,
      )

  class_by_fact : (a : IndId) (n f : ℕ) → IsClassAt o n f → SomeFact s.state.facts (λ fact. Answers o (Types a) fact n) ↔ IsFact o asked (closure.In (Whole f) (Individual a.0))
  class_by_fact a n f class =
      let here = individual_in a.0 f in (
        λ v. here.0 (v.0, v.1, v.2, subst (λ m. PutsIndividual v.1 a.0 m) (one_expression n v.3.0 f v.3.1 class) v.3.2),
        λ is. (let v = here.1 is in (v.0, v.1, v.2, (f, class, v.3))),
      )

  module _ (e : ExprId) (root : IsRoot o asked (Expression e.0)) where
    above_answers : (n : ℕ) → n < length o.names.classes
        → (IsEvery o s (Above e) ⊎ SomeFact s.state.facts (λ fact. Answers o (Above e) fact n)) ↔ FollowsFor o (Above e) (name_at o.names.classes n)
    above_answers n low =
        let (f, class) = w.class_nodes n low in
        let by = below_by_facts o w s h e.0 f root (IsRoot.named n f class) in
        let here = above_by_fact e n f class in
        let empty = expression_in e.0 nothing in
        let named = class_tree o n f class in (
          λ v. subst (IsBelow (axiom_trees o) (expression o e.0)) named
              (by.1 (⊎_elim (λ every. ⊎_elim (λ none. inl none) (λ p. inr (inl (empty.0 p))) every) (λ p. inr (inr (here.0 p))) v)),
          λ follows. ⊎_elim
              (λ none. inl (inl none))
              (λ fact. ⊎_elim (λ is. inl (inr (empty.1 is))) (λ is. inr (here.1 is)) fact)
              (by.0 (subst (IsBelow (axiom_trees o) (expression o e.0)) (sym named) follows)),
        )

    below_answers : (n : ℕ) → n < length o.names.classes
        → (IsEvery o s (Below e) ⊎ SomeFact s.state.facts (λ fact. Answers o (Below e) fact n)) ↔ FollowsFor o (Below e) (name_at o.names.classes n)
    below_answers n low =
        let (f, class) = w.class_nodes n low in
        let by = below_by_facts o w s h f e.0 (IsRoot.named n f class) root in
        let here = below_by_fact e n f class in
        let named = class_tree o n f class in (
          λ v. subst (λ (t : ClassExpression). IsBelow (axiom_trees o) t (expression o e.0)) named (by.1 (⊎_elim (λ none. inl none) (λ p. inr (here.0 p)) v)),
          λ follows. ⊎_elim (λ none. inl none) (λ fact. inr (here.1 fact)) (by.0 (subst (λ (t : ClassExpression). IsBelow (axiom_trees o) t (expression o e.0)) (sym named) follows)),
        )

    member_answers : (a : ℕ) → a < length o.names.individuals
        → (IsEvery o s (Members e) ⊎ SomeFact s.state.facts (λ fact. Answers o (Members e) fact a)) ↔ FollowsFor o (Members e) (individual_name o a)
    member_answers a low =
        let by = members_by_facts o w s h a e.0 low root in
        let here = individual_in a e.0 in (
          λ v. by.1 (⊎_elim (λ none. inl none) (λ p. inr (here.0 p)) v),
          λ follows. ⊎_elim (λ none. inl none) (λ p. inr (here.1 p)) (by.0 follows),
        )

  class_answers : (a : IndId) → a.0 < length o.names.individuals → (n : ℕ) → n < length o.names.classes
      → (IsEvery o s (Types a) ⊎ SomeFact s.state.facts (λ fact. Answers o (Types a) fact n)) ↔ FollowsFor o (Types a) (name_at o.names.classes n)
  class_answers a within n low =
      let (f, class) = w.class_nodes n low in
      let by = members_by_facts o w s h a.0 f within (IsRoot.named n f class) in
      let here = class_by_fact a n f class in
      let named = class_tree o n f class in (
        λ v. subst (IsMember (axiom_trees o) (individual_name o a.0)) named (by.1 (⊎_elim (λ none. inl none) (λ p. inr (here.0 p)) v)),
        λ follows. ⊎_elim (λ none. inl none) (λ fact. inr (here.1 fact)) (by.0 (subst (IsMember (axiom_trees o) (individual_name o a.0)) (sym named) follows)),
      )

  answer_follows : (q : Selection) → IsRoot o asked (context_asked q) → (n : ℕ) → n < length (names_asked o q)
      → (IsEvery o s q ⊎ SomeFact s.state.facts (λ fact. Answers o q fact n)) ↔ FollowsFor o q (name_at (names_asked o q) n)
  answer_follows (Above e) root n low = above_answers e root n low
  answer_follows (Below e) root n low = below_answers e root n low
  answer_follows (Members e) root n low = member_answers e root n low
  answer_follows (Types a) root n low = class_answers a (root_subject o asked (Individual a.0) root) n low

  module _ (q : Selection) (root : IsRoot o asked (context_asked q)) (marks : List Bool) (long : length marks ≡ length (names_asked o q)) where
    follows_at : (n : ℕ) → IsMarked marks n → (IsEvery o s q ⊎ SomeFact s.state.facts (λ fact. Answers o q fact n)) ↔ FollowsFor o q (name_at (names_asked o q) n)
    follows_at n there = answer_follows q root n (subst (λ (k : ℕ). n < k) long (has_within marks n there))

    -- where every name is an answer, each marked one follows
    pub all_follow : IsEvery o s q → (others : List Bool) → others ≡ marks → AreMarksAmong marks (names_asked o q) (FollowsFor o q) others
    all_follow every others same = record {
      long = ap length same ∙ long;
      exact = λ n there. (λ m. (follows_at n there).0 (inl every), λ f. subst (λ (ms : List Bool). IsMarked ms n) (sym same) there);
    }

    -- else those that facts give
    pub given_follow : (IsEvery o s q → ⊥) → (others : List Bool) → AreGiven (Answers o q) s.state.facts marks others → AreMarksAmong marks (names_asked o q) (FollowsFor o q) others
    given_follow never others given = record {
      long = given.long ∙ long;
      exact = λ n there.
          let mark = given.exact n there in
          let follows = follows_at n there in
          (λ m. follows.0 (inr (mark.0 m)), λ f. mark.1 (⊎_elim (λ every. absurd (never every)) (λ g. g) (follows.1 f)));
    }

-- the names among which the answers are differ
pub asked_apart : (o : Ontology) → IsOntology o → (q : Selection) → AreDistinct (names_asked o q)
asked_apart o w (Members e) = w.distinct_individuals
asked_apart o w _ = w.distinct_classes

-- ---- a class by its name

module _ (o : Ontology) (class : Iri) (e : ExprId) (named : IsClassNamed o class e.0) (answer : List Iri) where
  here : expression o e.0 ≡ Named class
  here = named_tree o class e.0 named

  pub above_named : AreThose (names_asked o (Above e)) (FollowsFor o (Above e)) answer → AreThose o.names.classes (LiesBelow o class) answer
  above_named are = those_same o.names.classes answer (FollowsFor o (Above e)) (LiesBelow o class)
      (λ name there. (λ p. subst (λ (t : ClassExpression). IsBelow (axiom_trees o) t (Named name)) here p, λ p. subst (λ (t : ClassExpression). IsBelow (axiom_trees o) t (Named name)) (sym here) p)) are

  pub below_named : AreThose (names_asked o (Below e)) (FollowsFor o (Below e)) answer → AreThose o.names.classes (λ name. LiesBelow o name class) answer
  below_named are = those_same o.names.classes answer (FollowsFor o (Below e)) (λ name. LiesBelow o name class)
      (λ name there. (λ p. subst (λ (t : ClassExpression). IsBelow (axiom_trees o) (Named name) t) here p, λ p. subst (λ (t : ClassExpression). IsBelow (axiom_trees o) (Named name) t) (sym here) p)) are

  pub members_named : AreThose (names_asked o (Members e)) (FollowsFor o (Members e)) answer → AreThose o.names.individuals (λ name. BelongsTo o name class) answer
  members_named are = those_same o.names.individuals answer (FollowsFor o (Members e)) (λ name. BelongsTo o name class)
      (λ name there. (λ p. subst (λ (t : ClassExpression). IsMember (axiom_trees o) name t) here p, λ p. subst (λ (t : ClassExpression). IsMember (axiom_trees o) name t) (sym here) p)) are
