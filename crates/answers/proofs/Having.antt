-- What something has of the conditions for a class, by facts and by what follows.
use Rattle.std.proofs.Common.{◌≡◌, ◌↔◌, inl, inr, ⊎_elim, ℕ, ◌<◌, true, Bool, List, length, [], get_or, slice_get, Option, Some, None, unwrap_or, All, Contains, refl, sym, ap, ◌∙◌, subst, subst₂}
use Rattle.std.specs.Global.{Vec}
use Rattle.std.specs.Option.{IfNone, IfSome, is_some}
use Rattle.std.proofs.lemmas.Bool.{false≢true}
use Rattle.std.proofs.lemmas.Option.{slice_get_within}
use Rattle.lemmas.proofs.Members.{Contains-from_slice_get}
use Rattle.axioms.specs.Expression.{ClassExpression, Iri}
use Rattle.axioms.specs.Ontology.{Ontology, nothing, axiom_trees, expression, individual_name}
use Rattle.axioms.specs.WellFormedness.{IsOntology}
use Rattle.axioms.specs.declared.ids.ExprId.{ExprId}
use Rattle.classification.proofs.Following.{below_by_facts, consistent, members_by_facts}
use Rattle.closure.specs.Closure.{Context, Expression, IsRoot}
use Rattle.closure.specs.Closure as closure
use Rattle.closure.specs.Denotations.{context_of}
use Rattle.countermodel.proofs.Facts.{whole_said}
use Rattle.engine.specs.Saturations.{Saturated, IsSaturated}
use Rattle.exactness.specs.ListedInterpretation.{IsConsistent}
use Rattle.facts.specs.declared.contexts.Context as code
use Rattle.facts.specs.declared.contexts.Context.TheVariants as contexts
use Rattle.facts.specs.declared.contexts.Fact.{Fact}
use Rattle.facts.specs.declared.contexts.Fact.TheVariants.{In}
use Rattle.facts.specs.declared.births.FactId.{FactId}
use Rattle.interpretation_spec.specs.Interpretation.{IsBelow, IsMember}
use Rattle.normal_forms.specs.declared.forms.Class2.TheVariants.{Expr}
use Rattle.normal_forms.specs.Occurrences.{OccursLeft}
use Rattle.normalise.specs.Problem.{prefixes_of}
use Rattle.program.specs.declared.question.Asked.{Asked}
use Rattle.program.specs.declared.question.Asked.TheVariants as asked
use Rattle.answers.specs.Conditions.{AreConditions, IsInExpression}
use Rattle.answers.specs.Explanations.{FollowsFor, IsAbout, IsClassNamed}
use Rattle.answers.specs.Findings.{FollowsByFacts, IsFactOf, IsLackingOf}
use Rattle.answers.specs.declared.condition.Condition.{Condition}
use Rattle.answers.specs.declared.condition.Lacking.TheVariants.{Nothing, Conditions}
use Rattle.answers.proofs.Deriving.{named_tree}
use Rattle.answers.proofs.Giving.{each_part, parts_occur}
use Rattle.answers.proofs.LeftFollowing.{below_by_left, member_by_left}

-- ---- a fact that is looked for

pub found_in : (list : List Fact) (fact : Fact) (found : Option FactId) (told : Bool) → told ≡ is_some found → IfSome found (λ n. slice_get list n.0 ≡ Some fact)
    → IfNone found (Contains list fact → ⊥) → (told ≡ true) ↔ Contains list fact
found_in list fact None told is there none = (λ t. absurd (false≢true (sym is ∙ t)), λ h. absurd (none h))
found_in list fact (Some n) told is there none = (λ _. Contains-from_slice_get list n.0 fact there, λ _. is)

-- ---- parts that were found

-- exactly those parts are had of which the one holds, so also where another holds
pub had_alike : (o : Ontology) (e : ℕ) (P Has Other : ℕ → Type 0) → ((f : ℕ) → P f → Has f ↔ Other f) → (found : List Condition)
    → All (λ condition. All (λ part. P part.expression.0) condition.parts.items) found → AreConditions o e Has found → AreConditions o e Other found
had_alike o e P Has Other alike found each are = record {
  stated = are.stated;
  right = λ k d l n p m.
      let part = get_or (get_or found k d).parts.items n p in
      let here = are.right k d l n p m in
      let same = alike part.expression.0 (each k d l n p m) in
      (λ t. same.0 (here.0 t), λ other. here.1 (same.1 other));
}

module _ (o : Ontology) (w : IsOntology o) (s : Saturated) (h : IsSaturated o s) where
  abbrev questions : List ℕ
  questions = s.normal.asked

  pub said : (x : code.Context) (e : ExprId) → Contains s.state.facts (In (Expr e) x) ↔ IsFactOf o questions (context_of x) e.0
  said (contexts.Expr n) e = whole_said o questions (prefixes_of s.normal) s.state.facts h.facts e (Expression n.0)
  said (contexts.Individual n) e = whole_said o questions (prefixes_of s.normal) s.state.facts h.facts e (closure.Individual n.0)

  -- ---- by names

  own_name : (n : ℕ) (a : Iri) → slice_get o.names.individuals n ≡ Some a → individual_name o n ≡ a
  own_name n a at = ap (λ (k : Option Iri). unwrap_or k []) at

  class_follows : (a : Asked) (x : Context) → IsAbout o a x → (name : Iri) (e : ℕ) → IsClassNamed o name e → FollowsFor o a name ↔ FollowsByFacts o questions x e
  class_follows (asked.Class c) (Expression n) about name e named =
      let by = below_by_facts o w s h n e (IsRoot.named about.0 n about.1) (IsRoot.named named.0 e named.1) in
      let below = named_tree o c.now n about in
      let above = named_tree o name e named in (
        λ follows. by.0 (subst₂ (IsBelow (axiom_trees o)) (sym below) (sym above) follows),
        λ facts. subst₂ (IsBelow (axiom_trees o)) below above (by.1 facts),
      )
  class_follows (asked.Class c) (closure.Individual n) about name e named = absurd about
  class_follows (asked.Individual a) (Expression n) about name e named = absurd about
  class_follows (asked.Individual a) (closure.Individual n) about name e named =
      let low : n < length o.names.individuals = slice_get_within o.names.individuals n a.now about in
      let by = members_by_facts o w s h n e low (IsRoot.named named.0 e named.1) in
      let own = own_name n a.now about in
      let above = named_tree o name e named in (
        λ follows. ⊎_elim (λ none. inl none) (λ fact. inr (inr fact)) (by.0 (subst₂ (IsMember (axiom_trees o)) (sym own) (sym above) follows)),
        λ facts. subst₂ (IsMember (axiom_trees o)) own above
            (by.1 (⊎_elim (λ none. inl none) (λ fact. ⊎_elim (λ empty. inl (λ k. k.individuals n low empty)) (λ there. inr there) fact) facts)),
      )

  module _ (k : IsConsistent o questions) (x : Context) (without : IsFactOf o questions x nothing → ⊥) where
    part_follows : (a : Asked) (y : Context) → x ≡ y → IsAbout o a y → (f : ℕ) → OccursLeft o questions f → IsFactOf o questions x f ↔ IsInExpression o a f
    part_follows (asked.Class c) (Expression n) same about f occurs =
        let by = below_by_left o w s h f occurs n (IsRoot.named about.0 n about.1) in
        let below = named_tree o c.now n about in (
          λ fact. subst (λ (t : ClassExpression). IsBelow (axiom_trees o) t (expression o f)) below (by.1 (inr (inr (subst (λ (y : Context). IsFactOf o questions y f) same fact)))),
          λ is. subst (λ (y : Context). IsFactOf o questions y f) (sym same) (⊎_elim
              (λ none. absurd (none k))
              (λ fact. ⊎_elim (λ empty. absurd (without (subst (λ (y : Context). IsFactOf o questions y nothing) (sym same) empty))) (λ there. there) fact)
              (by.0 (subst (λ (t : ClassExpression). IsBelow (axiom_trees o) t (expression o f)) (sym below) is))),
        )
    part_follows (asked.Class c) (closure.Individual n) same about f occurs = absurd about
    part_follows (asked.Individual a) (Expression n) same about f occurs = absurd about
    part_follows (asked.Individual a) (closure.Individual n) same about f occurs =
        let by = member_by_left o w s h f occurs n (slice_get_within o.names.individuals n a.now about) in
        let own = own_name n a.now about in (
          λ fact. subst (λ (b : Iri). IsMember (axiom_trees o) b (expression o f)) own (by.1 (inr (subst (λ (y : Context). IsFactOf o questions y f) same fact))),
          λ is. subst (λ (y : Context). IsFactOf o questions y f) (sym same) (⊎_elim (λ none. absurd (none k)) (λ there. there)
              (by.0 (subst (λ (b : Iri). IsMember (axiom_trees o) b (expression o f)) (sym own) is))),
        )

  -- ---- what is lacked

  pub nothing_lacked : (x : Context) (e : ℕ) → FollowsByFacts o questions x e → IsLackingOf o x e Nothing
  nothing_lacked x e facts a name about named = (class_follows a x about name e named).1 facts

  pub conditions_lacked : (x : Context) (e : ℕ) → (FollowsByFacts o questions x e → ⊥) → (found : Vec Condition) → AreConditions o e (IsFactOf o questions x) found.items → IsLackingOf o x e (Conditions found)
  conditions_lacked x e not found are a name about named =
      let k : IsConsistent o questions = ⊎_elim (λ k. k) (λ none. absurd (not (inl none))) (consistent o w s h) in
      let without : IsFactOf o questions x nothing → ⊥ = λ empty. not (inr (inl empty)) in (
        λ follows. not ((class_follows a x about name e named).0 follows),
        (
          e,
          named,
          had_alike o e (OccursLeft o questions) (IsFactOf o questions x) (IsInExpression o a)
              (λ f occurs. part_follows k x without a x refl about f occurs) found.items
              (each_part o e (OccursLeft o questions) found.items are.stated (parts_occur o questions e)) are,
        ),
      )
