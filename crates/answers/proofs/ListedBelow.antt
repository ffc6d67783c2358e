-- The lists of satisfiable classes have exactly what lies above them.
use Rattle.std.proofs.Common.{◌≡◌, ◌↔◌, ◌⊎◌, ℕ, ◌<◌, Bool, true, List, length, inl, inr, ⊎_elim, sym, subst, subst₂}
use Rattle.axioms.proofs.Trees.{class_tree}
use Rattle.axioms.specs.Expression.{ClassExpression, Iri, Named, owl_nothing}
use Rattle.axioms.specs.Ontology.{Ontology, axiom_trees, expression, name_at, nothing}
use Rattle.axioms.specs.WellFormedness.{IsOntology}
use Rattle.classification.proofs.Saying.{below_by_fact}
use Rattle.classification.specs.Lists.{AreListsBy}
use Rattle.closure.specs.Closure.{Expression, In, IsFact, IsRoot}
use Rattle.exactness.specs.ListedInterpretation.{IsConsistent}
use Rattle.normal_forms.specs.Forms.{Whole}
use Rattle.engine.specs.Saturations.{IsSaturated, Saturated}
use Rattle.interpretation_spec.specs.Interpretation.{IsBelow}
use Rattle.normalise.specs.Problem.{prefixes_of}
use Rattle.number_sets.proofs.Members.{has_within}
use Rattle.taxonomy.specs.Relation.{is_listed}
use Rattle.answers.specs.Entailment.{LiesBelow}
use Rattle.answers.specs.Names.{IsMarked}
use Rattle.answers.specs.Neighbours.{AreSatisfiable, PutsMarked}
use Rattle.classification.proofs.Following.{below_by_facts}
use Rattle.answers.proofs.Naming.{name_is}

module _ (o : Ontology) (w : IsOntology o) (s : Saturated) (h : IsSaturated o s) (marks : List Bool) (long : length marks ≡ length o.names.classes) (satisfiable : AreSatisfiable o marks)
    (lists : List (List ℕ)) (are : AreListsBy (PutsMarked o marks) (length o.names.classes) s.state.facts lists) where
  abbrev name : ℕ → Iri
  name n = name_at o.names.classes n

  -- the classes of these numbers, as trees
  trees : (n d e f : ℕ) → expression o e ≡ Named (name n) → expression o f ≡ Named (name d) → IsBelow (axiom_trees o) (expression o e) (expression o f) ↔ LiesBelow o (name n) (name d)
  trees n d e f first second = (
    λ k. subst₂ (λ (a b : ClassExpression). IsBelow (axiom_trees o) a b) first second k,
    λ k. subst₂ (λ (a b : ClassExpression). IsBelow (axiom_trees o) a b) (sym first) (sym second) k,
  )

  pub listed_below : (n d : ℕ) → IsMarked marks n → d < length o.names.classes → (is_listed lists n d ≡ true) ↔ LiesBelow o (name n) (name d)
  listed_below n d mark low =
      let asked = s.normal.asked in
      let (e, class) = w.class_nodes n (subst (λ (k : ℕ). n < k) long (has_within marks n mark)) in
      let (f, above) = w.class_nodes d low in
      let puts = below_by_fact o asked w (prefixes_of s.normal) s.state.facts h.facts n d e f class above in
      let by = below_by_facts o w s h e f (IsRoot.named n e class) (IsRoot.named d f above) in
      let to_nothing = below_by_facts o w s h e nothing (IsRoot.named n e class) (IsRoot.named 1 nothing w.nothing_node) in
      let here = trees n d e f (class_tree o n e class) (class_tree o d f above) in
      let empty : ((IsConsistent o asked → ⊥) ⊎ (IsFact o asked (In (Whole nothing) (Expression e)) ⊎ IsFact o asked (In (Whole nothing) (Expression e)))) → ⊥ = λ k. satisfiable.satisfiable n mark (subst (LiesBelow o (name n)) (name_is o.names.classes 1 owl_nothing w.nothing_name)
      ((trees n 1 e nothing (class_tree o n e class) (class_tree o 1 nothing w.nothing_node)).0 (to_nothing.1 k))) in (
        λ t. (let (i, fact, at, (_, put)) = (are.each n d).0 t in here.0 (by.1 (inr (inr (puts.0 (i, fact, at, put)))))),
        λ k. ⊎_elim
            (λ none. absurd (empty (inl none)))
            (λ fact. ⊎_elim
            (λ none. absurd (empty (inr (inl none))))
            (λ is. (let (i, f', at, put) = puts.1 is in (are.each n d).1 (i, f', at, (mark, put))))
            fact)
            (by.0 (here.1 k)),
      )
