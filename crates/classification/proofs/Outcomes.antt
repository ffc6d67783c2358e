-- What was found by the closure is what follows from the axioms.
use Rattle.std.proofs.Common.{◌≡◌, ◌↔◌, ℕ, ◌<◌, ◌⊎◌, inr, ⊎_elim, Bool, true, false, IsTrue, List, [], length, refl, subst, subst₂}
use Rattle.std.proofs.lemmas.Bool.{false≢true}
use Rattle.axioms.specs.Ontology.{Ontology, IsClassAt, nothing, name_at, expression, axiom_trees}
use Rattle.axioms.specs.WellFormedness.{IsOntology}
use Rattle.axioms.proofs.Trees.{class_tree}
use Rattle.normal_forms.specs.Forms.{Whole}
use Rattle.closure.specs.Closure.{Expression, Individual, In, IsFact, IsRoot}
use Rattle.exactness.specs.ListedInterpretation.{IsConsistent}
use Rattle.interpretation_spec.specs.Interpretation.{IsBelow, IsMember}
use Rattle.engine.specs.Saturations.{Saturated, IsSaturated, IsUnasked}
use Rattle.taxonomy.specs.Following.{IsWhatFollows, class_at}
use Rattle.taxonomy.specs.Relation.{is_listed, lies_below}
use Rattle.taxonomy.specs.declared.outcome.Outcome.{Outcome}
use Rattle.taxonomy.specs.declared.outcome.Outcome.TheVariants.{Consistent, Inconsistent}
use Rattle.classification.specs.Findings.{IsOutcomeOf}
use Rattle.classification.specs.Lists.{IsTaxonomyOf, AreTypesOf}
use Rattle.classification.proofs.Following.{below_by_facts, members_by_facts, contradictory, consistent_where}

module _ (o : Ontology) (w : IsOntology o) (s : Saturated) (h : IsSaturated o s) (unasked : IsUnasked s) where
  module _ (k : IsConsistent o s.normal.asked) where
    below_where : (c d e f : ℕ) → IsClassAt o c e → IsClassAt o d f
        → IsBelow (axiom_trees o) (expression o e) (expression o f) ↔ (IsFact o [] (In (Whole nothing) (Expression e)) ⊎ IsFact o [] (In (Whole f) (Expression e)))
    below_where c d e f class above =
        let by = below_by_facts o w s h e f (IsRoot.named c e class) (IsRoot.named d f above) in
        subst (λ asked. IsBelow (axiom_trees o) (expression o e) (expression o f) ↔ (IsFact o asked (In (Whole nothing) (Expression e)) ⊎ IsFact o asked (In (Whole f) (Expression e)))) unasked
        (λ follows. ⊎_elim (λ none. absurd (none k)) (λ facts. facts) (by.0 follows), λ facts. by.1 (inr facts))

    member_where : (a d f : ℕ) → a < length o.names.individuals → IsClassAt o d f
        → IsMember (axiom_trees o) (name_at o.names.individuals a) (expression o f) ↔ IsFact o [] (In (Whole f) (Individual a))
    member_where a d f there class =
        let by = members_by_facts o w s h a f there (IsRoot.named d f class) in
        subst (λ asked. IsMember (axiom_trees o) (name_at o.names.individuals a) (expression o f) ↔ IsFact o asked (In (Whole f) (Individual a))) unasked
        (λ follows. ⊎_elim (λ none. absurd (none k)) (λ fact. fact) (by.0 follows), λ fact. by.1 (inr fact))

    below_found : (taxonomy : List (List Bool)) → IsTaxonomyOf o taxonomy → (c d : ℕ) → c < length o.names.classes → d < length o.names.classes
        → (lies_below taxonomy c d ≡ true) ↔ IsBelow (axiom_trees o) (class_at o.names c) (class_at o.names d)
    below_found taxonomy is c d l m =
        let (e, class) = w.class_nodes c l in
        let (f, above) = w.class_nodes d m in
        let by = below_where c d e f class above in
        let facts = is.below c d e f class above in
        subst₂ (λ x y. (lies_below taxonomy c d ≡ true) ↔ IsBelow (axiom_trees o) x y) (class_tree o c e class) (class_tree o d f above)
        (λ t. by.1 (facts.0 t), λ follows. facts.1 (by.0 follows))

    member_found : (types : List (List ℕ)) → AreTypesOf o types → (a d : ℕ) → a < length o.names.individuals → d < length o.names.classes
        → (is_listed types a d ≡ true) ↔ IsMember (axiom_trees o) (name_at o.names.individuals a) (class_at o.names d)
    member_found types are a d there l =
        let (f, class) = w.class_nodes d l in
        let by = member_where a d f there class in
        let facts = are.types a d f there class in
        subst (λ x. (is_listed types a d ≡ true) ↔ IsMember (axiom_trees o) (name_at o.names.individuals a) x) (class_tree o d f class)
        (λ t. by.1 (facts.0 t), λ follows. facts.1 (by.0 follows))

  pub outcome_follows : (consistent : Bool) → IsTrue consistent ↔ IsConsistent o s.normal.asked → (outcome : Outcome) → IsOutcomeOf o consistent outcome → IsWhatFollows o outcome
  outcome_follows true told (Consistent taxonomy types) is =
      let k = told.0 refl in
      record { consistent = (consistent_where o w s h true told).0 refl; below = below_found k taxonomy is.0; members = member_found k types is.1 }
  outcome_follows true told Inconsistent is = absurd is
  outcome_follows false told Inconsistent is = (contradictory o w s h).1 (λ k. false≢true (told.1 k))
  outcome_follows false told (Consistent taxonomy types) is = absurd is
