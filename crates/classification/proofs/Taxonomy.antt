-- Lists by the facts of a saturation are the relations of its closure.
use Rattle.std.proofs.Common.{◌≡◌, ◌↔◌, ℕ, ◌<◌, ◌||◌, Bool, true, ◌⊎◌, inl, inr, List, [], length, sym, ◌∙◌, arith}
use Rattle.std.proofs.lemmas.Bool.{or_cases, or_left, or_right}
use Rattle.axioms.specs.Ontology.{Ontology, Class, IsClassAt, nothing}
use Rattle.axioms.specs.WellFormedness.{IsOntology}
use Rattle.closure.specs.Closure.{Expression, In, IsRoot, IsFact}
use Rattle.closure.proofs.Facts as fact
use Rattle.closure.specs.Denotations.{Prefixes}
use Rattle.engine.specs.Saturations.{SayTheClosure}
use Rattle.facts.specs.declared.contexts.Fact as code_fact
use Rattle.normal_forms.specs.Forms.{Whole}
use Rattle.taxonomy.specs.Texts.{nothing_class}
use Rattle.taxonomy.specs.Relation.{IsPreorder, is_below, is_listed, lies_below}
use Rattle.classification.specs.Lists.{AreClassLists, AreTypeLists, IsTaxonomyOf, AreTypesOf}
use Rattle.classification.proofs.Above.{facts_of_facts}
use Rattle.classification.proofs.Saying.{below_by_fact, type_by_fact}

module _ (o : Ontology) (w : IsOntology o) (b : Prefixes) (facts : List code_fact.Fact) (h : SayTheClosure o [] b facts) where
  module _ (lists : List (List ℕ)) (are : AreClassLists o facts lists) where
    list_says : (c d e f : ℕ) → IsClassAt o c e → IsClassAt o d f → (is_listed lists c d ≡ true) ↔ IsFact o [] (In (Whole f) (Expression e))
    list_says c d e f class above =
        let by = below_by_fact o [] w b facts h c d e f class above in
        (λ t. by.0 ((are.each c d).0 t), λ k. (are.each c d).1 (by.1 k))

    below : (rows : List (List Bool)) → length rows ≡ length lists → ((c d : ℕ) → c < length rows → d < length rows → lies_below rows c d ≡ is_below lists c d)
        → (c d e f : ℕ) → IsClassAt o c e → IsClassAt o d f → (lies_below rows c d ≡ true) ↔ (IsFact o [] (In (Whole nothing) (Expression e)) ⊎ IsFact o [] (In (Whole f) (Expression e)))
    below rows long each c d e f class above =
        let c_in : c < length o.names.classes = w.nodes e (Class c) class in
        let d_in : d < length o.names.classes = w.nodes f (Class d) above in
        let is : lies_below rows c d ≡ (is_listed lists c nothing_class || is_listed lists c d) = each c d (omega (arith, long, are.long)) (omega (arith, long, are.long)) in
        let bottom = list_says c nothing_class e nothing class w.nothing_node in
        let here = list_says c d e f class above in (
          λ t. elim (or_cases (is_listed lists c nothing_class) (is_listed lists c d) (sym is ∙ t)) [ inl k ↦ inl (bottom.0 k) | inr k ↦ inr (here.0 k) ],
          λ s. is ∙ elim s [
            | inl k ↦ or_left (is_listed lists c nothing_class) (is_listed lists c d) (bottom.1 k)
            | inr k ↦ or_right (is_listed lists c nothing_class) (is_listed lists c d) (here.1 k)
          ],
        )

    pub is_taxonomy : (rows : List (List Bool)) → length rows ≡ length lists → ((c d : ℕ) → c < length rows → d < length rows → lies_below rows c d ≡ is_below lists c d) → IsTaxonomyOf o rows
    is_taxonomy rows long each = record { long = long ∙ are.long; below = below rows long each }

  pub are_types : (lists : List (List ℕ)) → AreTypeLists o facts lists → AreTypesOf o lists
  are_types lists are = record {
    long = are.long;
    over = λ a d t. let (n, fact, at, (i, f, is, same, above)) = (are.each a d).0 t in w.nodes f.0 (Class d) above;
    types = λ a d f l above.
        let by = type_by_fact o [] w b facts h a d f above in
        (λ t. by.0 ((are.each a d).0 t), λ k. (are.each a d).1 (by.1 k));
  }

-- ---- the classes by the closure are a preorder

module _ (o : Ontology) (w : IsOntology o) (rows : List (List Bool)) (is : IsTaxonomyOf o rows) where
  -- owl:Nothing or the second class is in the first
  IsBelow : ℕ → ℕ → Type 0
  IsBelow e f = IsFact o [] (In (Whole nothing) (Expression e)) ⊎ IsFact o [] (In (Whole f) (Expression e))

  onwards : (e f g : ℕ) → IsRoot o [] (Expression e) → IsBelow e f → IsBelow f g → IsBelow e g
  unfolding IsBelow
  onwards e f g root (inl empty) next = inl empty
  onwards e f g root (inr there) (inl empty) = inl (facts_of_facts o [] e f root there (Whole nothing) empty)
  onwards e f g root (inr there) (inr next) = inr (facts_of_facts o [] e f root there (Whole g) next)

  below_itself : (c : ℕ) → c < length rows → lies_below rows c c ≡ true
  below_itself c l =
      let (e, class) = w.class_nodes c (omega (arith, is.long)) in
      (is.below c c e e class class).1 (inr (fact.in_itself (fact.root (IsRoot.named c e class))))

  below_all : (c d k : ℕ) → c < length rows → d < length rows → k < length rows → lies_below rows c d ≡ true → lies_below rows d k ≡ true → lies_below rows c k ≡ true
  unfolding IsBelow
  below_all c d k c_in d_in k_in first second =
      let (e, class) = w.class_nodes c (omega (arith, is.long)) in
      let (f, above) = w.class_nodes d (omega (arith, is.long)) in
      let (g, last) = w.class_nodes k (omega (arith, is.long)) in
      (is.below c k e g class last).1 (onwards e f g (IsRoot.named c e class) ((is.below c d e f class above).0 first) ((is.below d k f g above last).0 second))

  pub is_preorder : IsPreorder rows
  is_preorder = record { reflexive = below_itself; transitive = below_all }
