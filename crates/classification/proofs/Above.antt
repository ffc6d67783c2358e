-- Facts of a class are facts of each root that is in it.
use Rattle.std.proofs.Common.{◌≡◌, ℕ, ◌⊎◌, inl, inr, List, refl, subst, sym}
use Rattle.axioms.specs.Ontology.{Ontology, nothing}
use Rattle.normal_forms.specs.Forms.{Class2, Whole, Property2, Property, N4, N6, IsForm}
use Rattle.closure.specs.Closure.{Context, Expression, Individual, In, Edge, IsAtOrBelow, AreSame, IsRoot, IsFact, given, none, more}
use Rattle.closure.specs.Closure.{Gives as by}
use Rattle.closure.proofs.Facts as fact

same_number : {m n : ℕ} → Expression m ≡ Expression n → m ≡ n
same_number is = cc

no_expression : {A : Type 0} {i n : ℕ} → Individual i ≡ Expression n → A
no_expression is = absurd (cc)

module _ (o : Ontology) (asked : List ℕ) (e f : ℕ) (root : IsRoot o asked (Expression e)) (below : IsFact o asked (In (Whole f) (Expression e))) where
  -- the edge starts at the root too, or joins f to itself, and the root to itself
  Starts : Property2 → Context → Type 0
  Starts r y = IsFact o asked (Edge (Expression e) r y) ⊎ ((y ≡ Expression f) × IsFact o asked (Edge (Expression e) r (Expression e)))

  backwards : {b : Class2} (r : ℕ) (a : Class2) (q : Property2) (y : Context) → IsForm o asked (N4 r a b) → IsAtOrBelow o asked q (Property r) → IsFact o asked (In a y)
      → (y ≡ Expression f → IsFact o asked (In a (Expression e))) → Starts q y → IsFact o asked (In b (Expression e))
  unfolding Starts
  backwards r a q y form path here at_f (inl edge) = fact.predecessor r a q y form edge path here
  backwards r a q y form path here at_f (inr (same, edge)) = fact.predecessor r a q (Expression e) form edge path (at_f same)

  empty : (r : Property2) (y : Context) → IsFact o asked (In (Whole nothing) y) → (y ≡ Expression f → IsFact o asked (In (Whole nothing) (Expression e))) → Starts r y → IsFact o asked (In (Whole nothing) (Expression e))
  unfolding Starts
  empty r y here at_f (inl edge) = fact.unsatisfiable r y edge here
  empty r y here at_f (inr (same, edge)) = at_f same

  joined : {z : Context} {t : Property2} (r s p q : Property2) (y : Context) → IsForm o asked (N6 r s t) → IsAtOrBelow o asked p r → IsAtOrBelow o asked q s
      → IsFact o asked (Edge y q z) → (y ≡ Expression f → Starts q z) → Starts p y → Starts t z
  unfolding Starts
  joined r s p q y form path path' second at_f (inl edge) = inl (fact.chained r s p q y form edge second path path')
  joined r s p q y form path path' second at_f (inr (same, edge)) =
      elim (at_f same) [
        | inl other ↦ inl (fact.chained r s p q (Expression e) form edge other path path')
        | inr (is, other) ↦ inr (is, fact.chained r s p q (Expression e) form edge other path path')
      ]

  -- what starts at the root leads to each individual of the target's group
  handed : {b : ℕ} (r : Property2) (a : ℕ) → AreSame o asked a b → Starts r (Individual a) → Starts r (Individual b)
  unfolding Starts
  handed r a same (inl edge) = inl (fact.same_target a same edge)
  handed r a same (inr (is, edge)) = no_expression is

  mutual
    unfolding Starts

    class_of_root : {c : Class2} {x : Context} → x ≡ Expression f → IsFact o asked (In c x) → IsFact o asked (In c (Expression e))
    class_of_root is (given older (by.in_thing context) are) = fact.in_thing (fact.root root)
    class_of_root is (given older (by.in_itself context) are) = subst (λ n. IsFact o asked (In (Whole n) (Expression e))) (sym (same_number is)) below
    class_of_root is (given older (by.subsumed a form) (more p none)) = fact.subsumed a form (class_of_root is p)
    class_of_root is (given older (by.both a b form) (more p (more q none))) = fact.both a b form (class_of_root is p) (class_of_root is q)
    class_of_root is (given older (by.predecessor r a q y form path) (more edge (more p none))) = backwards r a q y form path p (λ same. class_of_root same p) (edge_of_root is edge)
    class_of_root is (given older (by.unsatisfiable r y) (more edge (more p none))) = empty r y p (λ same. class_of_root same p) (edge_of_root is edge)
    class_of_root is _ = no_expression is

    edge_of_root : {r : Property2} {x y : Context} → x ≡ Expression f → IsFact o asked (Edge x r y) → Starts r y
    edge_of_root is (given older (by.asserted_edge form) are) = no_expression is
    edge_of_root is (given older (by.successor a form) (more p none)) = inl (fact.successor a form (class_of_root is p))
    edge_of_root is (given older (by.chained r s p q y form path path') (more one (more two none))) = joined r s p q y form path path' two (λ same. edge_of_root same two) (edge_of_root is one)
    edge_of_root is (given older (by.loop r form context) are) = inr (is, fact.loop r form (fact.root root))
    edge_of_root is (given older (by.same_source a same) are) = no_expression is
    edge_of_root is (given older (by.same_target a same) (more edge none)) = handed _ a same (edge_of_root is edge)

  pub facts_of_facts : (c : Class2) → IsFact o asked (In c (Expression f)) → IsFact o asked (In c (Expression e))
  facts_of_facts c p = class_of_root refl p
