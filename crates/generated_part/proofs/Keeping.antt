-- What a generated part keeps: the extensions of expressions, and the axioms that hold.
use Rattle.std.proofs.Common.{◌≡◌, ℕ, ◌<◌, ◌≤◌, ◌↔◌, List, [], ◌∷◌, map, length, get_or, slice_get, Some, All, AllPairs, refl, sym, ap, ◌∙◌, subst, subst₂, arith, inl, inr}
use Rattle.std.specs.List.Sorted.{IsStrictlyIncreasing}
use Rattle.std.proofs.lemmas.Bool.{cases_order}
use Rattle.std.proofs.lemmas.Option.{slice_get_within, get_or_from_slice_get, same_Some}
use Rattle.std.proofs.lemmas.List.{length-map}
use Rattle.std.proofs.lemmas.List.Elements.{All-head, All-tail, All-nil, All-cons, All-map, All-contains, Contains-get_or}
use Rattle.std.proofs.lemmas.List.Kept.{AllPairs-from_increasing}
use Rattle.lemmas.proofs.Pairs.{AllPairs-map, AllPairs-from_map}
use Rattle.lemmas.proofs.Mapped.{All-from_map}
use Rattle.lemmas.proofs.Members.{Contains-from_slice_get, slice_get-from_Contains}
use Rattle.lemmas.proofs.Places.{slice_get_there}
use Rattle.axioms.specs.Axiom as tree
use Rattle.axioms.specs.Ontology.{Ontology, Axiom, Node, Class, And, Exists, SubClass, EquivalentClasses, DisjointClasses, SubProperty, EquivalentProperties, Domain, Transitive, Reflexive, ClassAssertion, PropertyAssertion, SameIndividuals, DifferentIndividuals, NegativePropertyAssertion, IsPart, expression, expressions, property_name, individual_name, axiom_tree, axiom_trees}
use Rattle.axioms.specs.WellFormedness.{IsOntology, IsAxiomOf, AreOperands}
use Rattle.axioms.proofs.Trees.{class_tree, some_tree, and_tree, by_nodes}
use Rattle.interpretation_spec.specs.Interpretation.{Interpretation, IsInterpretation, IsModel, IsIn, HasPath, IsSame, IsApart, IsSameProperty, IsSameElement, IsOtherElement, Satisfies}
use Rattle.interpretation_spec.proofs.Extensions.{in_intersection, each_of_intersection}
use Rattle.generated_part.specs.GeneratedPart.{IsReached, start, individual, step, IsGenerated}

-- two places of a list whose images agree by pairs
pair_of : {B : Type 0} (R : B → B → Type 0) (f : ℕ → B) (xs : List ℕ) → AllPairs R (map f xs) → (m n c d : ℕ) → m < n → slice_get xs m ≡ Some c → slice_get xs n ≡ Some d → R (f c) (f d)
pair_of R f xs h m n c d l gc gd =
    subst₂ (λ c d. R (f c) (f d)) (get_or_from_slice_get xs m c 0 gc) (get_or_from_slice_get xs n d 0 gd) (AllPairs-from_map R f xs h m n 0 l (slice_get_within xs n d gd))

at_member : {bound : ℕ} (xs : List ℕ) → All (λ x. x < bound) xs → (n x : ℕ) → slice_get xs n ≡ Some x → x < bound
at_member {bound} xs h n x g = All-contains (λ x. x < bound) xs x h (Contains-from_slice_get xs n x g)

-- in an ascending list a number has one place
pub one_place : (xs : List ℕ) → IsStrictlyIncreasing xs → (m n x : ℕ) → slice_get xs m ≡ Some x → slice_get xs n ≡ Some x → m ≡ n
one_place xs ascend m n x gm gn =
    let below = AllPairs-from_increasing xs ascend in
    let lm = slice_get_within xs m x gm in
    let ln = slice_get_within xs n x gn in
    let em = get_or_from_slice_get xs m x 0 gm in
    let en = get_or_from_slice_get xs n x 0 gn in
    elim (cases_order m n) [
      | inl e ↦ e
      | inr (inl l) ↦ (let less = below m n 0 l ln in absurd (omega arith))
      | inr (inr l) ↦ (let less = below n m 0 l lm in absurd (omega arith))
    ]

module _ (o : Ontology) (w : IsOntology o) (i part : Interpretation) (from new : ℕ) (v : IsInterpretation i) (g : IsGenerated o i from part new) where
  abbrev At : ℕ → ℕ → Type 0
  At m x = slice_get g.elements m ≡ Some x

  inside : (x : ℕ) → IsReached o i from x → x < i.size
  inside x (start l) = l
  inside x (individual a la e) = subst (λ y. y < i.size) e (v.individuals (individual_name o a))
  inside x (step r y h lr lx p) = lx

  reached : (m x : ℕ) → At m x → IsReached o i from x
  reached m x at = (g.reached x).0 (Contains-from_slice_get g.elements m x at)

  in_whole : (m x : ℕ) → At m x → x < i.size
  in_whole m x at = inside x (reached m x at)

  in_part : (m x : ℕ) → At m x → m < part.size
  in_part m x at = subst (λ n. m < n) (sym g.size) (slice_get_within g.elements m x at)

  place : (x : ℕ) → IsReached o i from x → (m : ℕ) × At m x
  place x h = slice_get-from_Contains g.elements x ((g.reached x).1 h)

  element : (m : ℕ) → m < part.size → (x : ℕ) × At m x
  element m l = slice_get_there g.elements m (subst (λ n. m < n) g.size l)

  abbrev Same : ℕ → Type 0
  Same e = (m x : ℕ) → At m x → IsIn part (expression o e) m ↔ IsIn i (expression o e) x

  node_same : (e : ℕ) (node : Node) → slice_get o.nodes e ≡ Some node → ((p : ℕ) → IsPart node p → Same p) → Same e
  node_same e (Class c) n ih m x at =
      let t = class_tree o c e n in
      let s = g.classes c m x (w.nodes e (Class c) n) at in
      (λ h. subst (λ t. IsIn i t x) (sym t) (sym s ∙ subst (λ t. IsIn part t m) t h), λ h. subst (λ t. IsIn part t m) (sym t) (s ∙ subst (λ t. IsIn i t x) t h))
  node_same e (And ds) n ih m x at =
      let many : 1 ≤ length (expressions o ds) = omega (arith, (w.nodes e (And ds) n).many, length-map ds (expression o)) in
      let t = and_tree o w e ds n in (
        λ h.
            let each = All-from_map (λ t. IsIn part t m) (expression o) ds (each_of_intersection part m (expressions o ds) many (subst (λ t. IsIn part t m) t h)) in
            subst (λ t. IsIn i t x) (sym t)
            (in_intersection i x (expressions o ds) many
            (All-map (λ t. IsIn i t x) (expression o) ds (λ k d lk. (ih (get_or ds k d) (Contains-get_or ds k d lk) m x at).0 (each k d lk)))),
        λ h.
            let each = All-from_map (λ t. IsIn i t x) (expression o) ds (each_of_intersection i x (expressions o ds) many (subst (λ t. IsIn i t x) t h)) in
            subst (λ t. IsIn part t m) (sym t)
            (in_intersection part m (expressions o ds) many
            (All-map (λ t. IsIn part t m) (expression o) ds (λ k d lk. (ih (get_or ds k d) (Contains-get_or ds k d lk) m x at).1 (each k d lk)))),
      )
  node_same e (Exists r c) n ih m x at =
      let t = some_tree o w e r c n in
      let lr = (w.nodes e (Exists r c) n).0 in (
        λ h.
            let (k, lk, p, q) = subst (λ t. IsIn part t m) t h in
            let (y, aty) = element k lk in
            subst (λ t. IsIn i t x) (sym t) (y, in_whole k y aty, sym (g.pairs r m k x y lr at aty) ∙ p, (ih c refl k y aty).0 q),
        λ h.
            let (y, ly, p, q) = subst (λ t. IsIn i t x) t h in
            let (k, atk) = place y (step r x (reached m x at) lr ly p) in
            subst (λ t. IsIn part t m) (sym t) (k, in_part k y atk, g.pairs r m k x y lr at atk ∙ p, (ih c refl k y atk).1 q),
      )

  pub same : (e : ℕ) → e < length o.nodes → Same e
  same e le = by_nodes o w Same node_same e le

  path : (rs : List ℕ) → All (λ r. r < length o.names.properties) rs → (m n x y : ℕ) → At m x → At n y → HasPath part (map (property_name o) rs) m n → HasPath i (map (property_name o) rs) x y
  path [] h m n x y atm atn p = same_Some x y (sym atm ∙ ap (slice_get g.elements) p ∙ atn)
  path (r ∷ rs) h m n x y atm atn (k, lk, p, q) =
      let P : ℕ → Type 0 = λ r. r < length o.names.properties in
      let (z, atz) = element k lk in
      (z, in_whole k z atz, sym (g.pairs r m k x z (All-head P r rs h) atm atz) ∙ p, path rs (All-tail P r rs h) k n z y atz atn q)

  chain_kept : (rs : List ℕ) (s : ℕ) → All (λ r. r < length o.names.properties) rs → s < length o.names.properties → Satisfies i (tree.SubPropertyOf (map (property_name o) rs) (property_name o s)) → Satisfies part (tree.SubPropertyOf (map (property_name o) rs) (property_name o s))
  chain_kept rs s h ls k m lm n ln p =
      let (x, atm) = element m lm in
      let (y, atn) = element n ln in
      g.pairs s m n x y ls atm atn ∙ k x (in_whole m x atm) y (in_whole n y atn) (path rs h m n x y atm atn p)

  -- elements are renumbered one to one
  one_element_kept : (bs : List ℕ) → AreOperands (length o.names.individuals) bs → AllPairs (IsSameElement i) (map (individual_name o) bs) → AllPairs (IsSameElement part) (map (individual_name o) bs)
  one_element_kept bs n h =
      AllPairs-map (IsSameElement part) (individual_name o) bs (λ p q b c pq gb gc.
      let k = part.individual (individual_name o b) in
      let e = pair_of (IsSameElement i) (individual_name o) bs h p q b c pq gb gc in
      one_place g.elements g.ascend k (part.individual (individual_name o c)) (i.individual (individual_name o c))
      (subst (λ x. At k x) e (g.individuals b (at_member bs n.within p b gb))) (g.individuals c (at_member bs n.within q c gc)))

  own_elements_kept : (bs : List ℕ) → AreOperands (length o.names.individuals) bs → AllPairs (IsOtherElement i) (map (individual_name o) bs) → AllPairs (IsOtherElement part) (map (individual_name o) bs)
  own_elements_kept bs n h =
      AllPairs-map (IsOtherElement part) (individual_name o) bs (λ p q b c pq gb gc e.
      pair_of (IsOtherElement i) (individual_name o) bs h p q b c pq gb gc
      (same_Some (i.individual (individual_name o b)) (i.individual (individual_name o c))
      (sym (g.individuals b (at_member bs n.within p b gb)) ∙ ap (slice_get g.elements) e ∙ g.individuals c (at_member bs n.within q c gc))))

  pub axiom_kept : (b : Axiom) → IsAxiomOf o b → Satisfies i (axiom_tree o b) → Satisfies part (axiom_tree o b)
  axiom_kept (SubClass c d) (lc, ld) h = λ m lm k.
      let (x, at) = element m lm in (same d ld m x at).1 (h x (in_whole m x at) ((same c lc m x at).0 k))
  axiom_kept (EquivalentClasses cs) n h =
      AllPairs-map (IsSame part) (expression o) cs (λ p q c d pq gc gd.
      let (f, b) = pair_of (IsSame i) (expression o) cs h p q c d pq gc gd in
      let lc = at_member cs n.within p c gc in
      let ld = at_member cs n.within q d gd in (
        λ m lm k. (let (x, at) = element m lm in (same d ld m x at).1 (f x (in_whole m x at) ((same c lc m x at).0 k))),
        λ m lm k. (let (x, at) = element m lm in (same c lc m x at).1 (b x (in_whole m x at) ((same d ld m x at).0 k))),
      ))
  axiom_kept (DisjointClasses cs) n h =
      AllPairs-map (IsApart part) (expression o) cs (λ p q c d pq gc gd m lm k l.
      let (x, at) = element m lm in
      pair_of (IsApart i) (expression o) cs h p q c d pq gc gd x (in_whole m x at) ((same c (at_member cs n.within p c gc) m x at).0 k) ((same d (at_member cs n.within q d gd) m x at).0 l))
  axiom_kept (SubProperty chain s) (many, lr, ls) h = chain_kept chain s lr ls h
  axiom_kept (EquivalentProperties rs) n h =
      AllPairs-map (IsSameProperty part) (property_name o) rs (λ p q r s pq gr gs m lm k lk.
      let (x, atm) = element m lm in
      let (y, atk) = element k lk in
      g.pairs r m k x y (at_member rs n.within p r gr) atm atk
      ∙ (pair_of (IsSameProperty i) (property_name o) rs h p q r s pq gr gs x (in_whole m x atm) y (in_whole k y atk)
      ∙ sym (g.pairs s m k x y (at_member rs n.within q s gs) atm atk)))
  axiom_kept (Domain r c) (lr, lc) h = λ m lm k lk p.
      let (x, atm) = element m lm in
      let (y, atk) = element k lk in
      (same c lc m x atm).1 (h x (in_whole m x atm) y (in_whole k y atk) (sym (g.pairs r m k x y lr atm atk) ∙ p))
  axiom_kept (Transitive r) lr h =
      let P : ℕ → Type 0 = λ r. r < length o.names.properties in
      chain_kept (r ∷ r ∷ []) r (All-cons P r (r ∷ []) lr (All-cons P r [] lr (All-nil P))) lr h
  axiom_kept (Reflexive r) lr h = λ m lm. let (x, at) = element m lm in g.pairs r m m x x lr at at ∙ h x (in_whole m x at)
  axiom_kept (ClassAssertion c b) (lc, lb) h = (same c lc (part.individual (individual_name o b)) (i.individual (individual_name o b)) (g.individuals b lb)).1 h
  axiom_kept (PropertyAssertion r b c) (lr, lb, lc) h =
      g.pairs r (part.individual (individual_name o b)) (part.individual (individual_name o c)) (i.individual (individual_name o b)) (i.individual (individual_name o c)) lr (g.individuals b lb) (g.individuals c lc) ∙ h
  axiom_kept (SameIndividuals bs) n h = one_element_kept bs n h
  axiom_kept (DifferentIndividuals bs) n h = own_elements_kept bs n h
  axiom_kept (NegativePropertyAssertion r b c) of h =
      λ p. h (sym (g.pairs r (part.individual (individual_name o b)) (part.individual (individual_name o c)) (i.individual (individual_name o b)) (i.individual (individual_name o c)) of.0 (g.individuals b of.1) (g.individuals c of.2)) ∙ p)

-- the part of a model is a model
pub model_kept : (o : Ontology) → IsOntology o → (i part : Interpretation) (from new : ℕ) → IsGenerated o i from part new → IsInterpretation part → IsModel i (axiom_trees o) → IsModel part (axiom_trees o)
model_kept o w i part from new g p m = record {
  interpretation = p;
  satisfied = All-map (Satisfies part) (axiom_tree o) o.axioms (λ k b lk. axiom_kept o w i part from new m.interpretation g (get_or o.axioms k b) (w.axioms k b lk) (All-from_map (Satisfies i) (axiom_tree o) o.axioms m.satisfied k b lk));
}
