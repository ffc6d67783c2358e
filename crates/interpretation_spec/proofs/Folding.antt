-- An interpretation that is folded onto another has the same elements in each expression, and satisfies the same axioms.
use Rattle.std.proofs.Common.{◌≡◌, ℕ, ◌<◌, ◌≤◌, ◌↔◌, List, [], ◌∷◌, map, length, get_or, slice_get, Some, All, AllPairs, Option, None, zero, suc, refl, sym, ap, ◌∙◌, subst, subst₂, arith, IfSome, IsSomeAnd}
use Rattle.std.proofs.lemmas.Option.{slice_get_within, get_or_from_slice_get, none-some}
use Rattle.std.proofs.lemmas.List.{length-map}
use Rattle.std.proofs.lemmas.List.Elements.{All-head, All-tail, All-nil, All-cons, All-map, All-contains, Contains-get_or}
use Rattle.lemmas.proofs.Pairs.{AllPairs-map, AllPairs-from_map}
use Rattle.lemmas.proofs.Mapped.{All-from_map}
use Rattle.lemmas.proofs.Members.{Contains-from_slice_get}
use Rattle.axioms.specs.Ontology.{Ontology, Axiom, Node, Class, And, Exists, SubClass, EquivalentClasses, DisjointClasses, SubProperty, EquivalentProperties, Domain, Transitive, Reflexive, ClassAssertion, PropertyAssertion, SameIndividuals, DifferentIndividuals, NegativePropertyAssertion, IsPart, expression, expressions, property_name, individual_name, axiom_tree}
use Rattle.axioms.specs.WellFormedness.{IsOntology, IsAxiomOf, AreOperands}
use Rattle.axioms.proofs.Trees.{class_tree, some_tree, and_tree, by_nodes}
use Rattle.interpretation_spec.specs.Interpretation.{Interpretation, IsInterpretation, IsIn, HasPair, HasPath, IsWithin, IsSubProperty, IsSame, IsApart, IsSameProperty, IsSameElement, IsOtherElement, Satisfies}
use Rattle.interpretation_spec.proofs.Extensions.{in_intersection, each_of_intersection}
use Rattle.axioms.specs.View.{at_number}
use Rattle.interpretation_spec.specs.NamedInterpretation.{IsFirstUnsatisfied}
use Rattle.interpretation_spec.specs.Folding.{Folds}

pair_of : {B : Type 0} (R : B → B → Type 0) (g : ℕ → B) (xs : List ℕ) → AllPairs R (map g xs) → (m n c d : ℕ) → m < n → slice_get xs m ≡ Some c → slice_get xs n ≡ Some d → R (g c) (g d)
pair_of R g xs h m n c d l gc gd =
    subst₂ (λ c d. R (g c) (g d)) (get_or_from_slice_get xs m c 0 gc) (get_or_from_slice_get xs n d 0 gd) (AllPairs-from_map R g xs h m n 0 l (slice_get_within xs n d gd))

at_member : {bound : ℕ} (xs : List ℕ) → All (λ x. x < bound) xs → (n x : ℕ) → slice_get xs n ≡ Some x → x < bound
at_member {bound} xs h n x g = All-contains (λ x. x < bound) xs x h (Contains-from_slice_get xs n x g)

module _ (o : Ontology) (w : IsOntology o) (i j : Interpretation) (f : ℕ → ℕ) (fo : Folds o i j f) where
  abbrev Stays : ℕ → Type 0
  Stays e = (x : ℕ) → x < i.size → IsIn i (expression o e) x ↔ IsIn j (expression o e) (f x)

  node_stays : (e : ℕ) (node : Node) → slice_get o.nodes e ≡ Some node → ((p : ℕ) → IsPart node p → Stays p) → Stays e
  node_stays e (Class c) g ih x lx =
      let t = class_tree o c e g in
      let s = fo.classes c x (w.nodes e (Class c) g) lx in (
        λ h. subst (λ t. IsIn j t (f x)) (sym t) (sym s ∙ subst (λ t. IsIn i t x) t h),
        λ h. subst (λ t. IsIn i t x) (sym t) (s ∙ subst (λ t. IsIn j t (f x)) t h),
      )
  node_stays e (And ds) g ih x lx =
      let t = and_tree o w e ds g in
      let many : 1 ≤ length (expressions o ds) = omega (arith, (w.nodes e (And ds) g).many, length-map ds (expression o)) in (
        λ h.
            (let each = All-from_map (λ t. IsIn i t x) (expression o) ds (each_of_intersection i x (expressions o ds) many (subst (λ t. IsIn i t x) t h)) in
            subst (λ t. IsIn j t (f x)) (sym t) (in_intersection j (f x) (expressions o ds) many
            (All-map (λ t. IsIn j t (f x)) (expression o) ds (λ k d lk. (ih (get_or ds k d) (Contains-get_or ds k d lk) x lx).0 (each k d lk))))),
        λ h.
            (let each = All-from_map (λ t. IsIn j t (f x)) (expression o) ds (each_of_intersection j (f x) (expressions o ds) many (subst (λ t. IsIn j t (f x)) t h)) in
            subst (λ t. IsIn i t x) (sym t) (in_intersection i x (expressions o ds) many
            (All-map (λ t. IsIn i t x) (expression o) ds (λ k d lk. (ih (get_or ds k d) (Contains-get_or ds k d lk) x lx).1 (each k d lk))))),
      )
  node_stays e (Exists r c) g ih x lx =
      let t = some_tree o w e r c g in
      let lr = (w.nodes e (Exists r c) g).0 in (
        λ h.
            (let (y, ly, p, m) = subst (λ t. IsIn i t x) t h in
            subst (λ t. IsIn j t (f x)) (sym t) (f y, fo.within y ly, sym (fo.pairs r x y lr lx ly) ∙ p, (ih c refl y ly).0 m)),
        λ h.
            (let (z, lz, p, m) = subst (λ t. IsIn j t (f x)) t h in
            let (y, ly, is) = fo.onto z lz in
            let p' : HasPair j (property_name o r) (f x) (f y) = subst (λ z. HasPair j (property_name o r) (f x) z) (sym is) p in
            let m' : IsIn j (expression o c) (f y) = subst (λ z. IsIn j (expression o c) z) (sym is) m in
            subst (λ t. IsIn i t x) (sym t) (y, ly, fo.pairs r x y lr lx ly ∙ p', (ih c refl y ly).1 m')),
      )

  pub stays : (e x : ℕ) → e < length o.nodes → x < i.size → IsIn i (expression o e) x ↔ IsIn j (expression o e) (f x)
  stays e x le lx = by_nodes o w Stays node_stays e le x lx

module _ (o : Ontology) (w : IsOntology o) (i j : Interpretation) (f : ℕ → ℕ) (fo : Folds o i j f) where
  into : (e : ℕ) → e < length o.nodes → (x : ℕ) → x < i.size → IsIn i (expression o e) x → IsIn j (expression o e) (f x)
  into e le x lx = (stays o w i j f fo e x le lx).0

  back : (e : ℕ) → e < length o.nodes → (x : ℕ) → x < i.size → IsIn j (expression o e) (f x) → IsIn i (expression o e) x
  back e le x lx = (stays o w i j f fo e x le lx).1

  -- what holds of all that is come to holds of all
  at_each : (P : ℕ → Type 0) → ((x : ℕ) → x < i.size → P (f x)) → (y : ℕ) → y < j.size → P y
  at_each P h y ly = let (x, lx, is) = fo.onto y ly in subst P is (h x lx)

  within_to : (c d : ℕ) → c < length o.nodes → d < length o.nodes → IsWithin i (expression o c) (expression o d) → IsWithin j (expression o c) (expression o d)
  within_to c d lc ld h = at_each (λ y. IsIn j (expression o c) y → IsIn j (expression o d) y) (λ x lx m. into d ld x lx (h x lx (back c lc x lx m)))

  within_from : (c d : ℕ) → c < length o.nodes → d < length o.nodes → IsWithin j (expression o c) (expression o d) → IsWithin i (expression o c) (expression o d)
  within_from c d lc ld h x lx m = back d ld x lx (h (f x) (fo.within x lx) (into c lc x lx m))

  apart_to : (c d : ℕ) → c < length o.nodes → d < length o.nodes → IsApart i (expression o c) (expression o d) → IsApart j (expression o c) (expression o d)
  apart_to c d lc ld h = at_each (λ y. IsIn j (expression o c) y → IsIn j (expression o d) y → ⊥) (λ x lx m n. h x lx (back c lc x lx m) (back d ld x lx n))

  apart_from : (c d : ℕ) → c < length o.nodes → d < length o.nodes → IsApart j (expression o c) (expression o d) → IsApart i (expression o c) (expression o d)
  apart_from c d lc ld h x lx m n = h (f x) (fo.within x lx) (into c lc x lx m) (into d ld x lx n)

  path_to : (rs : List ℕ) → All (λ r. r < length o.names.properties) rs → (x : ℕ) → x < i.size → (y : ℕ) → HasPath i (map (property_name o) rs) x y → HasPath j (map (property_name o) rs) (f x) (f y)
  path_to [] h x lx y p = ap f p
  path_to (r ∷ rs) h x lx y (z, lz, p, q) =
      let P : ℕ → Type 0 = λ r. r < length o.names.properties in
      (f z, fo.within z lz, sym (fo.pairs r x z (All-head P r rs h) lx lz) ∙ p, path_to rs (All-tail P r rs h) z lz y q)

  -- a path that is not empty ends where it is wanted
  path_from : (r : ℕ) (rs : List ℕ) → All (λ r. r < length o.names.properties) (r ∷ rs) → (x : ℕ) → x < i.size → (y : ℕ) → y < i.size → HasPath j (map (property_name o) (r ∷ rs)) (f x) (f y) → HasPath i (map (property_name o) (r ∷ rs)) x y
  path_from r [] h x lx y ly (z, lz, p, q) =
      let P : ℕ → Type 0 = λ r. r < length o.names.properties in
      (y, ly, fo.pairs r x y (All-head P r [] h) lx ly ∙ subst (λ z. HasPair j (property_name o r) (f x) z) q p, refl)
  path_from r (s ∷ rs) h x lx y ly (z, lz, p, q) =
      let P : ℕ → Type 0 = λ r. r < length o.names.properties in
      let (z', lz', is) = fo.onto z lz in
      let p' : HasPair j (property_name o r) (f x) (f z') = subst (λ z. HasPair j (property_name o r) (f x) z) (sym is) p in
      let q' : HasPath j (map (property_name o) (s ∷ rs)) (f z') (f y) = subst (λ z. HasPath j (map (property_name o) (s ∷ rs)) z (f y)) (sym is) q in
      (z', lz', fo.pairs r x z' (All-head P r (s ∷ rs) h) lx lz' ∙ p', path_from s rs (All-tail P r (s ∷ rs) h) z' lz' y ly q')

  chain_to : (rs : List ℕ) (s : ℕ) → 1 ≤ length rs → All (λ r. r < length o.names.properties) rs → s < length o.names.properties → IsSubProperty i (map (property_name o) rs) (property_name o s) → IsSubProperty j (map (property_name o) rs) (property_name o s)
  chain_to [] s some h ls k = absurd (omega arith)
  chain_to (r ∷ rs) s some h ls k =
      at_each (λ u. (v : ℕ) → v < j.size → HasPath j (map (property_name o) (r ∷ rs)) u v → HasPair j (property_name o s) u v)
      (λ x lx. at_each (λ v. HasPath j (map (property_name o) (r ∷ rs)) (f x) v → HasPair j (property_name o s) (f x) v)
      (λ y ly p. sym (fo.pairs s x y ls lx ly) ∙ k x lx y ly (path_from r rs h x lx y ly p)))

  chain_from : (rs : List ℕ) (s : ℕ) → All (λ r. r < length o.names.properties) rs → s < length o.names.properties → IsSubProperty j (map (property_name o) rs) (property_name o s) → IsSubProperty i (map (property_name o) rs) (property_name o s)
  chain_from rs s h ls k x lx y ly p =
      fo.pairs s x y ls lx ly ∙ k (f x) (fo.within x lx) (f y) (fo.within y ly) (path_to rs h x lx y p)

  -- ---- individuals

  -- the pair of two individuals
  pair_to : IsInterpretation i → (r b c : ℕ) → r < length o.names.properties → b < length o.names.individuals → c < length o.names.individuals
      → HasPair i (property_name o r) (i.individual (individual_name o b)) (i.individual (individual_name o c)) → HasPair j (property_name o r) (j.individual (individual_name o b)) (j.individual (individual_name o c))
  pair_to v r b c lr lb lc h =
      let x = i.individual (individual_name o b) in
      let y = i.individual (individual_name o c) in
      let p : HasPair j (property_name o r) (f x) (f y) = sym (fo.pairs r x y lr (v.individuals (individual_name o b)) (v.individuals (individual_name o c))) ∙ h in
      subst₂ (λ x y. HasPair j (property_name o r) x y) (fo.individuals b lb) (fo.individuals c lc) p

  pair_from : IsInterpretation i → (r b c : ℕ) → r < length o.names.properties → b < length o.names.individuals → c < length o.names.individuals
      → HasPair j (property_name o r) (j.individual (individual_name o b)) (j.individual (individual_name o c)) → HasPair i (property_name o r) (i.individual (individual_name o b)) (i.individual (individual_name o c))
  pair_from v r b c lr lb lc h =
      let x = i.individual (individual_name o b) in
      let y = i.individual (individual_name o c) in
      fo.pairs r x y lr (v.individuals (individual_name o b)) (v.individuals (individual_name o c))
      ∙ subst₂ (λ x y. HasPair j (property_name o r) x y) (sym (fo.individuals b lb)) (sym (fo.individuals c lc)) h

  -- two individuals have one element, or two
  one_to : (b c : ℕ) → b < length o.names.individuals → c < length o.names.individuals → IsSameElement i (individual_name o b) (individual_name o c) → IsSameElement j (individual_name o b) (individual_name o c)
  one_to b c lb lc e = sym (fo.individuals b lb) ∙ ap f e ∙ fo.individuals c lc

  one_from : (b c : ℕ) → b < length o.names.individuals → c < length o.names.individuals → IsSameElement j (individual_name o b) (individual_name o c) → IsSameElement i (individual_name o b) (individual_name o c)
  one_from b c lb lc e = fo.apart b c lb lc (fo.individuals b lb ∙ e ∙ sym (fo.individuals c lc))

  one_element_to : (bs : List ℕ) → AreOperands (length o.names.individuals) bs → AllPairs (IsSameElement i) (map (individual_name o) bs) → AllPairs (IsSameElement j) (map (individual_name o) bs)
  one_element_to bs n h =
      AllPairs-map (IsSameElement j) (individual_name o) bs (λ p q b c pq gb gc.
      one_to b c (at_member bs n.within p b gb) (at_member bs n.within q c gc) (pair_of (IsSameElement i) (individual_name o) bs h p q b c pq gb gc))

  one_element_from : (bs : List ℕ) → AreOperands (length o.names.individuals) bs → AllPairs (IsSameElement j) (map (individual_name o) bs) → AllPairs (IsSameElement i) (map (individual_name o) bs)
  one_element_from bs n h =
      AllPairs-map (IsSameElement i) (individual_name o) bs (λ p q b c pq gb gc.
      one_from b c (at_member bs n.within p b gb) (at_member bs n.within q c gc) (pair_of (IsSameElement j) (individual_name o) bs h p q b c pq gb gc))

  own_elements_to : (bs : List ℕ) → AreOperands (length o.names.individuals) bs → AllPairs (IsOtherElement i) (map (individual_name o) bs) → AllPairs (IsOtherElement j) (map (individual_name o) bs)
  own_elements_to bs n h =
      AllPairs-map (IsOtherElement j) (individual_name o) bs (λ p q b c pq gb gc e.
      pair_of (IsOtherElement i) (individual_name o) bs h p q b c pq gb gc (one_from b c (at_member bs n.within p b gb) (at_member bs n.within q c gc) e))

  own_elements_from : (bs : List ℕ) → AreOperands (length o.names.individuals) bs → AllPairs (IsOtherElement j) (map (individual_name o) bs) → AllPairs (IsOtherElement i) (map (individual_name o) bs)
  own_elements_from bs n h =
      AllPairs-map (IsOtherElement i) (individual_name o) bs (λ p q b c pq gb gc e.
      pair_of (IsOtherElement j) (individual_name o) bs h p q b c pq gb gc (one_to b c (at_member bs n.within p b gb) (at_member bs n.within q c gc) e))

  pub axiom_to : IsInterpretation i → (b : Axiom) → IsAxiomOf o b → Satisfies i (axiom_tree o b) → Satisfies j (axiom_tree o b)
  axiom_to v (SubClass c d) (lc, ld) h = within_to c d lc ld h
  axiom_to v (EquivalentClasses cs) n h =
      AllPairs-map (IsSame j) (expression o) cs (λ p q c d pq gc gd.
      let (g, k) = pair_of (IsSame i) (expression o) cs h p q c d pq gc gd in
      let lc = at_member cs n.within p c gc in
      let ld = at_member cs n.within q d gd in
      (within_to c d lc ld g, within_to d c ld lc k))
  axiom_to v (DisjointClasses cs) n h =
      AllPairs-map (IsApart j) (expression o) cs (λ p q c d pq gc gd.
      apart_to c d (at_member cs n.within p c gc) (at_member cs n.within q d gd) (pair_of (IsApart i) (expression o) cs h p q c d pq gc gd))
  axiom_to v (SubProperty chain s) (many, lr, ls) h = chain_to chain s many lr ls h
  axiom_to v (EquivalentProperties rs) n h =
      AllPairs-map (IsSameProperty j) (property_name o) rs (λ p q r s pq gr gs.
      at_each (λ u. (v : ℕ) → v < j.size → j.property (property_name o r) u v ≡ j.property (property_name o s) u v)
      (λ x lx. at_each (λ v. j.property (property_name o r) (f x) v ≡ j.property (property_name o s) (f x) v)
      (λ y ly.
      sym (fo.pairs r x y (at_member rs n.within p r gr) lx ly)
      ∙ pair_of (IsSameProperty i) (property_name o) rs h p q r s pq gr gs x lx y ly
      ∙ fo.pairs s x y (at_member rs n.within q s gs) lx ly)))
  axiom_to v (Domain r c) (lr, lc) h =
      at_each (λ u. (v : ℕ) → v < j.size → HasPair j (property_name o r) u v → IsIn j (expression o c) u)
      (λ x lx. at_each (λ v. HasPair j (property_name o r) (f x) v → IsIn j (expression o c) (f x))
      (λ y ly p. into c lc x lx (h x lx y ly (fo.pairs r x y lr lx ly ∙ p))))
  axiom_to v (Transitive r) lr h =
      let P : ℕ → Type 0 = λ r. r < length o.names.properties in
      chain_to (r ∷ r ∷ []) r (omega arith) (All-cons P r (r ∷ []) lr (All-cons P r [] lr (All-nil P))) lr h
  axiom_to v (Reflexive r) lr h = at_each (λ u. HasPair j (property_name o r) u u) (λ x lx. sym (fo.pairs r x x lr lx lx) ∙ h x lx)
  axiom_to v (ClassAssertion c b) (lc, lb) h =
      subst (λ x. IsIn j (expression o c) x) (fo.individuals b lb) (into c lc (i.individual (individual_name o b)) (v.individuals (individual_name o b)) h)
  axiom_to v (PropertyAssertion r b c) (lr, lb, lc) h = pair_to v r b c lr lb lc h
  axiom_to v (SameIndividuals bs) n h = one_element_to bs n h
  axiom_to v (DifferentIndividuals bs) n h = own_elements_to bs n h
  axiom_to v (NegativePropertyAssertion r b c) n h =
      let of : (r < length o.names.properties) × (b < length o.names.individuals) × (c < length o.names.individuals) = n in
      λ p. h (pair_from v r b c of.0 of.1 of.2 p)

  pub axiom_from : IsInterpretation i → (b : Axiom) → IsAxiomOf o b → Satisfies j (axiom_tree o b) → Satisfies i (axiom_tree o b)
  axiom_from v (SubClass c d) (lc, ld) h = within_from c d lc ld h
  axiom_from v (EquivalentClasses cs) n h =
      AllPairs-map (IsSame i) (expression o) cs (λ p q c d pq gc gd.
      let (g, k) = pair_of (IsSame j) (expression o) cs h p q c d pq gc gd in
      let lc = at_member cs n.within p c gc in
      let ld = at_member cs n.within q d gd in
      (within_from c d lc ld g, within_from d c ld lc k))
  axiom_from v (DisjointClasses cs) n h =
      AllPairs-map (IsApart i) (expression o) cs (λ p q c d pq gc gd.
      apart_from c d (at_member cs n.within p c gc) (at_member cs n.within q d gd) (pair_of (IsApart j) (expression o) cs h p q c d pq gc gd))
  axiom_from v (SubProperty chain s) (many, lr, ls) h = chain_from chain s lr ls h
  axiom_from v (EquivalentProperties rs) n h =
      AllPairs-map (IsSameProperty i) (property_name o) rs (λ p q r s pq gr gs x lx y ly.
      fo.pairs r x y (at_member rs n.within p r gr) lx ly
      ∙ pair_of (IsSameProperty j) (property_name o) rs h p q r s pq gr gs (f x) (fo.within x lx) (f y) (fo.within y ly)
      ∙ sym (fo.pairs s x y (at_member rs n.within q s gs) lx ly))
  axiom_from v (Domain r c) (lr, lc) h = λ x lx y ly p.
      back c lc x lx (h (f x) (fo.within x lx) (f y) (fo.within y ly) (sym (fo.pairs r x y lr lx ly) ∙ p))
  axiom_from v (Transitive r) lr h =
      let P : ℕ → Type 0 = λ r. r < length o.names.properties in
      chain_from (r ∷ r ∷ []) r (All-cons P r (r ∷ []) lr (All-cons P r [] lr (All-nil P))) lr h
  axiom_from v (Reflexive r) lr h = λ x lx. fo.pairs r x x lr lx lx ∙ h (f x) (fo.within x lx)
  axiom_from v (ClassAssertion c b) (lc, lb) h =
      back c lc (i.individual (individual_name o b)) (v.individuals (individual_name o b)) (subst (λ x. IsIn j (expression o c) x) (sym (fo.individuals b lb)) h)
  axiom_from v (PropertyAssertion r b c) (lr, lb, lc) h = pair_from v r b c lr lb lc h
  axiom_from v (SameIndividuals bs) n h = one_element_from bs n h
  axiom_from v (DifferentIndividuals bs) n h = own_elements_from bs n h
  axiom_from v (NegativePropertyAssertion r b c) n h =
      let of : (r < length o.names.properties) × (b < length o.names.individuals) × (c < length o.names.individuals) = n in
      λ p. h (pair_to v r b c of.0 of.1 of.2 p)

  pub axiom_stays : IsInterpretation i → (b : Axiom) → IsAxiomOf o b → Satisfies i (axiom_tree o b) ↔ Satisfies j (axiom_tree o b)
  axiom_stays v b g = (axiom_to v b g, axiom_from v b g)

  -- ---- the first axiom that fails

  of_number : (n : ℕ) (b : Axiom) → at_number o.axioms n ≡ Some b → IsAxiomOf o b
  of_number zero b e = absurd (none-some b e)
  of_number (suc n) b e = at_axiom n b e
    where
      at_axiom : (n : ℕ) (b : Axiom) → slice_get o.axioms n ≡ Some b → IsAxiomOf o b
      at_axiom n b e = All-contains (IsAxiomOf o) o.axioms b w.axioms (Contains-from_slice_get o.axioms n b e)

  if_some_to : {X : Type 0} (m : Option X) (P Q : X → Type 0) → ((x : X) → m ≡ Some x → P x → Q x) → IfSome m P → IfSome m Q
  if_some_to None P Q h k = k
  if_some_to (Some x) P Q h k = h x refl k

  is_some_to : {X : Type 0} (m : Option X) (P Q : X → Type 0) → ((x : X) → m ≡ Some x → P x → Q x) → IsSomeAnd m P → IsSomeAnd m Q
  is_some_to None P Q h k = k
  is_some_to (Some x) P Q h k = h x refl k

  pub first_stays : IsInterpretation i → (n : ℕ) → IsFirstUnsatisfied o i n ↔ IsFirstUnsatisfied o j n
  first_stays v n = (
    λ h. record {
      fails = is_some_to (at_number o.axioms n) (λ b. Satisfies i (axiom_tree o b) → ⊥) (λ b. Satisfies j (axiom_tree o b) → ⊥) (λ b e k s. k (axiom_from v b (of_number n b e) s)) h.fails;
      before = λ k l. if_some_to (at_number o.axioms k) (λ b. Satisfies i (axiom_tree o b)) (λ b. Satisfies j (axiom_tree o b)) (λ b e s. axiom_to v b (of_number k b e) s) (h.before k l);
    },
    λ h. record {
      fails = is_some_to (at_number o.axioms n) (λ b. Satisfies j (axiom_tree o b) → ⊥) (λ b. Satisfies i (axiom_tree o b) → ⊥) (λ b e k s. k (axiom_to v b (of_number n b e) s)) h.fails;
      before = λ k l. if_some_to (at_number o.axioms k) (λ b. Satisfies j (axiom_tree o b)) (λ b. Satisfies i (axiom_tree o b)) (λ b e s. axiom_from v b (of_number k b e) s) (h.before k l);
    },
  )
