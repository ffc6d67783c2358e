-- Every rule keeps truth.
use Rattle.std.proofs.Common.{◌≡◌, ℕ, ◌<◌, ◌≤◌, List, [], ◌∷◌, map, length, slice_get, Some, None, All, IfSome, Option, Contains, refl, sym, ◌∙◌, subst, arith, inl, inr}
use Rattle.std.specs.List.{AllByRecursion}
use Rattle.std.proofs.lemmas.List.{length-map}
use Rattle.std.proofs.lemmas.List.Elements.{All-cons, All-nil}
use Rattle.lemmas.proofs.Pairs.{AllPairs-from_map}
use Rattle.axioms.specs.Ontology.{Ontology, Axiom, And, SubClass, EquivalentClasses, DisjointClasses, SubProperty, EquivalentProperties, Domain, Transitive, Reflexive, ClassAssertion, PropertyAssertion, SameIndividuals, DifferentIndividuals, NegativePropertyAssertion, thing, nothing, expression, expressions, property_name, individual_name, axiom_tree}
use Rattle.axioms.specs.WellFormedness.{IsOntology}
use Rattle.axioms.proofs.Trees.{and_tree, some_tree}
use Rattle.interpretation_spec.specs.Interpretation.{Interpretation, IsInterpretation, IsIn, HasPair, HasPath, IsSame, IsApart, IsSameProperty, IsSameElement, IsOtherElement, Satisfies}
use Rattle.interpretation_spec.proofs.Extensions.{in_intersection, each_of_intersection, in_thing, not_in_nothing}
use Rattle.certificate.specs.Certificate.{Subject, Expression, Individual, Conclusion, Sub, Edge, Same}
use Rattle.certificate.specs.declared.line.Rule.{Rule}
use Rattle.certificate.specs.declared.line.Rule.TheVariants.{K1, K2, K3, K4, K5, K6, K7, K8, K9, K10, K11, K12, K13, K14, K15, K16, K17, K18, K19, K20}
use Rattle.cert_check.specs.Lines.{IsOf, IsTrueIn, IsWalk, IsMovedEdge, Follows}
use Rattle.cert_check.proofs.Places.{mapped_member, at_places, of_elements}

-- the interpretation satisfies the axiom, if there is one
abbrev pub Holds : Ontology → Interpretation → Option Axiom → Type 0
Holds o i axiom' = IfSome axiom' (λ a. Satisfies i (axiom_tree o a))

-- ---- what a rule takes from its premises

moved : (o : Ontology) (i : Interpretation) (x y : Subject) (z : ℕ) → x ≡ y → IsOf o i y z → IsOf o i x z
moved o i x y z e m = subst (λ s. IsOf o i s z) (sym e) m

renamed : (o : Ontology) (i : Interpretation) (c d x : ℕ) → c ≡ d → IsIn i (expression o c) x → IsIn i (expression o d) x
renamed o i c d x e m = subst (λ c. IsIn i (expression o c) x) e m

re_paired : (o : Ontology) (i : Interpretation) (r s x y : ℕ) → r ≡ s → HasPair i (property_name o r) x y → HasPair i (property_name o s) x y
re_paired o i r s x y e p = subst (λ r. HasPair i (property_name o r) x y) e p

-- from an element of the first subject of a walk a path leads to one of the last
path_along : (o : Ontology) (i : Interpretation) (s : Subject) (rs : List ℕ) (t : Subject) (premises : List Conclusion) → IsWalk s rs t premises → AllByRecursion (IsTrueIn o i) premises → (x : ℕ) → x < i.size → IsOf o i s x → (y : ℕ) × (y < i.size) × HasPath i (map (property_name o) rs) x y × IsOf o i t y
path_along o i s [] t [] w h x l m = (x, l, refl, subst (λ u. IsOf o i u x) w m)
path_along o i s [] t (p ∷ ps) w h x l m = absurd w
path_along o i s (r ∷ rs) t [] w h x l m = absurd w
path_along o i s (r ∷ rs) t (p ∷ ps) (z, e, w) h x l m =
    let step : IsTrueIn o i (Edge s r z) = subst (IsTrueIn o i) e h.0 in
    let (y, k, pair, my) = step x l m in
    let (v, j, path, mv) = path_along o i z rs t ps w h.1 y k my in
    (v, j, (y, k, pair, path), mv)

some_operands : (o : Ontology) → IsOntology o → (c : ℕ) (ds : List ℕ) → slice_get o.nodes c ≡ Some (And ds) → 1 ≤ length (expressions o ds)
some_operands o w c ds g = omega (arith, (w.nodes c (And ds) g).many, length-map ds (expression o))

in_each : (o : Ontology) (i : Interpretation) (x : Subject) (ds : List ℕ) → AllByRecursion (IsTrueIn o i) (map (Sub x) ds) → (z : ℕ) → z < i.size → IsOf o i x z → All (λ t. IsIn i t z) (expressions o ds)
in_each o i x [] h z l m = All-nil (λ t. IsIn i t z)
in_each o i x (d ∷ ds) h z l m =
    All-cons (λ t. IsIn i t z) (expression o d) (expressions o ds) (h.0 z l m) (in_each o i x ds h.1 z l m)

-- ---- what the axiom of a rule says of extensions

same_class : (o : Ontology) (i : Interpretation) (cs : List ℕ) → Satisfies i (axiom_tree o (EquivalentClasses cs)) → (c d : ℕ) → Contains cs c → Contains cs d → IsSame i (expression o c) (expression o d)
same_class o i cs h c d p q =
    of_elements (λ a b. IsSame i (expression o a) (expression o b)) (λ a. (λ x l m. m, λ x l m. m)) (λ a b s. (s.1, s.0)) cs
    (AllPairs-from_map (IsSame i) (expression o) cs h) c d p q

same_property : (o : Ontology) (i : Interpretation) (rs : List ℕ) → Satisfies i (axiom_tree o (EquivalentProperties rs)) → (r s : ℕ) → Contains rs r → Contains rs s → IsSameProperty i (property_name o r) (property_name o s)
same_property o i rs h r s p q =
    of_elements (λ a b. IsSameProperty i (property_name o a) (property_name o b)) (λ a x l y k. refl) (λ a b e x l y k. sym (e x l y k)) rs
    (AllPairs-from_map (IsSameProperty i) (property_name o) rs h) r s p q

apart_at : (o : Ontology) (i : Interpretation) (cs : List ℕ) → Satisfies i (axiom_tree o (DisjointClasses cs)) → (m n c d : ℕ) → (m ≡ n → ⊥) → slice_get cs m ≡ Some c → slice_get cs n ≡ Some d → IsApart i (expression o c) (expression o d)
apart_at o i cs h m n c d apart gc gd =
    at_places (λ a b. IsApart i (expression o a) (expression o b)) (λ a b f y l p q. f y l q p) cs
    (AllPairs-from_map (IsApart i) (expression o) cs h) m n c d apart gc gd

one_element : (o : Ontology) (i : Interpretation) (xs : List ℕ) → Satisfies i (axiom_tree o (SameIndividuals xs)) → (m n a b : ℕ) → (m ≡ n → ⊥) → slice_get xs m ≡ Some a → slice_get xs n ≡ Some b → IsSameElement i (individual_name o a) (individual_name o b)
one_element o i xs h m n a b apart ga gb =
    at_places (λ a b. IsSameElement i (individual_name o a) (individual_name o b)) (λ a b e. sym e) xs
    (AllPairs-from_map (IsSameElement i) (individual_name o) xs h) m n a b apart ga gb

two_elements : (o : Ontology) (i : Interpretation) (xs : List ℕ) → Satisfies i (axiom_tree o (DifferentIndividuals xs)) → (m n a b : ℕ) → (m ≡ n → ⊥) → slice_get xs m ≡ Some a → slice_get xs n ≡ Some b → IsOtherElement i (individual_name o a) (individual_name o b)
two_elements o i xs h m n a b apart ga gb =
    at_places (λ a b. IsOtherElement i (individual_name o a) (individual_name o b)) (λ a b f e. f (sym e)) xs
    (AllPairs-from_map (IsOtherElement i) (individual_name o) xs h) m n a b apart ga gb

-- ---- what holds of an individual holds of one that is one with it

-- where two individuals have one element, the set of one is that of the other
replaced : (o : Ontology) (i : Interpretation) (a b : ℕ) (x y : Subject) (z : ℕ) → IsTrueIn o i (Same a b) → x ≡ Individual a → y ≡ Individual b → IsOf o i x z → IsOf o i y z
replaced o i a b x y z h ex ey m = moved o i y (Individual b) z ey (moved o i (Individual a) x z (sym ex) m ∙ h)

moved_edge : (o : Ontology) (i : Interpretation) (a b : ℕ) (x y z w : Subject) (r s : ℕ) → IsMovedEdge a b (Edge x r y) (Edge z s w) → IsTrueIn o i (Same a b) → IsTrueIn o i (Edge x r y) → IsTrueIn o i (Edge z s w)
moved_edge o i a b x y z w r s (rs, inl (eb, ea, yw)) h k p l m =
    let (q, j, pair, n) = k p l (replaced o i a b z x p h ea eb m) in
    (q, j, re_paired o i r s p q rs pair, moved o i w y q (sym yw) n)
moved_edge o i a b x y z w r s (rs, inr (eb, ea, xz)) h k p l m =
    let (q, j, pair, n) = k p l (moved o i x z p xz m) in
    (q, j, re_paired o i r s p q rs pair, replaced o i b a y w q (sym h) eb ea n)

-- ---- the rules

pub rule_keeps_truth : (o : Ontology) → IsOntology o → (i : Interpretation) → IsInterpretation i → (rule : Rule) (premises : List Conclusion) (axiom' : Option Axiom) (conclusion : Conclusion) → Follows o rule premises axiom' conclusion → Holds o i axiom' → AllByRecursion (IsTrueIn o i) premises → IsTrueIn o i conclusion
rule_keeps_truth o w i v K1 [] None (Sub x c) e ha hp = λ z l m. moved o i (Expression c) x z (sym e) m
rule_keeps_truth o w i v K2 [] None (Sub x c) e ha hp = λ z l m. renamed o i thing c z (sym e) (in_thing o w i v z l)
rule_keeps_truth o w i v K3 (Sub x c ∷ []) None (Sub y d) (e, f) ha hp = λ z l m.
    absurd (not_in_nothing o w i v z l (renamed o i c nothing z f (hp.0 z l (moved o i x y z e m))))
rule_keeps_truth o w i v K4 (Sub x c ∷ []) (Some (SubClass a b)) (Sub y d) (e, f, g) ha hp = λ z l m.
    renamed o i b d z (sym g) (ha z l (renamed o i c a z f (hp.0 z l (moved o i x y z e m))))
rule_keeps_truth o w i v K4 (Sub x c ∷ []) (Some (EquivalentClasses cs)) (Sub y d) (e, p, q) ha hp = λ z l m.
    (same_class o i cs ha c d p q).0 z l (hp.0 z l (moved o i x y z e m))
rule_keeps_truth o w i v K5 premises None (Sub x c) (ds, g, ep) ha hp = λ z l m.
    subst (λ t. IsIn i t z) (sym (and_tree o w c ds g))
    (in_intersection i z (expressions o ds) (some_operands o w c ds g) (in_each o i x ds (subst (AllByRecursion (IsTrueIn o i)) ep hp) z l m))
rule_keeps_truth o w i v K6 (Sub x c ∷ []) None (Sub y d) (e, ds, g, k) ha hp = λ z l m.
    mapped_member (λ t. IsIn i t z) (expression o) ds d
    (each_of_intersection i z (expressions o ds) (some_operands o w c ds g)
    (subst (λ t. IsIn i t z) (and_tree o w c ds g) (hp.0 z l (moved o i x y z e m)))) k
rule_keeps_truth o w i v K7 (Sub x c ∷ Sub y d ∷ []) (Some (DisjointClasses cs)) (Sub u e) (xy, xu, (m, n, apart, gc, gd), eu) ha hp = λ z l k.
    let mx = moved o i x u z xu k in
    absurd (apart_at o i cs ha m n c d apart gc gd z l (hp.0 z l mx) (hp.1.0 z l (moved o i y x z (sym xy) mx)))
rule_keeps_truth o w i v K8 (Sub x e ∷ []) None (Edge y r (Expression c)) (xy, g) ha hp = λ z l m.
    subst (λ t. IsIn i t z) (some_tree o w e r c g) (hp.0 z l (moved o i x y z xy m))
rule_keeps_truth o w i v K9 (Edge x r y ∷ Sub z c ∷ []) None (Sub u e) (xu, yz, g) ha hp = λ p l m.
    let (q, k, pair, n) = hp.0 p l (moved o i x u p xu m) in
    subst (λ t. IsIn i t p) (sym (some_tree o w e r c g)) (q, k, pair, hp.1.0 q k (moved o i z y q (sym yz) n))
rule_keeps_truth o w i v K10 (Edge x r y ∷ []) (Some (Domain s c)) (Sub z d) (xz, rs, cd) ha hp = λ p l m.
    let (q, k, pair, n) = hp.0 p l (moved o i x z p xz m) in
    renamed o i c d p cd (ha p l q k (re_paired o i r s p q rs pair))
rule_keeps_truth o w i v K11 (Edge x r y ∷ Sub z c ∷ []) None (Sub u d) (xu, yz, ec, ed) ha hp = λ p l m.
    let (q, k, pair, n) = hp.0 p l (moved o i x u p xu m) in
    absurd (not_in_nothing o w i v q k (renamed o i c nothing q ec (hp.1.0 q k (moved o i z y q (sym yz) n))))
rule_keeps_truth o w i v K12 (Edge x r y ∷ []) (Some (SubProperty chain s)) (Edge u t z) (xu, yz, one, st) ha hp = λ p l m.
    let (q, k, pair, n) = hp.0 p l (moved o i x u p xu m) in
    let path : HasPath i (map (property_name o) chain) p q = subst (λ rs. HasPath i (map (property_name o) rs) p q) (sym one) (q, k, pair, refl) in
    (q, k, re_paired o i s t p q st (ha p l q k path), moved o i z y q (sym yz) n)
rule_keeps_truth o w i v K12 (Edge x r y ∷ []) (Some (EquivalentProperties rs)) (Edge u s z) (xu, yz, hr, hs) ha hp = λ p l m.
    let (q, k, pair, n) = hp.0 p l (moved o i x u p xu m) in
    (q, k, sym (same_property o i rs ha r s hr hs p l q k) ∙ pair, moved o i z y q (sym yz) n)
rule_keeps_truth o w i v K13 premises (Some (SubProperty chain s)) (Edge x t y) (many, walk, st) ha hp = λ z l m.
    let (u, k, path, n) = path_along o i x chain y premises walk hp z l m in
    (u, k, re_paired o i s t z u st (ha z l u k path), n)
rule_keeps_truth o w i v K13 premises (Some (Transitive s)) (Edge x t y) (walk, st) ha hp = λ z l m.
    let (u, k, path, n) = path_along o i x (s ∷ s ∷ []) y premises walk hp z l m in
    (u, k, re_paired o i s t z u st (ha z l u k path), n)
rule_keeps_truth o w i v K14 [] (Some (Reflexive r)) (Edge x s y) (xy, rs) ha hp = λ z l m.
    (z, l, re_paired o i r s z z rs (ha z l), moved o i y x z (sym xy) m)
rule_keeps_truth o w i v K15 [] (Some (ClassAssertion c a)) (Sub x d) (xa, cd) ha hp = λ z l m.
    renamed o i c d z cd (subst (λ y. IsIn i (expression o c) y) (sym (moved o i (Individual a) x z (sym xa) m)) ha)
rule_keeps_truth o w i v K16 [] (Some (PropertyAssertion r a b)) (Edge x s y) (xa, rs, yb) ha hp = λ z l m.
    let e : z ≡ i.individual (individual_name o a) = moved o i (Individual a) x z (sym xa) m in
    let to = i.individual (individual_name o b) in
    (to, v.individuals (individual_name o b), re_paired o i r s z to rs (subst (λ y. HasPair i (property_name o r) y to) (sym e) ha), moved o i y (Individual b) to yb refl)
rule_keeps_truth o w i v K17 [] (Some (SameIndividuals xs)) (Same a b) (m, n, apart, ga, gb) ha hp = one_element o i xs ha m n a b apart ga gb
rule_keeps_truth o w i v K18 (Same a b ∷ Same c d ∷ []) None (Same e f) (bc, ae, df) ha hp =
    let P : ℕ → ℕ → Type 0 = λ p q. i.individual (individual_name o p) ≡ i.individual (individual_name o q) in
    subst (P e) df (subst (λ p. P p d) ae (hp.0 ∙ subst (λ p. P p d) (sym bc) hp.1.0))
rule_keeps_truth o w i v K19 (Same a b ∷ Sub y c ∷ []) None (Sub x d) (eb, ea, cd) ha hp = λ z l m.
    renamed o i c d z cd (hp.1.0 z l (replaced o i a b x y z hp.0 ea eb m))
rule_keeps_truth o w i v K19 (Same a b ∷ Edge x r y ∷ []) None (Edge z s u) f ha hp = moved_edge o i a b x y z u r s f hp.0 hp.1.0
rule_keeps_truth o w i v K20 (Same a b ∷ []) (Some (DifferentIndividuals xs)) (Sub x c) ((m, n, apart, ga, gb), ea, ec) ha hp =
    absurd (two_elements o i xs ha m n a b apart ga gb hp.0)
rule_keeps_truth o w i v K20 (Edge x r y ∷ []) (Some (NegativePropertyAssertion s a b)) (Sub z c) (xa, rs, yb, za, ec) ha hp =
    let from = i.individual (individual_name o a) in
    let (q, k, pair, n) = hp.0 from (v.individuals (individual_name o a)) (moved o i x (Individual a) from xa refl) in
    let e : q ≡ i.individual (individual_name o b) = moved o i (Individual b) y q (sym yb) n in
    absurd (ha (subst (λ y. HasPair i (property_name o s) from y) e (re_paired o i r s from q rs pair)))
rule_keeps_truth o w i v _ _ _ _ f ha hp = absurd f
