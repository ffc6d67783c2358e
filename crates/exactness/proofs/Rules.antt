-- Each rule as a step between derivable conclusions of an ontology.
use Rattle.std.proofs.Common.{◌≡◌, ℕ, suc, ◌<◌, List, [], ◌∷◌, map, length, slice_get, Some, None, All, Contains, refl, sym, subst, arith, inl, inr}
use Rattle.std.proofs.lemmas.Option.{slice_get_within}
use Rattle.std.proofs.lemmas.List.Elements.{All-contains, All-head, All-tail}
use Rattle.axioms.specs.Ontology.{Ontology, Axiom, And, Exists, SubClass, EquivalentClasses, DisjointClasses, SubProperty, EquivalentProperties, Domain, Transitive, Reflexive, ClassAssertion, PropertyAssertion, SameIndividuals, DifferentIndividuals, NegativePropertyAssertion, AtTwoPlaces, thing, nothing}
use Rattle.axioms.specs.WellFormedness.{IsOntology, IsAxiomOf}
use Rattle.lemmas.proofs.Members.{slice_get-from_Contains, Contains-from_slice_get}
use Rattle.certificate.specs.Certificate.{Subject, Expression, Individual, Conclusion, Sub, Edge, Same}
use Rattle.certificate.specs.declared.line.Rule.{Rule}
use Rattle.certificate.specs.declared.line.Rule.TheVariants.{K1, K2, K4, K5, K6, K7, K8, K9, K10, K11, K12, K13, K14, K15, K16, K17, K18, K19, K20}
use Rattle.cert_check.specs.Lines.{Follows, IsWalk}
use Rattle.certificate.specs.Writability.{IsSubjectOf, IsConclusionOf}
use Rattle.exactness.specs.Derivability.{IsDerivable, AreDerivable, derived, none, more}

-- ---- what is derivable is in range

pub derivable_within : {o : Ontology} {c : Conclusion} → IsDerivable o c → IsConclusionOf o c
derivable_within (derived rule premises axiom' within said follows ps) = within

-- ---- a step by a rule, with an axiom or with none

by_rule : {o : Ontology} {c : Conclusion} (rule : Rule) (premises : List Conclusion) → IsConclusionOf o c → Follows o rule premises None c → AreDerivable o premises → IsDerivable o c
by_rule rule premises within follows ps = derived rule premises None within tt follows ps

by_axiom : {o : Ontology} {c : Conclusion} (rule : Rule) (premises : List Conclusion) (a : Axiom) → Contains o.axioms a → IsConclusionOf o c → Follows o rule premises (Some a) c → AreDerivable o premises → IsDerivable o c
by_axiom {o} {c} rule premises a m within follows ps =
    let n = slice_get-from_Contains o.axioms a m in
    let l : n.0 < length o.axioms = slice_get_within o.axioms n.0 a n.1 in
    derived rule premises (Some (suc n.0)) within (omega arith, omega arith) (subst (λ x. Follows o rule premises x c) (sym n.1) follows) ps

module _ (o : Ontology) (h : IsOntology o) where
  pub axiom_within : (a : Axiom) → Contains o.axioms a → IsAxiomOf o a
  axiom_within a m = All-contains (IsAxiomOf o) o.axioms a h.axioms m

  pub thing_within : thing < length o.nodes
  thing_within = slice_get_within o.nodes 0 _ h.thing_node

  pub nothing_within : nothing < length o.nodes
  nothing_within = slice_get_within o.nodes 1 _ h.nothing_node

  pub k1 : (e : ℕ) → e < length o.nodes → IsDerivable o (Sub (Expression e) e)
  k1 e l = by_rule K1 [] (l, l) refl none

  pub k2 : (x : Subject) → IsSubjectOf o x → IsDerivable o (Sub x thing)
  k2 x l = by_rule K2 [] (l, thing_within) refl none

  pub k4_sub : (x : Subject) (c d : ℕ) → Contains o.axioms (SubClass c d) → IsDerivable o (Sub x c) → IsDerivable o (Sub x d)
  k4_sub x c d m p =
      by_axiom K4 (Sub x c ∷ []) (SubClass c d) m ((derivable_within p).0, (axiom_within (SubClass c d) m).1) (refl, refl, refl) (more p none)

  pub k4_same : (x : Subject) (cs : List ℕ) (c d : ℕ) → Contains o.axioms (EquivalentClasses cs) → Contains cs c → Contains cs d → IsDerivable o (Sub x c) → IsDerivable o (Sub x d)
  k4_same x cs c d m a b p =
      let l : d < length o.nodes = All-contains (λ e. e < length o.nodes) cs d (axiom_within (EquivalentClasses cs) m).within b in
      by_axiom K4 (Sub x c ∷ []) (EquivalentClasses cs) m ((derivable_within p).0, l) (refl, a, b) (more p none)

  all_derivable : (x : Subject) (ds : List ℕ) → All (λ d. IsDerivable o (Sub x d)) ds → AreDerivable o (map (Sub x) ds)
  all_derivable x [] ps = none
  all_derivable x (d ∷ ds) ps = more (All-head (λ d. IsDerivable o (Sub x d)) d ds ps) (all_derivable x ds (All-tail (λ d. IsDerivable o (Sub x d)) d ds ps))

  pub k5 : (x : Subject) (c : ℕ) (ds : List ℕ) → IsSubjectOf o x → slice_get o.nodes c ≡ Some (And ds) → All (λ d. IsDerivable o (Sub x d)) ds → IsDerivable o (Sub x c)
  k5 x c ds l e ps = by_rule K5 (map (Sub x) ds) (l, slice_get_within o.nodes c (And ds) e) (ds, e, refl) (all_derivable x ds ps)

  pub k6 : (x : Subject) (c : ℕ) (ds : List ℕ) (d : ℕ) → slice_get o.nodes c ≡ Some (And ds) → Contains ds d → IsDerivable o (Sub x c) → IsDerivable o (Sub x d)
  k6 x c ds d e m p =
      let k : c < length o.nodes = slice_get_within o.nodes c (And ds) e in
      let l : d < c = All-contains (λ d. d < c) ds d (h.nodes c (And ds) e).within m in
      let q : d < length o.nodes = omega arith in
      by_rule K6 (Sub x c ∷ []) ((derivable_within p).0, q) (refl, ds, e, m) (more p none)

  pub k7 : (x : Subject) (cs : List ℕ) (c d : ℕ) → Contains o.axioms (DisjointClasses cs) → AtTwoPlaces cs c d → IsDerivable o (Sub x c) → IsDerivable o (Sub x d) → IsDerivable o (Sub x nothing)
  k7 x cs c d m a p q =
      by_axiom K7 (Sub x c ∷ Sub x d ∷ []) (DisjointClasses cs) m ((derivable_within p).0, nothing_within) (refl, refl, a, refl) (more p (more q none))

  pub k8 : (x : Subject) (e r c : ℕ) → slice_get o.nodes e ≡ Some (Exists r c) → IsDerivable o (Sub x e) → IsDerivable o (Edge x r (Expression c))
  k8 x e r c n p =
      let k : e < length o.nodes = slice_get_within o.nodes e (Exists r c) n in
      let l = h.nodes e (Exists r c) n in
      let q : c < length o.nodes = omega (arith, l.1) in
      by_rule K8 (Sub x e ∷ []) ((derivable_within p).0, l.0, q) (refl, n) (more p none)

  pub k9 : (x y : Subject) (e r c : ℕ) → slice_get o.nodes e ≡ Some (Exists r c) → IsDerivable o (Edge x r y) → IsDerivable o (Sub y c) → IsDerivable o (Sub x e)
  k9 x y e r c n p q =
      by_rule K9 (Edge x r y ∷ Sub y c ∷ []) ((derivable_within p).0, slice_get_within o.nodes e (Exists r c) n) (refl, refl, n) (more p (more q none))

  pub k10 : (x y : Subject) (r c : ℕ) → Contains o.axioms (Domain r c) → IsDerivable o (Edge x r y) → IsDerivable o (Sub x c)
  k10 x y r c m p =
      by_axiom K10 (Edge x r y ∷ []) (Domain r c) m ((derivable_within p).0, (axiom_within (Domain r c) m).1) (refl, refl, refl) (more p none)

  pub k11 : (x y : Subject) (r : ℕ) → IsDerivable o (Edge x r y) → IsDerivable o (Sub y nothing) → IsDerivable o (Sub x nothing)
  k11 x y r p q =
      by_rule K11 (Edge x r y ∷ Sub y nothing ∷ []) ((derivable_within p).0, nothing_within) (refl, refl, refl, refl) (more p (more q none))

  pub k12_sub : (x y : Subject) (r s : ℕ) → Contains o.axioms (SubProperty (r ∷ []) s) → IsDerivable o (Edge x r y) → IsDerivable o (Edge x s y)
  k12_sub x y r s m p =
      let w = derivable_within p in
      by_axiom K12 (Edge x r y ∷ []) (SubProperty (r ∷ []) s) m (w.0, (axiom_within (SubProperty (r ∷ []) s) m).2, w.2) (refl, refl, refl, refl) (more p none)

  pub k12_same : (x y : Subject) (rs : List ℕ) (r s : ℕ) → Contains o.axioms (EquivalentProperties rs) → Contains rs r → Contains rs s → IsDerivable o (Edge x r y) → IsDerivable o (Edge x s y)
  k12_same x y rs r s m a b p =
      let w = derivable_within p in
      let l : s < length o.names.properties = All-contains (λ r. r < length o.names.properties) rs s (axiom_within (EquivalentProperties rs) m).within b in
      by_axiom K12 (Edge x r y ∷ []) (EquivalentProperties rs) m (w.0, l, w.2) (refl, refl, a, b) (more p none)

  pub k13_chain : (x y : Subject) (rs : List ℕ) (s : ℕ) (premises : List Conclusion) → Contains o.axioms (SubProperty rs s) → IsSubjectOf o x → IsSubjectOf o y → 1 < length rs → IsWalk x rs y premises → AreDerivable o premises → IsDerivable o (Edge x s y)
  k13_chain x y rs s premises m k l many w ps =
      by_axiom K13 premises (SubProperty rs s) m (k, (axiom_within (SubProperty rs s) m).2, l) (many, w, refl) ps

  pub k13_transitive : (x y z : Subject) (r : ℕ) → Contains o.axioms (Transitive r) → IsDerivable o (Edge x r y) → IsDerivable o (Edge y r z) → IsDerivable o (Edge x r z)
  k13_transitive x y z r m p q =
      by_axiom K13 (Edge x r y ∷ Edge y r z ∷ []) (Transitive r) m ((derivable_within p).0, axiom_within (Transitive r) m, (derivable_within q).2) ((y, refl, (z, refl, refl)), refl) (more p (more q none))

  pub k14 : (x : Subject) (r : ℕ) → IsSubjectOf o x → Contains o.axioms (Reflexive r) → IsDerivable o (Edge x r x)
  k14 x r l m = by_axiom K14 [] (Reflexive r) m (l, axiom_within (Reflexive r) m, l) (refl, refl) none

  pub k15 : (c a : ℕ) → Contains o.axioms (ClassAssertion c a) → IsDerivable o (Sub (Individual a) c)
  k15 c a m =
      let l = axiom_within (ClassAssertion c a) m in
      by_axiom K15 [] (ClassAssertion c a) m (l.1, l.0) (refl, refl) none

  pub k16 : (r a b : ℕ) → Contains o.axioms (PropertyAssertion r a b) → IsDerivable o (Edge (Individual a) r (Individual b))
  k16 r a b m =
      let l = axiom_within (PropertyAssertion r a b) m in
      by_axiom K16 [] (PropertyAssertion r a b) m (l.1, l.0, l.2) (refl, refl, refl) none

  member_within : (bound : ℕ) (xs : List ℕ) → All (λ x. x < bound) xs → (n a : ℕ) → slice_get xs n ≡ Some a → a < bound
  member_within bound xs within n a at = All-contains (λ x. x < bound) xs a within (Contains-from_slice_get xs n a at)

  pub k17 : (xs : List ℕ) (a b : ℕ) → Contains o.axioms (SameIndividuals xs) → AtTwoPlaces xs a b → IsDerivable o (Same a b)
  k17 xs a b k (m, n, apart, at_a, at_b) =
      let within = (axiom_within (SameIndividuals xs) k).within in
      let bound = length o.names.individuals in
      by_axiom K17 [] (SameIndividuals xs) k (member_within bound xs within m a at_a, member_within bound xs within n b at_b) (m, n, apart, at_a, at_b) none

  pub k18 : (a b c : ℕ) → IsDerivable o (Same a b) → IsDerivable o (Same b c) → IsDerivable o (Same a c)
  k18 a b c p q = by_rule K18 (Same a b ∷ Same b c ∷ []) ((derivable_within p).0, (derivable_within q).1) (refl, refl, refl) (more p (more q none))

  pub k19_class : (a b d : ℕ) → IsDerivable o (Same a b) → IsDerivable o (Sub (Individual b) d) → IsDerivable o (Sub (Individual a) d)
  k19_class a b d p q =
      by_rule K19 (Same a b ∷ Sub (Individual b) d ∷ []) ((derivable_within p).0, (derivable_within q).1) (refl, refl, refl) (more p (more q none))

  pub k19_source : (a b r : ℕ) (y : Subject) → IsDerivable o (Same a b) → IsDerivable o (Edge (Individual b) r y) → IsDerivable o (Edge (Individual a) r y)
  k19_source a b r y p q =
      by_rule K19 (Same a b ∷ Edge (Individual b) r y ∷ []) ((derivable_within p).0, (derivable_within q).1, (derivable_within q).2) (refl, inl (refl, refl, refl)) (more p (more q none))

  pub k19_target : (a b r : ℕ) (x : Subject) → IsDerivable o (Same a b) → IsDerivable o (Edge x r (Individual b)) → IsDerivable o (Edge x r (Individual a))
  k19_target a b r x p q =
      by_rule K19 (Same a b ∷ Edge x r (Individual b) ∷ []) ((derivable_within q).0, (derivable_within q).1, (derivable_within p).0) (refl, inr (refl, refl, refl)) (more p (more q none))

  pub k20_different : (xs : List ℕ) (a b : ℕ) → Contains o.axioms (DifferentIndividuals xs) → AtTwoPlaces xs a b → IsDerivable o (Same a b) → IsDerivable o (Sub (Individual a) nothing)
  k20_different xs a b k places p =
      by_axiom K20 (Same a b ∷ []) (DifferentIndividuals xs) k ((derivable_within p).0, nothing_within) (places, refl, refl) (more p none)

  pub k20_denied : (r a b : ℕ) → Contains o.axioms (NegativePropertyAssertion r a b) → IsDerivable o (Edge (Individual a) r (Individual b)) → IsDerivable o (Sub (Individual a) nothing)
  k20_denied r a b k p =
      by_axiom K20 (Edge (Individual a) r (Individual b) ∷ []) (NegativePropertyAssertion r a b) k ((derivable_within p).0, nothing_within) (refl, refl, refl, refl, refl) (more p none)
