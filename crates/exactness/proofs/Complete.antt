-- The interpretation that the closure lists satisfies each axiom, and agrees with the closure.
use Rattle.std.proofs.Common.{◌≡◌, ℕ, zero, suc, ◌+◌, ◌-◌, ◌<◌, ◌≤◌, ◌↔◌, true, false, List, [], ◌∷◌, length, get_or, map, slice_get, slice_index, Some, All, Contains, refl, sym, ap, ◌∙◌, subst, subst₂, arith, add-one, add-zero, one-add}
use Rattle.std.specs.Option.{unwrap_or}
use Rattle.std.proofs.lemmas.Option.{same_Some, slice_get-get_or, slice_get_within}
use Rattle.std.proofs.lemmas.Bool.{false_from_ne_true}
use Rattle.std.proofs.lemmas.List.{length-map}
use Rattle.std.proofs.lemmas.List.Elements.{All-head, All-contains, All-map, Contains-get_or}
use Rattle.axioms.specs.Expression.{Named, SomeValues, owl_thing, owl_nothing}
use Rattle.axioms.specs.Ontology.{Ontology, Axiom, Node, Class, And, Exists, SubClass, EquivalentClasses, DisjointClasses, SubProperty, EquivalentProperties, Domain, Transitive, Reflexive, ClassAssertion, PropertyAssertion, SameIndividuals, DifferentIndividuals, NegativePropertyAssertion, IsPart, thing, nothing, name_at, property_name, individual_name, expression, intersection, axiom_tree, axiom_trees}
use Rattle.axioms.specs.WellFormedness.{IsOntology, IsAxiomOf}
use Rattle.axioms.proofs.Trees.{class_tree, and_tree, some_tree, part_before, by_nodes}
use Rattle.std.specs.Cmp.{both_ways}
use Rattle.lemmas.proofs.Mapped.{mapped}
use Rattle.lemmas.proofs.Members.{Contains-from_slice_get}
use Rattle.lemmas.proofs.Pairs.{AllPairs-map}
use Rattle.interpretation_spec.specs.Interpretation.{IsBelow, Interpretation, IsInterpretation, IsModel, IsIn, HasPair, HasPath, Satisfies, IsSame, IsApart, IsSameProperty, IsSameElement, IsOtherElement, IsWithin, IsSubProperty, IsMember, IsContradictory}
use Rattle.interpretation_spec.proofs.Extensions.{in_intersection, each_of_intersection}
use Rattle.normal_forms.specs.Forms.{Whole, Property2, Property, IsForm, N5, first_of, first_steps}
use Rattle.normal_forms.specs.Occurrences.{OccursRight, OccursLeft, AtRight, AtLeft}
use Rattle.closure.specs.Closure.{Context, Expression, Individual, In, Edge, IsAtOrBelow, AreSame, itself, forth, IsRoot, IsFact}
use Rattle.closure.specs.Groups.{least_same}
use Rattle.closure.proofs.Facts as fact
use Rattle.closure.proofs.Groups.{and_then, turned, same_as_least, is_least, same_decided}
use Rattle.exactness.specs.ListedInterpretation.{IsSatisfiable, HasEdge, IsListedInterpretation, IsConsistent, AgreesWithClosure}
use Rattle.exactness.proofs.Operands.{around, IsIn-along, first_of-one, first_of-all, first_steps-one, first_steps-all}

module _ (o : Ontology) (asked : List ℕ) (elements : List Context) (i : Interpretation)
    (wf : IsOntology o) (asked_within : All (λ e. e < length o.nodes) asked) (listed : IsListedInterpretation o asked elements i) where
  -- the element m is that of the context x
  abbrev At : ℕ → Context → Type 0
  At m x = slice_get elements m ≡ Some x

  -- the expression e is a fact of the context
  abbrev Has : Context → ℕ → Type 0
  Has x e = IsFact o asked (In (Whole e) x)

  element : (m : ℕ) → m < i.size → (x : Context) × At m x
  element m l = (get_or elements m (Expression thing), slice_get-get_or elements m (Expression thing) (rw (← listed.size) l))

  pub within : (m : ℕ) (x : Context) → At m x → m < i.size
  within m x at = rw listed.size (slice_get_within elements m x at)

  -- ---- right occurrences

  abbrev RightOf : ℕ → Type 0
  RightOf e = OccursRight o asked e → (m : ℕ) (x : Context) → At m x → Has x e → IsIn i (expression o e) m

  right_node : (e : ℕ) (node : Node) → slice_get o.nodes e ≡ Some node → ((p : ℕ) → IsPart node p → RightOf p) → RightOf e
  right_node e (Class c) h parts occurs m x at f =
      IsIn-along i m (expression o e) (Named (name_at o.names.classes c)) (class_tree o c e h) ((listed.classes c e m x h at).1 f)
  right_node e (And ds) h parts occurs m x at f =
      let each : All (λ d. IsIn i (expression o d) m) ds = λ k z l.
      let d = get_or ds k z in
      let member : Contains ds d = Contains-get_or ds k z l in
      parts d member (OccursRight.by_part e (And ds) occurs h member) m x at (fact.subsumed (Whole e) (IsForm.right_and e ds d occurs h member) f) in
      IsIn-along i m (expression o e) (intersection (map (expression o) ds)) (and_tree o wf e ds h)
      (in_intersection i m (map (expression o) ds) (omega (arith, length-map ds (expression o), (wf.nodes e (And ds) h).many)) (All-map (λ t. IsIn i t m) (expression o) ds each))
  right_node e (Exists r c) h parts occurs m x at f =
      let edge : IsFact o asked (Edge x (Property r) (Expression c)) = fact.successor (Whole e) (IsForm.right_some e r c occurs h) f in
      let satisfiable : IsSatisfiable o asked (Expression c) = record {
        context = fact.target x (Property r) edge;
        without_nothing = λ z. (listed.contexts.satisfiable m x at).without_nothing (fact.unsatisfiable (Property r) (Expression c) edge z);
      } in
      let (n, at_n) = listed.contexts.listed (Expression c) satisfiable tt in
      let pair : HasPair i (property_name o r) m n =
      (listed.pairs r m n x (Expression c) (wf.nodes e (Exists r c) h).0 at at_n).1 (record { property = Property r; edge = edge; below = IsAtOrBelow.same }) in
      IsIn-along i m (expression o e) (SomeValues (property_name o r) (expression o c)) (some_tree o wf e r c h)
      (n, within n (Expression c) at_n, pair, parts c refl (OccursRight.by_part e (Exists r c) occurs h refl) n (Expression c) at_n (fact.in_itself satisfiable.context))

  at_right_within : (a : Axiom) → IsAxiomOf o a → (e : ℕ) → AtRight a e → e < length o.nodes
  at_right_within (SubClass c d) ok e h = omega (arith, ok.1)
  at_right_within (EquivalentClasses cs) ok e h = All-contains (λ d. d < length o.nodes) cs e ok.within h
  at_right_within (Domain r c) ok e h = omega (arith, ok.1)
  at_right_within (ClassAssertion c a) ok e h = omega (arith, ok.0)
  at_right_within _ ok e h = elim h [ ]

  right_within : (e : ℕ) → OccursRight o asked e → e < length o.nodes
  right_within e (OccursRight.by_axiom a c h) = at_right_within a (All-contains (IsAxiomOf o) o.axioms a wf.axioms c) e h
  right_within e (OccursRight.by_question h) = All-contains (λ d. d < length o.nodes) asked e asked_within h
  right_within e (OccursRight.by_part d node occurs h q) = omega (arith, part_before o wf d e node h q, slice_get_within o.nodes d node h)

  -- the expression of a right occurrence holds the element where it is a fact of the context
  pub right : (e m : ℕ) (x : Context) → OccursRight o asked e → At m x → Has x e → IsIn i (expression o e) m
  right e m x occurs at f = by_nodes o wf RightOf right_node e (right_within e occurs) occurs m x at f

  -- ---- left occurrences

  abbrev LeftOf : ℕ → Type 0
  LeftOf e = OccursLeft o asked e → (m : ℕ) (x : Context) → At m x → IsIn i (expression o e) m → Has x e

  prefix : (e : ℕ) (ds : List ℕ) (x : Context) → OccursLeft o asked e → slice_get o.nodes e ≡ Some (And ds) → 2 ≤ length ds
      → ((n d : ℕ) → slice_get ds n ≡ Some d → Has x d) → (k : ℕ) → k < length ds → IsFact o asked (In (first_of ds e (k + 1)) x)
  prefix e ds x occurs h many each zero l =
      let e1 : first_of ds e (zero + 1) ≡ Whole (slice_index ds 0) = first_of-one ds e many in
      subst (λ c. IsFact o asked (In c x)) (sym e1) (each 0 (slice_index ds 0) (slice_get-get_or ds 0 0 l))
  prefix e ds x occurs h many each (suc k) l =
      let d = slice_index ds (suc k) in
      let at_d : slice_get ds (suc k) ≡ Some d = slice_get-get_or ds (suc k) 0 l in
      let before : IsFact o asked (In (first_of ds e (suc k)) x) =
      let P : ℕ → Type 0 = λ n. IsFact o asked (In (first_of ds e n) x) in subst P (add-one k) (prefix e ds x occurs h many each k (omega arith)) in
      fact.both (first_of ds e (suc k)) (Whole d) (IsForm.left_and e ds (suc k) d occurs h (omega arith) at_d) before (each (suc k) d at_d)

  left_node : (e : ℕ) (node : Node) → slice_get o.nodes e ≡ Some node → ((p : ℕ) → IsPart node p → LeftOf p) → LeftOf e
  left_node e (Class c) h parts occurs m x at f =
      (listed.classes c e m x h at).0 (IsIn-along i m (Named (name_at o.names.classes c)) (expression o e) (sym (class_tree o c e h)) f)
  left_node e (And ds) h parts occurs m x at f =
      let many = (wf.nodes e (And ds) h).many in
      let all = each_of_intersection i m (map (expression o) ds) (omega (arith, length-map ds (expression o)))
      (IsIn-along i m (intersection (map (expression o) ds)) (expression o e) (sym (and_tree o wf e ds h)) f) in
      let each : (n d : ℕ) → slice_get ds n ≡ Some d → Has x d = λ n d k.
      let member = Contains-from_slice_get ds n d k in
      parts d member (OccursLeft.by_part e (And ds) occurs h member) m x at (mapped (λ t. IsIn i t m) (expression o) ds all n d k) in
      let last = length ds - 1 in
      let whole : first_of ds e (last + 1) ≡ Whole e = first_of-all ds e (last + 1) (omega arith) in
      subst (λ c. IsFact o asked (In c x)) whole (prefix e ds x occurs h many each last (omega arith))
  left_node e (Exists r c) h parts occurs m x at f =
      let (n, l, pair, f') = IsIn-along i m (SomeValues (property_name o r) (expression o c)) (expression o e) (sym (some_tree o wf e r c h)) f in
      let (y, at_y) = element n l in
      let edge = (listed.pairs r m n x y (wf.nodes e (Exists r c) h).0 at at_y).0 pair in
      fact.predecessor r (Whole c) edge.property y (IsForm.left_some e r c occurs h) edge.edge edge.below
      (parts c refl (OccursLeft.by_part e (Exists r c) occurs h refl) n y at_y f')

  at_left_within : (a : Axiom) → IsAxiomOf o a → (e : ℕ) → AtLeft a e → e < length o.nodes
  at_left_within (SubClass c d) ok e h = omega (arith, ok.0)
  at_left_within (EquivalentClasses cs) ok e h = All-contains (λ d. d < length o.nodes) cs e ok.within h
  at_left_within (DisjointClasses cs) ok e h = All-contains (λ d. d < length o.nodes) cs e ok.within h
  at_left_within _ ok e h = elim h [ ]

  left_within : (e : ℕ) → OccursLeft o asked e → e < length o.nodes
  left_within e (OccursLeft.by_axiom a c h) = at_left_within a (All-contains (IsAxiomOf o) o.axioms a wf.axioms c) e h
  left_within e (OccursLeft.by_question h) = All-contains (λ d. d < length o.nodes) asked e asked_within h
  left_within e (OccursLeft.by_part d node occurs h q) = omega (arith, part_before o wf d e node h q, slice_get_within o.nodes d node h)

  -- the expression of a left occurrence is a fact of the context where it holds the element
  pub left : (e m : ℕ) (x : Context) → OccursLeft o asked e → At m x → IsIn i (expression o e) m → Has x e
  left e m x occurs at f = by_nodes o wf LeftOf left_node e (left_within e occurs) occurs m x at f

  -- ---- properties

  edge_of : (r m n : ℕ) (x y : Context) → r < length o.names.properties → At m x → At n y → HasPair i (property_name o r) m n → HasEdge o asked x (Property r) y
  edge_of r m n x y l at_m at_n pair = (listed.pairs r m n x y l at_m at_n).0 pair

  pair_of : (r m n : ℕ) (x y : Context) → r < length o.names.properties → At m x → At n y → HasEdge o asked x (Property r) y → HasPair i (property_name o r) m n
  pair_of r m n x y l at_m at_n edge = (listed.pairs r m n x y l at_m at_n).1 edge

  by_itself : (x y : Context) (r : Property2) → IsFact o asked (Edge x r y) → HasEdge o asked x r y
  by_itself x y r edge = record { property = r; edge = edge; below = IsAtOrBelow.same }

  along : (x y : Context) (r s : ℕ) → IsForm o asked (N5 r s) → HasEdge o asked x (Property r) y → HasEdge o asked x (Property s) y
  along x y r s form edge = record { property = edge.property; edge = edge.edge; below = IsAtOrBelow.step r s edge.below form }

  -- the rest of a chain from z, of which the first n steps lead from x to z
  walk : (rs : List ℕ) (s : ℕ) → Contains o.axioms (SubProperty rs s) → All (λ r. r < length o.names.properties) rs → (x : Context)
      → (rest : List ℕ) (n z y : ℕ) (u v : Context) → 0 < n → n + length rest ≡ length rs → ((k : ℕ) → slice_get rest k ≡ slice_get rs (n + k))
      → At z u → At y v → HasEdge o asked x (first_steps rs (Property s) n) u → HasPath i (map (property_name o) rest) z y → HasEdge o asked x (Property s) v
  walk rs s c ok x [] n z y u v some len is at_z at_y edge path =
      let same : u ≡ v = same_Some u v (sym at_z ∙ ap (slice_get elements) path ∙ at_y) in
      subst₂ (HasEdge o asked x) (first_steps-all rs (Property s) n (omega arith)) same edge
  walk rs s c ok x (r ∷ rest) n z y u v some len is at_z at_y edge path =
      let at_r : slice_get rs n ≡ Some r = sym (is 0 ∙ ap (slice_get rs) (add-zero n)) in
      let (t, at_t) = element path.0 path.1 in
      let second = edge_of r z path.0 u t (All-contains (λ r. r < length o.names.properties) rs r ok (Contains-from_slice_get rs n r at_r)) at_z at_t path.2 in
      let next : HasEdge o asked x (first_steps rs (Property s) (n + 1)) t = by_itself x t (first_steps rs (Property s) (n + 1))
      (fact.chained (first_steps rs (Property s) n) (Property r) edge.property second.property u (IsForm.chain rs s n r c some at_r) edge.edge second.edge edge.below second.below) in
      walk rs s c ok x rest (n + 1) path.0 y t v (omega arith) (omega arith)
      (λ k. is (suc k) ∙ ap (slice_get rs) (let e : n + suc k ≡ n + 1 + k = omega arith in e)) at_t at_y next path.3

  chain : (rs : List ℕ) (s : ℕ) → Contains o.axioms (SubProperty rs s) → IsAxiomOf o (SubProperty rs s) → IsSubProperty i (map (property_name o) rs) (property_name o s)
  chain [] s c ok m l n k path = absurd (omega (arith, ok.0))
  chain (r ∷ []) s c ok m l n k path =
      let (x, at_m) = element m l in
      let (y, at_n) = element n k in
      let at_z : At path.0 y = ap (slice_get elements) path.3 ∙ at_n in
      pair_of s m n x y ok.2 at_m at_n (along x y r s (IsForm.sub_property r s c)
      (edge_of r m path.0 x y (All-head (λ r. r < length o.names.properties) r [] ok.1) at_m at_z path.2))
  chain (r ∷ q ∷ rest) s c ok m l n k path =
      let rs = r ∷ q ∷ rest in
      let (x, at_m) = element m l in
      let (y, at_n) = element n k in
      let (u, at_z) = element path.0 path.1 in
      let first = edge_of r m path.0 x u (All-head (λ r. r < length o.names.properties) r (q ∷ rest) ok.1) at_m at_z path.2 in
      let one : first_steps rs (Property s) 1 ≡ Property r = first_steps-one rs (Property s) (omega arith) in
      pair_of s m n x y ok.2 at_m at_n (walk rs s c ok.1 x (q ∷ rest) 1 path.0 n u y (omega arith) (omega arith)
      (λ k. ap (slice_get rs) (sym (one-add k))) at_z at_n (subst (λ p. HasEdge o asked x p u) (sym one) first) path.3)

  -- ---- axioms

  same_class : (cs : List ℕ) → Contains o.axioms (EquivalentClasses cs) → (m n c d : ℕ) → slice_get cs m ≡ Some c → slice_get cs n ≡ Some d → IsWithin i (expression o c) (expression o d)
  same_class cs k m n c d at_c at_d j l f =
      let (x, at) = element j l in
      right d j x (OccursRight.by_axiom (EquivalentClasses cs) k (Contains-from_slice_get cs n d at_d)) at
      (around cs (Has x) (λ c d next g. fact.subsumed (Whole c) (IsForm.equivalent cs c d k next) g) m n c d at_c at_d
      (left c j x (OccursLeft.by_axiom (EquivalentClasses cs) k (Contains-from_slice_get cs m c at_c)) at f))

  same_property : (rs : List ℕ) → Contains o.axioms (EquivalentProperties rs) → IsAxiomOf o (EquivalentProperties rs)
      → (m n r s : ℕ) → slice_get rs m ≡ Some r → slice_get rs n ≡ Some s → (a b : ℕ) → a < i.size → b < i.size → HasPair i (property_name o r) a b → HasPair i (property_name o s) a b
  same_property rs k ok m n r s at_r at_s a b la lb pair =
      let (x, at_a) = element a la in
      let (y, at_b) = element b lb in
      let named = λ (n q : ℕ) (h : slice_get rs n ≡ Some q). All-contains (λ q. q < length o.names.properties) rs q ok.within (Contains-from_slice_get rs n q h) in
      pair_of s a b x y (named n s at_s) at_a at_b
      (around rs (λ q. HasEdge o asked x (Property q) y) (λ q t next e. along x y q t (IsForm.same_property rs q t k next) e) m n r s at_r at_s
      (edge_of r a b x y (named m r at_r) at_a at_b pair))

  module _ (consistent : IsConsistent o asked) where
    -- an individual has the element of the least of its group
    pub individual_at : (a : ℕ) → a < length o.names.individuals → At (i.individual (individual_name o a)) (Individual (least_same o a))
    individual_at a l =
        let b = least_same o a in
        let low : b ≤ a = is_least o asked a a (turned (same_as_least o asked a)) in
        let k : b < length o.names.individuals = omega arith in
        let (m, at) = listed.contexts.listed (Individual b) (record { context = fact.root (IsRoot.individual b k); without_nothing = consistent.individuals b k }) (is_least o asked a) in
        let P : ℕ → Type 0 = λ n. At n (Individual b) in
        subst P (sym (listed.individuals a b m l (same_as_least o asked a) at)) at

    from_least : (a : ℕ) → AreSame o asked (least_same o a) a
    from_least a = turned (same_as_least o asked a)

    -- those of one group have one element, and no others
    share : (a b : ℕ) → a < length o.names.individuals → b < length o.names.individuals → AreSame o asked a b → i.individual (individual_name o a) ≡ i.individual (individual_name o b)
    share a b l k p =
        sym (listed.individuals b (least_same o a) (i.individual (individual_name o a)) k (and_then (turned p) (same_as_least o asked a)) (individual_at a l))

    shared : (a b : ℕ) → a < length o.names.individuals → b < length o.names.individuals → i.individual (individual_name o a) ≡ i.individual (individual_name o b) → AreSame o asked a b
    shared a b l k e =
        let same : Individual (least_same o a) ≡ Individual (least_same o b) =
        same_Some (Individual (least_same o a)) (Individual (least_same o b)) (sym (individual_at a l) ∙ ap (slice_get elements) e ∙ individual_at b k) in
        let one : least_same o a ≡ least_same o b = cc in
        (same_decided o asked a b).1 one

    pub groups : (a b : ℕ) → a < length o.names.individuals → b < length o.names.individuals → (i.individual (individual_name o a) ≡ i.individual (individual_name o b)) ↔ AreSame o asked a b
    groups a b l k = (shared a b l k, share a b l k)

    -- members of one axiom are of one group
    along_axiom : (xs : List ℕ) → Contains o.axioms (SameIndividuals xs) → (k m a b : ℕ) → slice_get xs m ≡ Some a → slice_get xs (m + k) ≡ Some b → AreSame o asked a b
    along_axiom xs c zero m a b at_a at_b =
        let same : a ≡ b = same_Some a b (sym at_a ∙ subst (λ n. slice_get xs n ≡ Some b) (add-zero m) at_b) in
        subst (λ n. AreSame o asked a n) same itself
    along_axiom xs c (suc k) m a b at_a at_b =
        let l : m + k < length xs = omega (arith, slice_get_within xs (m + suc k) b at_b) in
        let d = slice_index xs (m + k) in
        let at_d : slice_get xs (m + k) ≡ Some d = slice_get-get_or xs (m + k) 0 l in
        let e : m + suc k ≡ m + k + 1 = omega arith in
        forth d (along_axiom xs c k m a d at_a at_d) (IsForm.same_individuals xs d b c (m + k, at_d, subst (λ n. slice_get xs n ≡ Some b) e at_b))

    satisfies : (a : Axiom) → Contains o.axioms a → IsAxiomOf o a → Satisfies i (axiom_tree o a)
    satisfies (SubClass c d) k ok = λ m l f.
        let (x, at) = element m l in
        right d m x (OccursRight.by_axiom (SubClass c d) k refl) at
        (fact.subsumed (Whole c) (IsForm.sub_class c d k) (left c m x (OccursLeft.by_axiom (SubClass c d) k refl) at f))
    satisfies (EquivalentClasses cs) k ok =
        AllPairs-map (IsSame i) (expression o) cs (λ m n c d l at_c at_d. (same_class cs k m n c d at_c at_d, same_class cs k n m d c at_d at_c))
    satisfies (DisjointClasses cs) k ok =
        AllPairs-map (IsApart i) (expression o) cs (λ m n c d l at_c at_d j lj f g.
        let (x, at) = element j lj in
        (listed.contexts.satisfiable j x at).without_nothing (fact.both (Whole c) (Whole d)
        (IsForm.disjoint cs c d k (m, n, omega arith, at_c, at_d))
        (left c j x (OccursLeft.by_axiom (DisjointClasses cs) k (Contains-from_slice_get cs m c at_c)) at f)
        (left d j x (OccursLeft.by_axiom (DisjointClasses cs) k (Contains-from_slice_get cs n d at_d)) at g)))
    satisfies (SubProperty rs s) k ok = chain rs s k ok
    satisfies (EquivalentProperties rs) k ok =
        AllPairs-map (IsSameProperty i) (property_name o) rs (λ m n r s l at_r at_s a la b lb.
        both_ways (i.property (property_name o r) a b) (i.property (property_name o s) a b)
        (same_property rs k ok m n r s at_r at_s a b la lb) (same_property rs k ok n m s r at_s at_r a b la lb))
    satisfies (Domain r c) k ok = λ m l n h pair.
        let (x, at) = element m l in
        let (y, at_n) = element n h in
        let edge = edge_of r m n x y ok.0 at at_n pair in
        right c m x (OccursRight.by_axiom (Domain r c) k refl) at
        (fact.predecessor r (Whole thing) edge.property y (IsForm.domain r c k) edge.edge edge.below (fact.in_thing (listed.contexts.satisfiable n y at_n).context))
    satisfies (Transitive r) k ok = λ m l n h path.
        let (x, at) = element m l in
        let (y, at_n) = element n h in
        let (z, at_z) = element path.0 path.1 in
        let rest = path.3 in
        let at_w : At rest.0 y = ap (slice_get elements) rest.3 ∙ at_n in
        let first = edge_of r m path.0 x z ok at at_z path.2 in
        let second = edge_of r path.0 rest.0 z y ok at_z at_w rest.2 in
        pair_of r m n x y ok at at_n (by_itself x y (Property r)
        (fact.chained (Property r) (Property r) first.property second.property z (IsForm.transitive r k) first.edge second.edge first.below second.below))
    satisfies (Reflexive r) k ok = λ m l.
        let (x, at) = element m l in
        pair_of r m m x x ok at at (by_itself x x (Property r) (fact.loop r (IsForm.reflexive r k) (listed.contexts.satisfiable m x at).context))
    satisfies (ClassAssertion c a) k ok =
        right c (i.individual (individual_name o a)) (Individual (least_same o a)) (OccursRight.by_axiom (ClassAssertion c a) k refl) (individual_at a ok.1)
        (fact.same_class a (same_as_least o asked a) (fact.asserted (IsForm.class_assertion c a k)))
    satisfies (PropertyAssertion r a b) k ok =
        pair_of r (i.individual (individual_name o a)) (i.individual (individual_name o b)) (Individual (least_same o a)) (Individual (least_same o b)) ok.0 (individual_at a ok.1) (individual_at b ok.2)
        (by_itself (Individual (least_same o a)) (Individual (least_same o b)) (Property r)
        (fact.same_target b (same_as_least o asked b) (fact.same_source a (same_as_least o asked a) (fact.asserted_edge (IsForm.property_assertion r a b k)))))
    satisfies (SameIndividuals xs) k ok =
        let there = λ (j c : ℕ) (h : slice_get xs j ≡ Some c). All-contains (λ c. c < length o.names.individuals) xs c ok.within (Contains-from_slice_get xs j c h) in
        AllPairs-map (IsSameElement i) (individual_name o) xs (λ m n a b l at_a at_b.
        let e : n ≡ m + (n - m) = omega arith in
        share a b (there m a at_a) (there n b at_b) (along_axiom xs k (n - m) m a b at_a (subst (λ j. slice_get xs j ≡ Some b) e at_b)))
    satisfies (DifferentIndividuals xs) k ok =
        let there = λ (j c : ℕ) (h : slice_get xs j ≡ Some c). All-contains (λ c. c < length o.names.individuals) xs c ok.within (Contains-from_slice_get xs j c h) in
        AllPairs-map (IsOtherElement i) (individual_name o) xs (λ m n a b l at_a at_b e.
        consistent.individuals a (there m a at_a)
        (fact.different b (IsForm.different_individuals xs a b k (m, n, l, at_a, at_b)) (shared a b (there m a at_a) (there n b at_b) e)))
    satisfies (NegativePropertyAssertion r a b) k ok = λ pair.
        let there = ok in
        let edge = edge_of r (i.individual (individual_name o a)) (i.individual (individual_name o b)) (Individual (least_same o a)) (Individual (least_same o b)) there.0 (individual_at a there.1) (individual_at b there.2) pair in
        consistent.individuals a there.1
        (fact.denied r b edge.property (IsForm.negative_assertion r a b k) (fact.same_target (least_same o b) (from_least b) (fact.same_source (least_same o a) (from_least a) edge.edge)) edge.below)

    interpretation : IsInterpretation i
    interpretation =
        let name_is : (c : ℕ) (name : List ℕ) → slice_get o.names.classes c ≡ Some name → name_at o.names.classes c ≡ name = λ c name h. ap (λ n. unwrap_or n []) h in
        let all = listed.contexts.listed (Expression thing) (record { context = fact.root (IsRoot.named 0 thing wf.thing_node); without_nothing = consistent.things }) tt in
        record {
          inhabited = let l = within all.0 (Expression thing) all.1 in omega arith;
          individuals = listed.within;
          thing = λ m l.
              let (x, at) = element m l in
              subst (λ c. i.class c m ≡ true) (name_is 0 owl_thing wf.thing_name)
              ((listed.classes 0 thing m x wf.thing_node at).1 (fact.in_thing (listed.contexts.satisfiable m x at).context));
          nothing = λ m l.
              let (x, at) = element m l in
              subst (λ c. i.class c m ≡ false) (name_is 1 owl_nothing wf.nothing_name)
              (false_from_ne_true (i.class (name_at o.names.classes 1) m)
              (λ h. (listed.contexts.satisfiable m x at).without_nothing ((listed.classes 1 nothing m x wf.nothing_node at).0 h)));
        }

    pub model : IsModel i (axiom_trees o)
    model = record {
      interpretation = interpretation;
      satisfied = All-map (Satisfies i) (axiom_tree o) o.axioms
          (λ n d l. satisfies (get_or o.axioms n d) (Contains-get_or o.axioms n d l) (wf.axioms n d l));
    }

  -- of a named class and of an expression that is asked about, the element is in exactly those that are facts of the context
  pub answered : (e m : ℕ) (x : Context) → IsRoot o asked (Expression e) → At m x → IsIn i (expression o e) m ↔ Has x e
  answered e m x (IsRoot.named c d h) at =
      let same = class_tree o c e h in (
        λ f. (listed.classes c e m x h at).0 (IsIn-along i m (Named (name_at o.names.classes c)) (expression o e) (sym same) f),
        λ f. IsIn-along i m (expression o e) (Named (name_at o.names.classes c)) same ((listed.classes c e m x h at).1 f),
      )
  answered e m x (IsRoot.question d l h) at = (λ f. left e m x (OccursLeft.by_question h) at f, λ f. right e m x (OccursRight.by_question h) at f)

  pub agrees : AgreesWithClosure o asked elements i
  agrees = record {
    element = λ x h leads. let (m, at) = listed.contexts.listed x h leads in (m, within m x at, at);
    named = λ c e m x h at. listed.classes c e m x h at;
    claimed = λ e m h at. (answered e m (Expression e) h at).1 (fact.in_itself (fact.root h));
    asked_about = λ e m x h at. answered e m x (IsRoot.question e (All-contains (λ d. d < length o.nodes) asked e asked_within h) h) at;
    right = right;
    left = left;
  }

-- what the facts do not make contradictory has a model, in its axioms as they were written
pub listed_is_model : (o : Ontology) (asked : List ℕ) (elements : List Context) (i : Interpretation)
    → IsOntology o → All (λ e. e < length o.nodes) asked → IsListedInterpretation o asked elements i → IsConsistent o asked → IsModel i (axiom_trees o)
listed_is_model o asked elements i wf asked_within listed consistent = model o asked elements i wf asked_within listed consistent

-- the listed interpretation agrees with the facts
pub listed_agrees : (o : Ontology) (asked : List ℕ) (elements : List Context) (i : Interpretation)
    → IsOntology o → All (λ e. e < length o.nodes) asked → IsListedInterpretation o asked elements i → AgreesWithClosure o asked elements i
listed_agrees o asked elements i wf asked_within listed = agrees o asked elements i wf asked_within listed

-- two individuals have one element in it exactly where they are of one group
pub groups_are_elements : (o : Ontology) (asked : List ℕ) (elements : List Context) (i : Interpretation)
    → IsOntology o → All (λ e. e < length o.nodes) asked → IsListedInterpretation o asked elements i → IsConsistent o asked
    → (a b : ℕ) → a < length o.names.individuals → b < length o.names.individuals
    → (i.individual (individual_name o a) ≡ i.individual (individual_name o b)) ↔ AreSame o asked a b
groups_are_elements o asked elements i wf asked_within listed consistent = groups o asked elements i wf asked_within listed consistent

-- so what follows from the axioms is a fact: of a named class or an asked expression whose context is without Nothing
pub complete_below : (o : Ontology) (asked : List ℕ) (elements : List Context) (i : Interpretation)
    → IsOntology o → All (λ e. e < length o.nodes) asked → IsListedInterpretation o asked elements i → IsConsistent o asked
    → (e f : ℕ) → IsRoot o asked (Expression e) → IsRoot o asked (Expression f) → (IsFact o asked (In (Whole nothing) (Expression e)) → ⊥)
    → IsBelow (axiom_trees o) (expression o e) (expression o f) → IsFact o asked (In (Whole f) (Expression e))
complete_below o asked elements i wf asked_within listed consistent e f root_e root_f without follows =
    let context = fact.root root_e in
    let (m, at) = listed.contexts.listed (Expression e) (record { context = context; without_nothing = without }) tt in
    let inside : m < i.size = rw listed.size (slice_get_within elements m (Expression e) at) in
    let is_e = (answered o asked elements i wf asked_within listed e m (Expression e) root_e at).1 (fact.in_itself context) in
    (answered o asked elements i wf asked_within listed f m (Expression e) root_f at).0
    (follows i (listed_is_model o asked elements i wf asked_within listed consistent) m inside is_e)

-- what follows from the axioms of an individual in a named class or an asked expression is a fact
pub complete_types : (o : Ontology) (asked : List ℕ) (elements : List Context) (i : Interpretation)
    → IsOntology o → All (λ e. e < length o.nodes) asked → IsListedInterpretation o asked elements i → IsConsistent o asked
    → (a f : ℕ) → a < length o.names.individuals → IsRoot o asked (Expression f)
    → IsMember (axiom_trees o) (individual_name o a) (expression o f) → IsFact o asked (In (Whole f) (Individual a))
complete_types o asked elements i wf asked_within listed consistent a f l root_f follows =
    fact.same_class (least_same o a) (turned (same_as_least o asked a))
    ((answered o asked elements i wf asked_within listed f (i.individual (individual_name o a)) (Individual (least_same o a)) root_f
    (individual_at o asked elements i wf asked_within listed consistent a l)).0
    (follows i (listed_is_model o asked elements i wf asked_within listed consistent)))

-- an ontology with no model has Nothing in the context of Thing or of an individual
pub complete_contradictory : (o : Ontology) (asked : List ℕ) (elements : List Context) (i : Interpretation)
    → IsOntology o → All (λ e. e < length o.nodes) asked → IsListedInterpretation o asked elements i
    → IsContradictory (axiom_trees o) → IsConsistent o asked → ⊥
complete_contradictory o asked elements i wf asked_within listed no_model consistent =
    no_model i (listed_is_model o asked elements i wf asked_within listed consistent)
