-- Each fact of the closure is derivable, and no fresh name is left: of a prefix of an intersection each operand, of a prefix of a chain a walk.
use Rattle.std.proofs.Common.{◌≡◌, ◌⊎◌, ℕ, length-take, ◌+◌, ◌<◌, inl, inr, List, [], ◌∷◌, ◌++◌, length, slice_get, slice_index, get_or, take, Some, All, Contains, Bool, true, false, ◌==◌, if◌then◌else◌, refl, sym, ap, subst, arith, eqb-true}
use Rattle.std.specs.List.{AllByRecursion}
use Rattle.std.proofs.lemmas.Option.{slice_get_within}
use Rattle.std.proofs.lemmas.List.{take_all}
use Rattle.std.proofs.lemmas.List.Elements.{All-cons, All-nil, All-push, All-contains}
use Rattle.axioms.specs.Ontology.{Ontology, Class, And, SubProperty, DifferentIndividuals, nothing}
use Rattle.axioms.specs.WellFormedness.{IsOntology}
use Rattle.lemmas.proofs.Members.{Contains-from_slice_get}
use Rattle.lemmas.proofs.Places.{take_push}
use Rattle.certificate.specs.Certificate.{Subject, Expression, Individual, Conclusion, Sub, Edge, Same}
use Rattle.cert_check.specs.Lines.{IsWalk}
use Rattle.certificate.specs.Writability.{IsSubjectOf}
use Rattle.normal_forms.specs.Forms.{Class2, Whole, Prefix, Property2, Property, Steps, N1, N2, N3, N4, N5, N6, N7, N8, N9, N10, N11, N12, IsForm, sub_class, equivalent, right_and, left_and, disjoint, right_some, left_some, domain, sub_property, same_property, chain, transitive, reflexive, class_assertion, property_assertion, same_individuals, different_individuals, negative_assertion, first_of, first_steps, IsNextInCircle}
use Rattle.closure.specs.Closure as closure
use Rattle.closure.specs.Closure.{Context, Fact, In, IsAtOrBelow, same, step, AreSame, itself, forth, back, IsRoot, named, individual, question, IsContextBy, root, target, Gives, in_thing, in_itself, asserted, asserted_edge, subsumed, both, successor, predecessor, unsatisfiable, chained, loop, same_class, same_source, same_target, different, denied, IsFact, AreFacts, given}
use Rattle.exactness.specs.Derivability.{IsDerivable, AreDerivable, none, more, subject_of, ClassIsDerivable, WalkIsDerivable, EdgeIsDerivable, FactIsDerivable}
use Rattle.exactness.proofs.Rules.{derivable_within, axiom_within, k1, k2, k4_sub, k4_same, k5, k6, k7, k8, k9, k10, k11, k12_sub, k12_same, k13_chain, k13_transitive, k14, k15, k16, k17, k18, k19_class, k19_source, k19_target, k20_different, k20_denied}

-- the expression lies above the subject
abbrev Below : Ontology → Subject → ℕ → Type 0
Below o x d = IsDerivable o (Sub x d)

-- ---- prefixes

take_one : (xs : List ℕ) (n : ℕ) → n ≡ 1 → n < length xs → take n xs ≡ slice_index xs 0 ∷ []
take_one [] n e l = absurd (omega arith)
take_one (x ∷ xs) n e l = rw e

-- what holds of the three parts of a prefix holds of it
at_first : {X : Type 0} (P : X → Type 0) (n l : ℕ) (a b c : X) → (n ≡ l → P a) → (n ≡ 1 → P b) → P c → P (if n == l then a else (if n == 1 then b else c))
at_first {X} P n l a b c f g h = go (n == l) (n == 1) (eqb-true n l) (eqb-true n 1)
  where
    go : (s t : Bool) → (s ≡ true → n ≡ l) → (t ≡ true → n ≡ 1) → P (if s then a else (if t then b else c))
    go true t p q = f (p refl)
    go false true p q = g (q refl)
    go false false p q = h

module _ (o : Ontology) (asked : List ℕ) (h : IsOntology o) where
  -- the operands that a prefix stands for
  from_prefix : (x : Subject) (ds : List ℕ) (e n : ℕ) → n < length ds → ClassIsDerivable o x (first_of ds e n) → All (Below o x) (take n ds)
  from_prefix x ds e n l =
      at_first (λ c. ClassIsDerivable o x c → All (Below o x) (take n ds)) n (length ds) (Whole e) (Whole (slice_index ds 0)) (Prefix (take n ds))
      (λ k p. absurd (omega arith))
      (λ k p. rw (take_one ds n k l) (All-cons (Below o x) (slice_index ds 0) [] p (All-nil (Below o x))))
      (λ p. p)

  to_prefix : (x : Subject) (ds : List ℕ) (e n : ℕ) → IsSubjectOf o x → slice_get o.nodes e ≡ Some (And ds) → 1 < n → All (Below o x) (take n ds) → ClassIsDerivable o x (first_of ds e n)
  to_prefix x ds e n l node m ps =
      at_first (ClassIsDerivable o x) n (length ds) (Whole e) (Whole (slice_index ds 0)) (Prefix (take n ds))
      (λ k. k5 o h x e ds l node (rw (← take_all n ds (omega arith)) ps))
      (λ k. absurd (omega arith))
      ps

  next_operand : (x : Subject) (ds : List ℕ) (e n d : ℕ) → IsSubjectOf o x → slice_get o.nodes e ≡ Some (And ds) → 0 < n → slice_get ds n ≡ Some d → ClassIsDerivable o x (first_of ds e n) → Below o x d → ClassIsDerivable o x (first_of ds e (n + 1))
  next_operand x ds e n d l node m at p q =
      let k : n < length ds = slice_get_within ds n d at in
      to_prefix x ds e (n + 1) l node (omega arith)
      (rw (take_push ds n d at) (All-push (Below o x) (take n ds) d (from_prefix x ds e n k p) q))

  -- ---- walks

  walk_push : (x : Subject) (rs : List ℕ) (y : Subject) (premises : List Conclusion) (r : ℕ) (z : Subject) → IsWalk x rs y premises → IsWalk x (rs ++ r ∷ []) z (premises ++ Edge y r z ∷ [])
  walk_push x [] y [] r z w = (z, ap (λ v. Edge v r z) (sym w), refl)
  walk_push x [] y (p ∷ ps) r z w = absurd w
  walk_push x (q ∷ rs) y [] r z w = absurd w
  walk_push x (q ∷ rs) y (p ∷ ps) r z w = (w.0, w.1, walk_push w.0 rs y ps r z w.2)

  derivable_push : (cs : List Conclusion) (c : Conclusion) → AreDerivable o cs → IsDerivable o c → AreDerivable o (cs ++ c ∷ [])
  derivable_push [] c none p = more p none
  derivable_push (d ∷ cs) c (more q qs) p = more q (derivable_push cs c qs p)

  from_steps : (x y : Subject) (rs : List ℕ) (s : Property2) (n : ℕ) → n < length rs → EdgeIsDerivable o x (first_steps rs s n) y → WalkIsDerivable o x (take n rs) y
  from_steps x y rs s n l =
      at_first (λ r. EdgeIsDerivable o x r y → WalkIsDerivable o x (take n rs) y) n (length rs) s (Property (slice_index rs 0)) (Steps (take n rs))
      (λ k p. absurd (omega arith))
      (λ k p. rw (take_one rs n k l) (Edge x (slice_index rs 0) y ∷ [], (y, refl, refl), more p none))
      (λ p. p.1)

  to_steps : (x y : Subject) (rs : List ℕ) (s n : ℕ) → IsSubjectOf o x → IsSubjectOf o y → Contains o.axioms (SubProperty rs s) → 1 < n → n < length rs + 1 → WalkIsDerivable o x (take n rs) y → EdgeIsDerivable o x (first_steps rs (Property s) n) y
  to_steps x y rs s n i j m k l w =
      at_first (λ r. EdgeIsDerivable o x r y) n (length rs) (Property s) (Property (slice_index rs 0)) (Steps (take n rs))
      (λ e. (let v : WalkIsDerivable o x rs y = rw (← take_all n rs (omega arith)) w in k13_chain o h x y rs s v.0 m i j (omega arith) v.1 v.2))
      (λ e. absurd (omega arith))
      (omega (arith, length-take n rs), w)

  next_step : (x y z : Subject) (rs : List ℕ) (s n r : ℕ) → IsSubjectOf o x → IsSubjectOf o z → Contains o.axioms (SubProperty rs s) → 0 < n → slice_get rs n ≡ Some r → EdgeIsDerivable o x (first_steps rs (Property s) n) y → IsDerivable o (Edge y r z) → EdgeIsDerivable o x (first_steps rs (Property s) (n + 1)) z
  next_step x y z rs s n r i j m k at p q =
      let l : n < length rs = slice_get_within rs n r at in
      let w = from_steps x y rs (Property s) n l p in
      to_steps x z rs s (n + 1) i j m (omega arith) (omega arith)
      (rw (take_push rs n r at) (w.0 ++ Edge y r z ∷ [], walk_push x (take n rs) y w.0 r z w.1, derivable_push w.0 (Edge y r z) w.2 q))

  -- nothing at the end of a walk is nothing at its start
  nothing_back : (x : Subject) (rs : List ℕ) (y : Subject) (premises : List Conclusion) → IsWalk x rs y premises → AreDerivable o premises → Below o y nothing → Below o x nothing
  nothing_back x [] y [] w ps p = subst (λ z. Below o z nothing) (sym w) p
  nothing_back x [] y (q ∷ qs) w ps p = absurd w
  nothing_back x (r ∷ rs) y [] w ps p = absurd w
  nothing_back x (r ∷ rs) y (q ∷ qs) w (more e ps) p =
      k11 o h x w.0 r (subst (IsDerivable o) w.1 e) (nothing_back w.0 rs y qs w.2 ps p)

  -- ---- the normal forms

  in_circle : (cs : List ℕ) (c d : ℕ) → IsNextInCircle cs c d → Contains cs c × Contains cs d
  in_circle cs c d e = (
    Contains-from_slice_get cs e.0 c e.1,
    elim e.2 [ inl k ↦ Contains-from_slice_get cs (e.0 + 1) d k | inr k ↦ Contains-from_slice_get cs 0 d k.1 ],
  )

  by_n1 : {a b : Class2} (x : Subject) → IsForm o asked (N1 a b) → ClassIsDerivable o x a → ClassIsDerivable o x b
  by_n1 x (sub_class c d m) p = k4_sub o h x c d m p
  by_n1 x (equivalent cs c d m e) p = let k = in_circle cs c d e in k4_same o h x cs c d m k.0 k.1 p
  by_n1 x (right_and e ds d occurs node m) p = k6 o h x e ds d node m p

  by_n2 : {a b c : Class2} (x : Subject) → IsSubjectOf o x → IsForm o asked (N2 a b c) → ClassIsDerivable o x a → ClassIsDerivable o x b → ClassIsDerivable o x c
  by_n2 x l (left_and e ds n d occurs node m at) p q = next_operand x ds e n d l node m at p q
  by_n2 x l (disjoint cs c d m (i, j, earlier, at_c, at_d)) p q = k7 o h x cs c d m (i, j, (λ e. omega arith), at_c, at_d) p q

  by_n3 : {a : Class2} {r b : ℕ} (x : Subject) → IsForm o asked (N3 a r b) → ClassIsDerivable o x a → IsDerivable o (Edge x r (Expression b))
  by_n3 x (right_some e r c occurs node) p = k8 o h x e r c node p

  by_n4 : {r : ℕ} {a b : Class2} (x y : Subject) → IsForm o asked (N4 r a b) → IsDerivable o (Edge x r y) → ClassIsDerivable o y a → ClassIsDerivable o x b
  by_n4 x y (left_some e r c occurs node) p q = k9 o h x y e r c node p q
  by_n4 x y (domain r c m) p q = k10 o h x y r c m p

  by_n5 : {r s : ℕ} (x y : Subject) → IsForm o asked (N5 r s) → IsDerivable o (Edge x r y) → IsDerivable o (Edge x s y)
  by_n5 x y (sub_property r s m) p = k12_sub o h x y r s m p
  by_n5 x y (same_property rs r s m e) p = let k = in_circle rs r s e in k12_same o h x y rs r s m k.0 k.1 p

  by_below : {r s : Property2} (x y : Subject) → IsAtOrBelow o asked r s → EdgeIsDerivable o x r y → EdgeIsDerivable o x s y
  by_below x y same p = p
  by_below x y (step s t b form) p = by_n5 x y form (by_below x y b p)

  by_n6 : {r s t : Property2} (x y z : Subject) → IsSubjectOf o x → IsSubjectOf o z → IsForm o asked (N6 r s t) → EdgeIsDerivable o x r y → EdgeIsDerivable o y s z → EdgeIsDerivable o x t z
  by_n6 x y z i j (chain rs s n r m k at) p q = next_step x y z rs s n r i j m k at p q
  by_n6 x y z i j (transitive r m) p q = k13_transitive o h x y z r m p q

  by_n7 : {r : ℕ} (x : Subject) → IsSubjectOf o x → IsForm o asked (N7 r) → IsDerivable o (Edge x r x)
  by_n7 x l (reflexive r m) = k14 o h x r l m

  by_n8 : {i : ℕ} {a : Class2} → IsForm o asked (N8 i a) → IsSubjectOf o (Individual i) × ClassIsDerivable o (Individual i) a
  by_n8 (class_assertion c a m) = let p = k15 o h c a m in ((derivable_within p).0, p)

  by_n9 : {i r j : ℕ} → IsForm o asked (N9 i r j) → IsDerivable o (Edge (Individual i) r (Individual j))
  by_n9 (property_assertion r a b m) = k16 o h r a b m

  by_n10 : {a b : ℕ} → IsForm o asked (N10 a b) → IsDerivable o (Same a b) × IsDerivable o (Same b a)
  by_n10 (same_individuals xs a b m (n, at_a, at_b)) = (
    k17 o h xs a b m (n, n + 1, λ e. (let bad : ⊥ = omega arith in bad), at_a, at_b),
    k17 o h xs b a m (n + 1, n, λ e. (let bad : ⊥ = omega arith in bad), at_b, at_a),
  )

  -- one is the other, or lines say that they have one element
  abbrev OneElement : ℕ → ℕ → Type 0
  OneElement a b = (a ≡ b) ⊎ (IsDerivable o (Same a b) × IsDerivable o (Same b a))

  and_then : (a b c : ℕ) → OneElement a b → IsDerivable o (Same b c) → IsDerivable o (Same c b) → OneElement a c
  and_then a b c (inl e) p q = inr (subst (λ n. IsDerivable o (Same n c)) (sym e) p, subst (λ n. IsDerivable o (Same c n)) (sym e) q)
  and_then a b c (inr (p, q)) p' q' = inr (k18 o h a b c p p', k18 o h c b a q' q)

  one_element : {a b : ℕ} → AreSame o asked a b → OneElement a b
  one_element itself = inl refl
  one_element (forth {a = a} {b = b} c s form) = let p = by_n10 form in and_then a c b (one_element s) p.0 p.1
  one_element (back {a = a} {b = b} c s form) = let p = by_n10 form in and_then a c b (one_element s) p.1 p.0

  -- what lies above one lies above the other
  class_of_same : (a b : ℕ) (c : Class2) → IsDerivable o (Same b a) → ClassIsDerivable o (Individual a) c → ClassIsDerivable o (Individual b) c
  class_of_same a b (Whole d) s p = k19_class o h b a d s p
  class_of_same a b (Prefix ds) s p = λ n z l. k19_class o h b a (get_or ds n z) s (p n z l)

  -- the first edge of a walk with another source, its last with another target
  walk_from : (a b : ℕ) (rs : List ℕ) (y : Subject) → IsDerivable o (Same b a) → 0 < length rs → WalkIsDerivable o (Individual a) rs y → WalkIsDerivable o (Individual b) rs y
  walk_from a b [] y s l w = absurd (omega arith)
  walk_from a b (r ∷ rs) y s l ([], w, ps) = absurd w
  walk_from a b (r ∷ rs) y s l (e ∷ es, (z, first, w), more p ps) =
      (Edge (Individual b) r z ∷ es, (z, refl, w), more (k19_source o h b a r z s (subst (IsDerivable o) first p)) ps)

  walk_to : (x : Subject) (rs : List ℕ) (a b : ℕ) → IsDerivable o (Same b a) → 0 < length rs → (premises : List Conclusion) → IsWalk x rs (Individual a) premises → AreDerivable o premises → WalkIsDerivable o x rs (Individual b)
  walk_to x [] a b s l ps w d = absurd (omega arith)
  walk_to x (r ∷ rs) a b s l [] w d = absurd w
  walk_to x (r ∷ []) a b s l (e ∷ []) (z, first, w) (more p ps) =
      let q : IsDerivable o (Edge x r (Individual a)) = subst (λ y. IsDerivable o (Edge x r y)) w (subst (IsDerivable o) first p) in
      (Edge x r (Individual b) ∷ [], (Individual b, refl, refl), more (k19_target o h b a r x s q) none)
  walk_to x (r ∷ []) a b s l (e ∷ f ∷ es) (z, first, w) d = absurd w
  walk_to x (r ∷ q ∷ rs) a b s l (e ∷ es) (z, first, w) (more p ps) =
      let rest = walk_to z (q ∷ rs) a b s (omega arith) es w ps in
      (e ∷ rest.0, (z, first, rest.1), more p rest.2)

  nothing_behind : (x : Subject) (r : Property2) (y : Subject) → EdgeIsDerivable o x r y → Below o y nothing → Below o x nothing
  nothing_behind x (Property r) y p q = k11 o h x y r p q
  nothing_behind x (Steps rs) y p q = nothing_back x rs y p.1.0 p.1.1 p.1.2 q

  -- an edge of one is an edge of the other
  source_of_same : (a b : ℕ) (r : Property2) (y : Subject) → IsDerivable o (Same b a) → EdgeIsDerivable o (Individual a) r y → EdgeIsDerivable o (Individual b) r y
  source_of_same a b (Property r) y s p = k19_source o h b a r y s p
  source_of_same a b (Steps rs) y s (l, w) = (l, walk_from a b rs y s l w)

  target_of_same : (x : Subject) (r : Property2) (a b : ℕ) → IsDerivable o (Same b a) → EdgeIsDerivable o x r (Individual a) → EdgeIsDerivable o x r (Individual b)
  target_of_same x (Property r) a b s p = k19_target o h b a r x s p
  target_of_same x (Steps rs) a b s (l, w) = (l, walk_to x rs a b s l w.0 w.1 w.2)

  -- two that are different by an axiom have no one element, and no pair that is denied is there
  by_n11 : {a b : ℕ} → IsForm o asked (N11 a b) → OneElement a b → Below o (Individual a) nothing
  by_n11 (different_individuals xs a b m (j, k, l, at_a, at_b)) (inl e) =
      let bad : j ≡ k = (axiom_within o h (DifferentIndividuals xs) m).distinct j k b (subst (λ n. slice_get xs j ≡ Some n) e at_a) at_b in
      absurd (omega arith)
  by_n11 (different_individuals xs a b m (j, k, l, at_a, at_b)) (inr s) =
      k20_different o h xs a b m (j, k, λ e. (let bad : ⊥ = omega arith in bad), at_a, at_b) s.0

  by_n12 : {a r b : ℕ} → IsForm o asked (N12 a r b) → IsDerivable o (Edge (Individual a) r (Individual b)) → Below o (Individual a) nothing
  by_n12 (negative_assertion r a b m) p = k20_denied o h r a b m p

  n11_within : {a b : ℕ} → IsForm o asked (N11 a b) → a < length o.names.individuals
  n11_within (different_individuals xs a b m (j, k, l, at_a, at_b)) =
      All-contains (λ x. x < length o.names.individuals) xs a (axiom_within o h (DifferentIndividuals xs) m).within (Contains-from_slice_get xs j a at_a)

  -- ---- facts and contexts

  root_within : {x : Context} → IsRoot o asked x → IsSubjectOf o (subject_of x)
  root_within (named c e node) = slice_get_within o.nodes e (Class c) node
  root_within (individual a l) = l
  root_within (question e l m) = l

  context_within : {older : List Fact} {x : Context} → IsContextBy o asked older x → AllByRecursion (FactIsDerivable o) older → IsSubjectOf o (subject_of x)
  context_within (root r) ps = root_within r
  context_within (target x r) ps = ps.0.1

  class_moved : (a b : ℕ) (c : Class2) → OneElement a b → FactIsDerivable o (In c (closure.Individual a)) → FactIsDerivable o (In c (closure.Individual b))
  class_moved a b c (inl e) p = subst (λ n. FactIsDerivable o (In c (closure.Individual n))) e p
  class_moved a b c (inr s) p = ((derivable_within s.0).1, class_of_same a b c s.1 p.1)

  source_moved : (a b : ℕ) (r : Property2) (y : Context) → OneElement a b → FactIsDerivable o (closure.Edge (closure.Individual a) r y) → FactIsDerivable o (closure.Edge (closure.Individual b) r y)
  source_moved a b r y (inl e) p = subst (λ n. FactIsDerivable o (closure.Edge (closure.Individual n) r y)) e p
  source_moved a b r y (inr s) p = ((derivable_within s.0).1, p.1, source_of_same a b r (subject_of y) s.1 p.2)

  target_moved : (x : Context) (r : Property2) (a b : ℕ) → OneElement a b → FactIsDerivable o (closure.Edge x r (closure.Individual a)) → FactIsDerivable o (closure.Edge x r (closure.Individual b))
  target_moved x r a b (inl e) p = subst (λ n. FactIsDerivable o (closure.Edge x r (closure.Individual n))) e p
  target_moved x r a b (inr s) p = (p.0, (derivable_within s.0).1, target_of_same (subject_of x) r a b s.1 p.2)

  -- derivable facts give derivable facts
  derivable_by : {older : List Fact} {f : Fact} → Gives o asked older f → AllByRecursion (FactIsDerivable o) older → FactIsDerivable o f
  derivable_by (in_thing {x = x} c) ps = let l = context_within c ps in (l, k2 o h (subject_of x) l)
  derivable_by (in_itself {e = e} c) ps = let l = context_within c ps in (l, k1 o h e l)
  derivable_by (asserted form) ps = by_n8 form
  derivable_by (asserted_edge form) ps = let p = by_n9 form in ((derivable_within p).0, (derivable_within p).2, p)
  derivable_by (subsumed {x = x} a form) ps = (ps.0.0, by_n1 (subject_of x) form ps.0.1)
  derivable_by (both {x = x} a b form) ps = (ps.0.0, by_n2 (subject_of x) ps.0.0 form ps.0.1 ps.1.0.1)
  derivable_by (successor {x = x} a form) ps = let e = by_n3 (subject_of x) form ps.0.1 in (ps.0.0, (derivable_within e).2, e)
  derivable_by (predecessor {x = x} r a q y form b) ps = (ps.0.0, by_n4 (subject_of x) (subject_of y) form (by_below (subject_of x) (subject_of y) b ps.0.2) ps.1.0.1)
  derivable_by (unsatisfiable {x = x} r y) ps = (ps.0.0, nothing_behind (subject_of x) r (subject_of y) ps.0.2 ps.1.0.1)
  derivable_by (chained {x = x} {z = z} r s p q y form b c) ps =
      let first = by_below (subject_of x) (subject_of y) b ps.0.2 in
      let second = by_below (subject_of y) (subject_of z) c ps.1.0.2 in
      (ps.0.0, ps.1.0.1, by_n6 (subject_of x) (subject_of y) (subject_of z) ps.0.0 ps.1.0.1 form first second)
  derivable_by (loop {x = x} r form c) ps = let l = context_within c ps in (l, l, by_n7 (subject_of x) l form)
  derivable_by (same_class {b = b} {c = c} a s) ps = class_moved a b c (one_element s) ps.0
  derivable_by (same_source {b = b} {r = r} {y = y} a s) ps = source_moved a b r y (one_element s) ps.0
  derivable_by (same_target {b = b} {r = r} {x = x} a s) ps = target_moved x r a b (one_element s) ps.0
  derivable_by (different {a = a} b form s) ps = (n11_within form, by_n11 form (one_element s))
  derivable_by (denied {a = a} r b q form below) ps = (ps.0.0, by_n12 form (by_below (Individual a) (Individual b) below ps.0.2))

  mutual
    pub fact_derivable : {f : Fact} → IsFact o asked f → FactIsDerivable o f
    fact_derivable (given older g fs) = derivable_by g (facts_derivable fs)

    facts_derivable : {fs : List Fact} → AreFacts o asked fs → AllByRecursion (FactIsDerivable o) fs
    facts_derivable AreFacts.none = tt
    facts_derivable (AreFacts.more p ps) = (fact_derivable p, facts_derivable ps)

  pub below_derivable : (x : Context) (d : ℕ) → IsFact o asked (In (Whole d) x) → IsDerivable o (Sub (subject_of x) d)
  below_derivable x d f = (fact_derivable f).1
