-- Each individual has a least one in its group.
use Rattle.std.proofs.Common.{◌≡◌, ℕ, zero, suc, ◌<◌, ◌≤◌, ◌↔◌, inl, inr, Bool, true, false, List, [], ◌∷◌, slice_get, Some, Contains, refl, sym, ap, ◌∙◌, subst, arith, if◌then◌else◌, ◌==◌, ◌+◌, ◌⊎◌, eqb-true, eq-eqb}
use Rattle.std.specs.Prelude.{ltb}
use Rattle.std.proofs.lemmas.Bool.{cases_order, ltb-true, lt-ltb}
use Rattle.std.proofs.lemmas.Option.{same_Some, none-some}
use Rattle.axioms.specs.Ontology.{Ontology, Axiom, SubClass, EquivalentClasses, DisjointClasses, SubProperty, EquivalentProperties, Domain, Transitive, Reflexive, ClassAssertion, PropertyAssertion, SameIndividuals, DifferentIndividuals, NegativePropertyAssertion}
use Rattle.lemmas.proofs.Members.{Contains-from_slice_get, slice_get-from_Contains}
use Rattle.normal_forms.specs.Forms.{N10, IsForm, same_individuals}
use Rattle.closure.specs.Closure.{AreSame, itself, forth, back, IsLink}
use Rattle.closure.specs.Groups.{IsLeast, lower, joined, joined_along, joined_by, least_by, least_same}

-- ---- an equivalence

pub and_then : {o : Ontology} {asked : List ℕ} {a b c : ℕ} → AreSame o asked a b → AreSame o asked b c → AreSame o asked a c
and_then p itself = p
and_then p (forth d q form) = forth d (and_then p q) form
and_then p (back d q form) = back d (and_then p q) form

pub turned : {o : Ontology} {asked : List ℕ} {a b : ℕ} → AreSame o asked a b → AreSame o asked b a
turned itself = itself
turned (forth {b = b} c p form) = and_then (back b itself form) (turned p)
turned (back {b = b} c p form) = and_then (forth b itself form) (turned p)

-- what goes along each link goes to all that are one
pub along_links : (o : Ontology) (asked : List ℕ) (P : ℕ → Type 0) → ((a b : ℕ) → IsLink o asked a b → P a → P b) → {a b : ℕ} → AreSame o asked a b → P a → P b
along_links o asked P step itself p = p
along_links o asked P step (forth {b = b} c same form) p = step c b (inl form) (along_links o asked P step same p)
along_links o asked P step (back {b = b} c same form) p = step c b (inr form) (along_links o asked P step same p)

-- ---- the lower of two

at_test : {X : Type 0} (P : X → Type 0) (b : Bool) (x y : X) → P x → P y → P (if b then x else y)
at_test P true x y p q = p
at_test P false x y p q = q

lower_low : (m n : ℕ) → (lower m n ≤ m) × (lower m n ≤ n)
lower_low m n = go (ltb m n) (ltb-true m n) (lt-ltb m n)
  where
    go : (b : Bool) → (b ≡ true → m < n) → (m < n → b ≡ true) → ((if b then m else n) ≤ m) × ((if b then m else n) ≤ n)
    go true p q = let l = p refl in (omega arith, omega arith)
    go false p q = other (cases_order m n)
      where
        other : (m ≡ n) ⊎ ((m < n) ⊎ (n < m)) → (n ≤ m) × (n ≤ n)
        other (inl e) = (omega arith, omega arith)
        other (inr (inl l)) = absurd (let e = q l in let bad : ⊥ = cc in bad)
        other (inr (inr l)) = (omega arith, omega arith)

joined_cases : (P : ℕ → Type 0) (m n k : ℕ) → (k ≡ m → P (lower m n)) → (k ≡ n → P (lower m n)) → P k → P (joined m n k)
joined_cases P m n k f g h = go (k == m) (k == n) (eqb-true k m) (eqb-true k n)
  where
    go : (s t : Bool) → (s ≡ true → k ≡ m) → (t ≡ true → k ≡ n) → P (if s then lower m n else (if t then lower m n else k))
    go true t p q = f (p refl)
    go false true p q = g (q refl)
    go false false p q = h

joined_low : (m n k : ℕ) → joined m n k ≤ k
joined_low m n k = joined_cases (λ j. j ≤ k) m n k (λ e. subst (λ j. lower m n ≤ j) (sym e) (lower_low m n).0) (λ e. subst (λ j. lower m n ≤ j) (sym e) (lower_low m n).1) (omega arith)

joined_first : (m n : ℕ) → joined m n m ≡ lower m n
joined_first m n = rw (eq-eqb m m refl) refl

joined_second : (m n : ℕ) → joined m n n ≡ lower m n
joined_second m n = go (n == m)
  where
    go : (s : Bool) → (if s then lower m n else (if n == n then lower m n else n)) ≡ lower m n
    go true = refl
    go false = rw (eq-eqb n n refl) refl

-- ---- along a list

along_low : (least : ℕ → ℕ) → ((x : ℕ) → least x ≤ x) → (xs : List ℕ) (x : ℕ) → joined_along least xs x ≤ x
along_low least low [] x = low x
along_low least low (a ∷ []) x = low x
along_low least low (a ∷ b ∷ bs) x =
    let p = joined_low (joined_along least (b ∷ bs) a) (joined_along least (b ∷ bs) b) (joined_along least (b ∷ bs) x) in
    let q = along_low least low (b ∷ bs) x in
    omega (arith, p, q)

along_keeps : (least : ℕ → ℕ) (xs : List ℕ) (x y : ℕ) → least x ≡ least y → joined_along least xs x ≡ joined_along least xs y
along_keeps least [] x y e = e
along_keeps least (a ∷ []) x y e = e
along_keeps least (a ∷ b ∷ bs) x y e =
    ap (joined (joined_along least (b ∷ bs) a) (joined_along least (b ∷ bs) b)) (along_keeps least (b ∷ bs) x y e)

along_joins : (least : ℕ → ℕ) (xs : List ℕ) (x y n : ℕ) → slice_get xs n ≡ Some x → slice_get xs (suc n) ≡ Some y → joined_along least xs x ≡ joined_along least xs y
along_joins least [] x y n g h = absurd (none-some x g)
along_joins least (a ∷ []) x y n g h = absurd (none-some y h)
along_joins least (a ∷ b ∷ bs) x y zero g h =
    let L = joined_along least (b ∷ bs) in
    let e : a ≡ x = same_Some a x g in
    let f : b ≡ y = same_Some b y h in
    let k : joined (L a) (L b) (L a) ≡ joined (L a) (L b) (L b) = joined_first (L a) (L b) ∙ sym (joined_second (L a) (L b)) in
    subst (λ z. joined (L a) (L b) (L z) ≡ joined (L a) (L b) (L y)) e (subst (λ z. joined (L a) (L b) (L a) ≡ joined (L a) (L b) (L z)) f k)
along_joins least (a ∷ b ∷ bs) x y (suc n) g h =
    ap (joined (joined_along least (b ∷ bs) a) (joined_along least (b ∷ bs) b)) (along_joins least (b ∷ bs) x y n g h)

module _ (R : ℕ → ℕ → Type 0) (refl_of : (x : ℕ) → R x x) (sym_of : (x y : ℕ) → R x y → R y x) (trans_of : (x y z : ℕ) → R x y → R y z → R x z) where
  lower_related : (m n k : ℕ) → R k m → R m n → R k (lower m n)
  lower_related m n k p q = at_test (R k) (ltb m n) m n p (trans_of k m n p q)

  joined_related : (m n k x : ℕ) → R m n → R x k → R x (joined m n k)
  joined_related m n k x p q =
      joined_cases (R x) m n k (λ e. lower_related m n x (subst (R x) e q) p) (λ e. lower_related m n x (trans_of x n m (subst (R x) e q) (sym_of m n p)) p) q

  along_related : (least : ℕ → ℕ) → ((x : ℕ) → R x (least x)) → (xs : List ℕ) → ((n a b : ℕ) → slice_get xs n ≡ Some a → slice_get xs (suc n) ≡ Some b → R a b)
      → (x : ℕ) → R x (joined_along least xs x)
  along_related least p [] links x = p x
  along_related least p (a ∷ []) links x = p x
  along_related least p (a ∷ b ∷ bs) links x =
      let L = joined_along least (b ∷ bs) in
      let each : (y : ℕ) → R y (L y) = along_related least p (b ∷ bs) (λ n. links (suc n)) in
      let one : R (L a) (L b) = trans_of (L a) a (L b) (sym_of a (L a) (each a)) (trans_of a b (L b) (links 0 a b refl refl) (each b)) in
      joined_related (L a) (L b) (L x) x one (each x)

-- ---- of the axioms

by_low : (least : ℕ → ℕ) → ((x : ℕ) → least x ≤ x) → (a : Axiom) (x : ℕ) → joined_by least a x ≤ x
by_low least low (SameIndividuals xs) x = along_low least low xs x
by_low least low (SubClass c d) x = low x
by_low least low (EquivalentClasses cs) x = low x
by_low least low (DisjointClasses cs) x = low x
by_low least low (SubProperty rs s) x = low x
by_low least low (EquivalentProperties rs) x = low x
by_low least low (Domain r c) x = low x
by_low least low (Transitive r) x = low x
by_low least low (Reflexive r) x = low x
by_low least low (ClassAssertion c b) x = low x
by_low least low (PropertyAssertion r b c) x = low x
by_low least low (DifferentIndividuals xs) x = low x
by_low least low (NegativePropertyAssertion r b c) x = low x

by_keeps : (least : ℕ → ℕ) (a : Axiom) (x y : ℕ) → least x ≡ least y → joined_by least a x ≡ joined_by least a y
by_keeps least (SameIndividuals xs) x y e = along_keeps least xs x y e
by_keeps least (SubClass c d) x y e = e
by_keeps least (EquivalentClasses cs) x y e = e
by_keeps least (DisjointClasses cs) x y e = e
by_keeps least (SubProperty rs s) x y e = e
by_keeps least (EquivalentProperties rs) x y e = e
by_keeps least (Domain r c) x y e = e
by_keeps least (Transitive r) x y e = e
by_keeps least (Reflexive r) x y e = e
by_keeps least (ClassAssertion c b) x y e = e
by_keeps least (PropertyAssertion r b c) x y e = e
by_keeps least (DifferentIndividuals xs) x y e = e
by_keeps least (NegativePropertyAssertion r b c) x y e = e

all_low : (axioms : List Axiom) (x : ℕ) → least_by axioms x ≤ x
all_low [] x = omega arith
all_low (a ∷ axioms) x = by_low (least_by axioms) (all_low axioms) a x

all_join : (axioms : List Axiom) (k : ℕ) (xs : List ℕ) → slice_get axioms k ≡ Some (SameIndividuals xs) → (x y n : ℕ) → slice_get xs n ≡ Some x → slice_get xs (suc n) ≡ Some y → least_by axioms x ≡ least_by axioms y
all_join [] k xs m x y n g h = absurd (none-some (SameIndividuals xs) m)
all_join (a ∷ axioms) zero xs m x y n g h =
    let e : a ≡ SameIndividuals xs = same_Some a (SameIndividuals xs) m in
    subst (λ b. joined_by (least_by axioms) b x ≡ joined_by (least_by axioms) b y) (sym e) (along_joins (least_by axioms) xs x y n g h)
all_join (a ∷ axioms) (suc k) xs m x y n g h = by_keeps (least_by axioms) a x y (all_join axioms k xs m x y n g h)

module _ (o : Ontology) (asked : List ℕ) where
  abbrev Same : ℕ → ℕ → Type 0
  Same a b = AreSame o asked a b

  by_related : (least : ℕ → ℕ) → ((x : ℕ) → Same x (least x)) → (a : Axiom) → Contains o.axioms a → (x : ℕ) → Same x (joined_by least a x)
  by_related least p (SameIndividuals xs) c x =
      along_related Same (λ x. itself) (λ x y. turned) (λ x y z. and_then) least p xs
      (λ n a b g h. forth a itself (same_individuals xs a b c (n, g, (let e : suc n ≡ n + 1 = omega arith in subst (λ k. slice_get xs k ≡ Some b) e h)))) x
  by_related least p (SubClass c d) k x = p x
  by_related least p (EquivalentClasses cs) k x = p x
  by_related least p (DisjointClasses cs) k x = p x
  by_related least p (SubProperty rs s) k x = p x
  by_related least p (EquivalentProperties rs) k x = p x
  by_related least p (Domain r c) k x = p x
  by_related least p (Transitive r) k x = p x
  by_related least p (Reflexive r) k x = p x
  by_related least p (ClassAssertion c b) k x = p x
  by_related least p (PropertyAssertion r b c) k x = p x
  by_related least p (DifferentIndividuals xs) k x = p x
  by_related least p (NegativePropertyAssertion r b c) k x = p x

  all_related : (axioms : List Axiom) → ((n : ℕ) (a : Axiom) → slice_get axioms n ≡ Some a → Contains o.axioms a) → (x : ℕ) → Same x (least_by axioms x)
  all_related [] there x = itself
  all_related (a ∷ axioms) there x = by_related (least_by axioms) (all_related axioms (λ n. there (suc n))) a (there 0 a refl) x

  pub same_as_least : (a : ℕ) → AreSame o asked a (least_same o a)
  same_as_least a = all_related o.axioms (λ n b g. Contains-from_slice_get o.axioms n b g) a

  form_joins : {a b : ℕ} → IsForm o asked (N10 a b) → least_same o a ≡ least_same o b
  form_joins (same_individuals xs a b m (n, g, h)) =
      let (k, at) = slice_get-from_Contains o.axioms (SameIndividuals xs) m in
      let e : n + 1 ≡ suc n = omega arith in
      all_join o.axioms k xs at a b n g (subst (λ j. slice_get xs j ≡ Some b) e h)

  pub one_least : {a b : ℕ} → AreSame o asked a b → least_same o a ≡ least_same o b
  one_least itself = refl
  one_least (forth c p form) = one_least p ∙ form_joins form
  one_least (back c p form) = one_least p ∙ sym (form_joins form)

  pub is_least : (a : ℕ) → IsLeast o asked (least_same o a)
  is_least a b p =
      let e : least_same o a ≡ least_same o b = one_least (and_then (same_as_least a) p) in
      let l = all_low o.axioms b in
      omega (arith, e, l)

  pub same_decided : (a b : ℕ) → AreSame o asked a b ↔ (least_same o a ≡ least_same o b)
  same_decided a b = (
    one_least,
    λ e. and_then (subst (λ k. Same a k) e (same_as_least a)) (turned (same_as_least b)),
  )

  -- the least of a group is one
  pub least_unique : {a b : ℕ} → AreSame o asked a b → IsLeast o asked a → IsLeast o asked b → a ≡ b
  least_unique {a} {b} p l k =
      let m : a ≤ b = l b p in
      let n : b ≤ a = k a (turned p) in
      omega arith
