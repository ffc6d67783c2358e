-- There is a listed interpretation wherever tests decide the facts, and there is one.
use Rattle.std.proofs.Common.{◌≡◌, ℕ, zero, suc, ◌<◌, ◌≤◌, ◌↔◌, ◌⊎◌, Bool, true, false, List, [], ◌∷◌, length, get_or, slice_get, Some, AllPairs, refl, sym, ap, ap₂, ◌∙◌, subst, subst₂, inl, inr, arith}
use Rattle.std.specs.Str.{bytes_eq}
use Rattle.std.proofs.lemmas.Bool.{cases_Bool, cases_order, both_ways}
use Rattle.std.proofs.lemmas.Option.{same_Some, none-some, slice_get-get_or, slice_get_within, get_or_from_slice_get, unwrap_or-slice_get}
use Rattle.std.proofs.lemmas.Slice.Eq.{bytes_eq-Decides}
use Rattle.axioms.specs.Ontology.{Ontology, Class, thing, name_at, property_name, individual_name}
use Rattle.axioms.specs.WellFormedness.{IsOntology}
use Rattle.std.specs.Cmp.{both_ways as same_tests}
use Rattle.interpretation_spec.specs.Interpretation.{Interpretation}
use Rattle.interpretation_spec.specs.Agreement.{AgreeOn}
use Rattle.interpretation_spec.proofs.Agreement.{agreeing}
use Rattle.normal_forms.specs.Forms.{Whole, Property}
use Rattle.closure.specs.Closure.{Context, Expression, Individual, In, AreSame, IsRoot, IsFact}
use Rattle.closure.specs.Groups.{least_same}
use Rattle.closure.proofs.Facts as fact
use Rattle.closure.proofs.Groups.{and_then, turned, same_as_least, is_least, least_unique}
use Rattle.exactness.specs.ListedInterpretation.{IsSatisfiable, HasEdge, Leads, IsBefore, AreSatisfiableContexts, IsListedInterpretation, IsConsistent}
use Rattle.exactness.specs.ListedTheorems.{AreTests}

-- the number of a name, or that it has none
abbrev Found : List (List ℕ) → List ℕ → Type 0
Found names name = ((n : ℕ) × (slice_get names n ≡ Some name)) ⊎ ((n : ℕ) → slice_get names n ≡ Some name → ⊥)

find_name : (names : List (List ℕ)) (name : List ℕ) → Found names name
find_name [] name = inr (λ n h. none-some name h)
find_name (first ∷ names) name = go (cases_Bool (bytes_eq first name)) (find_name names name)
  where
    later : bytes_eq first name ≡ false → ((n : ℕ) → slice_get names n ≡ Some name → ⊥) → (n : ℕ) → slice_get (first ∷ names) n ≡ Some name → ⊥
    later ne never zero h = both_ways (bytes_eq first name) ne ((bytes_eq-Decides first name).1 (same_Some first name h))
    later ne never (suc n) h = never n h

    go : (bytes_eq first name ≡ true) ⊎ (bytes_eq first name ≡ false) → Found names name → Found (first ∷ names) name
    go (inl e) found = inl (0, ap Some ((bytes_eq-Decides first name).0 e))
    go (inr ne) (inl (n, h)) = inl (suc n, h)
    go (inr ne) (inr never) = inr (later ne never)

name_of : (names : List (List ℕ)) (n : ℕ) → n < length names → slice_get names n ≡ Some (name_at names n)
name_of names n l = slice_get-get_or names n [] l ∙ ap Some (sym (unwrap_or-slice_get names n []))

irreflexive : (x : Context) → IsBefore x x → ⊥
irreflexive (Expression e) h = omega arith
irreflexive (Individual a) h = omega arith

-- no context stands twice in a list that ascends
pub one_place : (elements : List Context) → AllPairs IsBefore elements → (m n : ℕ) (x : Context) → slice_get elements m ≡ Some x → slice_get elements n ≡ Some x → m ≡ n
one_place elements ascend m n x at_m at_n = go (cases_order m n)
  where
    earlier : (m n : ℕ) → slice_get elements m ≡ Some x → slice_get elements n ≡ Some x → m < n → ⊥
    earlier m n at_m at_n l = irreflexive x (subst₂ IsBefore (get_or_from_slice_get elements m x x at_m) (get_or_from_slice_get elements n x x at_n)
        (ascend m n x l (slice_get_within elements n x at_n)))

    go : (m ≡ n) ⊎ ((m < n) ⊎ (n < m)) → m ≡ n
    go (inl e) = e
    go (inr (inl l)) = absurd (earlier m n at_m at_n l)
    go (inr (inr l)) = absurd (earlier n m at_n at_m l)

module _ (o : Ontology) (asked : List ℕ) (wf : IsOntology o) (consistent : IsConsistent o asked)
    (elements : List Context) (ascend : AllPairs IsBefore elements)
    (satisfiable : (m : ℕ) (x : Context) → slice_get elements m ≡ Some x → IsSatisfiable o asked x)
    (leads : (m : ℕ) (x : Context) → slice_get elements m ≡ Some x → Leads o asked x)
    (listed : (x : Context) → IsSatisfiable o asked x → Leads o asked x → (m : ℕ) × (slice_get elements m ≡ Some x))
    (has : Context → ℕ → Bool) (has-is : (x : Context) (e : ℕ) → (has x e ≡ true) ↔ IsFact o asked (In (Whole e) x))
    (edge : Context → ℕ → Context → Bool) (edge-is : (x : Context) (r : ℕ) (y : Context) → (edge x r y ≡ true) ↔ HasEdge o asked x (Property r) y) where
  context_at : ℕ → Context
  context_at m = get_or elements m (Expression thing)

  context_is : (m : ℕ) (x : Context) → slice_get elements m ≡ Some x → context_at m ≡ x
  unfolding context_at
  context_is m x at = get_or_from_slice_get elements m x (Expression thing) at

  class_test : (name : List ℕ) → Found o.names.classes name → ℕ → Bool
  class_test name (inl (c, h)) m = has (context_at m) (wf.class_nodes c (slice_get_within o.names.classes c name h)).0
  class_test name (inr never) m = false

  property_test : (name : List ℕ) → Found o.names.properties name → ℕ → ℕ → Bool
  property_test name (inl (r, h)) m n = edge (context_at m) r (context_at n)
  property_test name (inr never) m n = false

  -- the element of the least individual of the group
  least_listed : (a : ℕ) → a < length o.names.individuals → (m : ℕ) × (slice_get elements m ≡ Some (Individual (least_same o a)))
  least_listed a l =
      let b = least_same o a in
      let low : b ≤ a = is_least o asked a a (turned (same_as_least o asked a)) in
      let k : b < length o.names.individuals = omega arith in
      listed (Individual b) (record { context = fact.root (IsRoot.individual b k); without_nothing = consistent.individuals b k }) (is_least o asked a)

  place : (name : List ℕ) → Found o.names.individuals name → (m : ℕ) × (x : Context) × (slice_get elements m ≡ Some x)
  place name (inl (a, h)) =
      let (m, at) = least_listed a (slice_get_within o.names.individuals a name h) in
      (m, Individual (least_same o a), at)
  place name (inr never) =
      let (m, at) = listed (Expression thing) (record { context = fact.root (IsRoot.named 0 thing wf.thing_node); without_nothing = consistent.things }) tt in
      (m, Expression thing, at)

  listed_interpretation : Interpretation
  listed_interpretation = record {
    size = length elements;
    class = λ name m. class_test name (find_name o.names.classes name) m;
    property = λ name m n. property_test name (find_name o.names.properties name) m n;
    individual = λ name. (place name (find_name o.names.individuals name)).0;
  }

  class-is : (c e m : ℕ) (x : Context) → slice_get o.nodes e ≡ Some (Class c) → slice_get elements m ≡ Some x
      → (name : List ℕ) → slice_get o.names.classes c ≡ Some name → (found : Found o.names.classes name) → class_test name found m ≡ has x e
  unfolding class_test
  class-is c e m x node at name h (inl (d, k)) =
      let same : d ≡ c = wf.distinct_classes d c name k h in
      let its = wf.class_nodes d (slice_get_within o.names.classes d name k) in
      let same_node : its.0 ≡ e = wf.distinct_nodes its.0 e (Class c) (its.1 ∙ ap (λ c. Some (Class c)) same) node in
      ap₂ has (context_is m x at) same_node
  class-is c e m x node at name h (inr never) = absurd (never c h)

  property-is : (r m n : ℕ) (x y : Context) → slice_get elements m ≡ Some x → slice_get elements n ≡ Some y
      → (name : List ℕ) → slice_get o.names.properties r ≡ Some name → (found : Found o.names.properties name) → property_test name found m n ≡ edge x r y
  unfolding property_test
  property-is r m n x y at_m at_n name h (inl (q, k)) =
      let same : q ≡ r = wf.distinct_properties q r name k h in
      cc (context_is m x at_m, context_is n y at_n, same)
  property-is r m n x y at_m at_n name h (inr never) = absurd (never r h)

  place-is : (a c m : ℕ) → AreSame o asked a c → slice_get elements m ≡ Some (Individual c)
      → (name : List ℕ) → slice_get o.names.individuals a ≡ Some name → (found : Found o.names.individuals name) → (place name found).0 ≡ m
  unfolding place
  place-is a c m p at name h (inl (b, k)) =
      let l : b < length o.names.individuals = slice_get_within o.names.individuals b name k in
      let same : b ≡ a = wf.distinct_individuals b a name k h in
      let its = least_listed b l in
      let q : AreSame o asked (least_same o b) c = and_then (turned (same_as_least o asked b)) (subst (λ n. AreSame o asked n c) (sym same) p) in
      let one : least_same o b ≡ c = least_unique o asked q (is_least o asked b) (leads m (Individual c) at) in
      one_place elements ascend its.0 m (Individual (least_same o b)) its.1 (at ∙ ap (λ c. Some (Individual c)) (sym one))
  place-is a c m p at name h (inr never) = absurd (never a h)

  listed_interpretation-is : IsListedInterpretation o asked elements listed_interpretation
  unfolding listed_interpretation
  listed_interpretation-is = record {
    size = refl;
    contexts = record { ascend = ascend; satisfiable = satisfiable; leads = leads; listed = listed };
    classes = λ c e m x node at.
        let name = name_at o.names.classes c in
        let h = name_of o.names.classes c (wf.nodes e (Class c) node) in
        let same = class-is c e m x node at name h (find_name o.names.classes name) in
        rw same (has-is x e);
    pairs = λ r m n x y l at_m at_n.
        let name = property_name o r in
        let same = property-is r m n x y at_m at_n name (name_of o.names.properties r l) (find_name o.names.properties name) in
        rw same (edge-is x r y);
    individuals = λ a c m l p at.
        let name = individual_name o a in
        place-is a c m p at name (name_of o.names.individuals a l) (find_name o.names.individuals name);
    within = λ name.
        let p = place name (find_name o.names.individuals name) in
        slice_get_within elements p.0 p.1 p.2;
  }

-- where tests decide the facts of each context, there is a listed interpretation
pub listed_exists : (o : Ontology) (asked : List ℕ) → IsOntology o → IsConsistent o asked → (elements : List Context) → AreSatisfiableContexts o asked elements
    → (has : Context → ℕ → Bool) (edge : Context → ℕ → Context → Bool) → AreTests o asked has edge → (i : Interpretation) × IsListedInterpretation o asked elements i
listed_exists o asked wf consistent elements are has edge tests = (
  listed_interpretation o asked wf consistent elements are.ascend are.satisfiable are.leads are.listed has tests.classes edge tests.edges,
  listed_interpretation-is o asked wf consistent elements are.ascend are.satisfiable are.leads are.listed has tests.classes edge tests.edges,
)

-- ---- and there is one

asymmetric : (x y : Context) → IsBefore x y → IsBefore y x → ⊥
asymmetric (Expression e) (Expression f) h k = omega arith
asymmetric (Expression e) (Individual a) h k = elim k [ ]
asymmetric (Individual a) (Expression e) h k = elim h [ ]
asymmetric (Individual a) (Individual b) h k = omega arith

head_before : (x : Context) (xs : List Context) → AllPairs IsBefore (x ∷ xs) → (m : ℕ) (y : Context) → slice_get xs m ≡ Some y → IsBefore x y
head_before x xs ascend m y h =
    subst (IsBefore x) (get_or_from_slice_get xs m y x h) (ascend 0 (suc m) x (omega arith) (omega (arith, slice_get_within xs m y h)))

tail_ascends : (x : Context) (xs : List Context) → AllPairs IsBefore (x ∷ xs) → AllPairs IsBefore xs
tail_ascends x xs ascend m n d l k = ascend (suc m) (suc n) d (omega arith) (omega arith)

-- each of the first list is in the second
abbrev IsPartOf : List Context → List Context → Type 0
IsPartOf xs ys = (m : ℕ) (x : Context) → slice_get xs m ≡ Some x → (n : ℕ) × (slice_get ys n ≡ Some x)

same_head : (x y : Context) (xs ys : List Context) → AllPairs IsBefore (x ∷ xs) → AllPairs IsBefore (y ∷ ys) → IsPartOf (x ∷ xs) (y ∷ ys) → IsPartOf (y ∷ ys) (x ∷ xs) → x ≡ y
same_head x y xs ys up up' h k = go (h 0 x refl).0 (k 0 y refl).0 (h 0 x refl).1 (k 0 y refl).1
  where
    go : (m n : ℕ) → slice_get (y ∷ ys) m ≡ Some x → slice_get (x ∷ xs) n ≡ Some y → x ≡ y
    go zero n p q = sym (same_Some y x p)
    go (suc m) zero p q = same_Some x y q
    go (suc m) (suc n) p q = absurd (asymmetric x y (head_before x xs up n y q) (head_before y ys up' m x p))

tail_part : (x y : Context) (xs ys : List Context) → x ≡ y → AllPairs IsBefore (x ∷ xs) → IsPartOf (x ∷ xs) (y ∷ ys) → IsPartOf xs ys
tail_part x y xs ys same up h m z p = go (h (suc m) z p).0 (h (suc m) z p).1
  where
    go : (n : ℕ) → slice_get (y ∷ ys) n ≡ Some z → (n : ℕ) × (slice_get ys n ≡ Some z)
    go zero q = absurd (irreflexive x (subst (IsBefore x) (sym (same ∙ same_Some y z q)) (head_before x xs up m z p)))
    go (suc n) q = (n, q)

same_elements : (xs ys : List Context) → AllPairs IsBefore xs → AllPairs IsBefore ys → IsPartOf xs ys → IsPartOf ys xs → xs ≡ ys
same_elements [] [] up up' h k = refl
same_elements [] (y ∷ ys) up up' h k = absurd (none-some y (k 0 y refl).1)
same_elements (x ∷ xs) [] up up' h k = absurd (none-some x (h 0 x refl).1)
same_elements (x ∷ xs) (y ∷ ys) up up' h k =
    let same = same_head x y xs ys up up' h k in
    ap₂ ◌∷◌ same (same_elements xs ys (tail_ascends x xs up) (tail_ascends y ys up')
    (tail_part x y xs ys same up h) (tail_part y x ys xs (sym same) up' k))

-- two lists of the satisfiable contexts that lead are the same
pub contexts_determined : (o : Ontology) (asked : List ℕ) (xs ys : List Context) → AreSatisfiableContexts o asked xs → AreSatisfiableContexts o asked ys → xs ≡ ys
contexts_determined o asked xs ys p q =
    same_elements xs ys p.ascend q.ascend (λ m x h. q.listed x (p.satisfiable m x h) (p.leads m x h)) (λ m x h. p.listed x (q.satisfiable m x h) (q.leads m x h))

pub elements_determined : (o : Ontology) (asked : List ℕ) (xs ys : List Context) (i j : Interpretation)
    → IsListedInterpretation o asked xs i → IsListedInterpretation o asked ys j → xs ≡ ys
elements_determined o asked xs ys i j p q = contexts_determined o asked xs ys p.contexts q.contexts

pub listed_determined : (o : Ontology) (asked : List ℕ) (elements : List Context) (i j : Interpretation) → IsOntology o → IsConsistent o asked
    → IsListedInterpretation o asked elements i → IsListedInterpretation o asked elements j → AgreeOn o i j
listed_determined o asked elements i j wf consistent p q =
    agreeing o i j (p.size ∙ sym q.size)
    (λ c m l h.
    let (e, node) = wf.class_nodes c l in
    let (x, at) = element m h in
    let a = p.classes c e m x node at in
    let b = q.classes c e m x node at in
    same_tests (i.class (name_at o.names.classes c) m) (j.class (name_at o.names.classes c) m) (λ t. b.1 (a.0 t)) (λ t. a.1 (b.0 t)))
    (λ r m n l h k.
    let (x, at_m) = element m h in
    let (y, at_n) = element n k in
    let a = p.pairs r m n x y l at_m at_n in
    let b = q.pairs r m n x y l at_m at_n in
    same_tests (i.property (name_at o.names.properties r) m n) (j.property (name_at o.names.properties r) m n) (λ t. b.1 (a.0 t)) (λ t. a.1 (b.0 t)))
    (λ a l.
    let b = least_same o a in
    let low : b ≤ a = is_least o asked a a (turned (same_as_least o asked a)) in
    let k : b < length o.names.individuals = omega arith in
    let (m, at) = p.contexts.listed (Individual b) (record { context = fact.root (IsRoot.individual b k); without_nothing = consistent.individuals b k }) (is_least o asked a) in
    p.individuals a b m l (same_as_least o asked a) at ∙ sym (q.individuals a b m l (same_as_least o asked a) at))
  where
    element : (m : ℕ) → m < i.size → (x : Context) × (slice_get elements m ≡ Some x)
    element m h = (get_or elements m (Expression thing), slice_get-get_or elements m (Expression thing) (rw (← p.size) h))

pub determined : (o : Ontology) (asked : List ℕ) (xs ys : List Context) (i j : Interpretation) → IsOntology o → IsConsistent o asked
    → IsListedInterpretation o asked xs i → IsListedInterpretation o asked ys j → (xs ≡ ys) × AgreeOn o i j
determined o asked xs ys i j wf consistent p q =
    let e = elements_determined o asked xs ys i j p q in
    (e, listed_determined o asked xs i j wf consistent p (subst (λ zs. IsListedInterpretation o asked zs j) (sym e) q))
