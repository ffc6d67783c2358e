-- The interpretation whose members are listed.
use Rattle.std.proofs.Common.{◌≡◌, ◌↔◌, ◌⊎◌, inl, inr, ℕ, zero, suc, ◌+◌, ◌<◌, ◌≤◌, ◌==◌, ◌||◌, ◌^◌, Bool, true, false, List, [], ◌∷◌, ◌++◌, length, get_or, map, slice_get, Some, All, Contains, refl, sym, ap, ◌∙◌, subst, arith, eqb-true}
use Rattle.std.specs.List.{list_any, enumerate_from}
use Rattle.std.proofs.lemmas.Bool.{cases_lt, eq-eqb, or_cases, false≢true}
use Rattle.std.proofs.lemmas.List.{get_or_past}
use Rattle.std.proofs.lemmas.List.Elements.{All-append, All-cons, All-nil, All-map}
use Rattle.std.proofs.lemmas.Option.{slice_get-get_or, slice_get_within, get_or_from_slice_get}
use Rattle.lemmas.proofs.Members.{Contains-none, Contains-first, Contains-later, Contains-cons_cases, Contains-from_slice_get}
use Rattle.axioms.specs.Expression.{Iri}
use Rattle.axioms.specs.Growth.{IsBounded}
use Rattle.axioms.specs.Ontology.{Ontology, Class, IsClassAt, name_at, thing}
use Rattle.axioms.specs.WellFormedness.{IsOntology}
use Rattle.interpretation_spec.specs.Interpretation.{Interpretation}
use Rattle.interpretation_spec.specs.NamedInterpretation.{number_of}
use Rattle.interpretation_spec.proofs.Names.{number_of-name_at}
use Rattle.certificate.specs.Certificate.{Listed}
use Rattle.certificate.specs.Writability.{IsListedOf, IsNamedClass, listed_numbers}
use Rattle.listed_model.specs.Listing.{IsListing, elements_of, targets_of}
use Rattle.closure.specs.Closure.{Context, Expression, Individual, In, IsFact, IsRoot}
use Rattle.closure.specs.Groups.{least_same}
use Rattle.closure.proofs.Facts as fact
use Rattle.closure.proofs.Groups.{and_then, turned, same_as_least, is_least, least_unique}
use Rattle.normal_forms.specs.Forms.{Whole}
use Rattle.exactness.specs.ListedInterpretation.{AreSatisfiableContexts, IsConsistent, IsListedInterpretation}
use Rattle.exactness.specs.Acceptance.{IsListedFor}
use Rattle.countermodel.specs.MemberRows.{AreClassRows, AreIndividualElements, AreOwnClaims}
use Rattle.countermodel.specs.PairRows.{ArePairRows}
use Rattle.exactness.proofs.Listed.{one_place}

-- ---- numbers of names

-- ---- members of rows

or_right : (a b : Bool) → b ≡ true → (a || b) ≡ true
or_right true b h = refl
or_right false b h = h

from_test : (xs : List ℕ) (n : ℕ) → list_any (λ z. z == n) xs ≡ true → Contains xs n
from_test [] n h = absurd (false≢true h)
from_test (x ∷ xs) n h = elim (or_cases (x == n) (list_any (λ z. z == n) xs) h) [
  | inl e ↦ subst (Contains (x ∷ xs)) (eqb-true x n e) (Contains-first x xs)
  | inr r ↦ Contains-later x n xs (from_test xs n r)
]

to_test : (xs : List ℕ) (n : ℕ) → Contains xs n → list_any (λ z. z == n) xs ≡ true
to_test [] n c = absurd (Contains-none n c)
to_test (x ∷ xs) n c = elim (Contains-cons_cases x n xs c) [
  | inl e ↦ rw (eq-eqb x n e) refl
  | inr k ↦ or_right (x == n) (list_any (λ z. z == n) xs) (to_test xs n k)
]

-- owl:Thing has all, owl:Nothing none, and any other expression what its row has
is_member : List (ℕ × List ℕ) → ℕ → ℕ → Bool
is_member rows zero m = true
is_member rows (suc zero) m = false
is_member rows (suc (suc e)) m = list_any (λ z. z == m) (elements_of rows (suc (suc e)))

member_listed : (rows : List (ℕ × List ℕ)) (e m : ℕ) → 2 ≤ e → (is_member rows e m ≡ true) ↔ Contains (elements_of rows e) m
unfolding is_member
member_listed rows zero m l = absurd (omega arith)
member_listed rows (suc zero) m l = absurd (omega arith)
member_listed rows (suc (suc e)) m l = (from_test (elements_of rows (suc (suc e))) m, to_test (elements_of rows (suc (suc e))) m)

module _ (o : Ontology) (asked : List ℕ) (w : IsOntology o) (consistent : IsConsistent o asked) (elements : List Context) (are : AreSatisfiableContexts o asked elements)
    (rows : List (ℕ × List ℕ)) (class_rows : AreClassRows o asked elements rows) (pairs : List (ℕ × ℕ × List ℕ)) (pair_rows : ArePairRows o asked elements pairs)
    (numbers : List ℕ) (individuals : AreIndividualElements o elements numbers) (claims : List (ℕ × ℕ)) (own : AreOwnClaims o elements claims) where
  class_test : (c : ℕ) → (c < length o.names.classes) ⊎ (length o.names.classes ≤ c) → ℕ → Bool
  class_test c (inl l) m = is_member rows (w.class_nodes c l).0 m
  class_test c (inr l) m = false

  i : Interpretation
  i = record {
    size = length elements;
    class = λ name m. class_test (number_of o.names.classes name) (cases_lt (number_of o.names.classes name) (length o.names.classes)) m;
    property = λ name m n. list_any (λ z. z == n) (targets_of pairs (number_of o.names.properties name) m);
    individual = λ name. get_or numbers (number_of o.names.individuals name) 0;
  }

  class_is : (c e m : ℕ) → IsClassAt o c e → (d : ℕ) (s : (d < length o.names.classes) ⊎ (length o.names.classes ≤ d)) → d ≡ c → class_test d s m ≡ is_member rows e m
  unfolding class_test
  class_is c e m node d (inl l) same =
      let its = w.class_nodes d l in
      let one : its.0 ≡ e = w.distinct_nodes its.0 e (Class c) (its.1 ∙ ap (λ n. Some (Class n)) same) node in
      ap (λ f. is_member rows f m) one
  class_is c e m node d (inr l) same = let k : c < length o.names.classes = w.nodes e (Class c) node in absurd (omega arith)

  class_of : (c e m : ℕ) → IsClassAt o c e → i.class (name_at o.names.classes c) m ≡ is_member rows e m
  unfolding i
  class_of c e m node =
      let name = name_at o.names.classes c in
      class_is c e m node (number_of o.names.classes name) (cases_lt (number_of o.names.classes name) (length o.names.classes)) (number_of-name_at o.names.classes w.distinct_classes c (w.nodes e (Class c) node))

  member_is : (c e m : ℕ) (x : Context) → IsClassAt o c e → slice_get elements m ≡ Some x → (is_member rows e m ≡ true) ↔ IsFact o asked (In (Whole e) x)
  unfolding is_member
  member_is c zero m x node at = (λ h. fact.in_thing (are.satisfiable m x at).context, λ f. refl)
  member_is c (suc zero) m x node at = (λ h. absurd (false≢true h), λ f. absurd ((are.satisfiable m x at).without_nothing f))
  member_is c (suc (suc e)) m x node at =
      let listed = class_rows.exact c (suc (suc e)) m x node (omega arith) at in
      (λ h. listed.0 (from_test (elements_of rows (suc (suc e))) m h), λ f. to_test (elements_of rows (suc (suc e))) m (listed.1 f))

  property_of : (r m n : ℕ) → r < length o.names.properties → (i.property (name_at o.names.properties r) m n ≡ true) ↔ Contains (targets_of pairs r m) n
  unfolding i
  property_of r m n l = rw (number_of-name_at o.names.properties w.distinct_properties r l) (from_test (targets_of pairs r m) n, to_test (targets_of pairs r m) n)

  individual_of : (a : ℕ) → a < length o.names.individuals → i.individual (name_at o.names.individuals a) ≡ get_or numbers a 0
  unfolding i
  individual_of a l = ap (λ n. get_or numbers n 0) (number_of-name_at o.names.individuals w.distinct_individuals a l)

  inhabited : 0 < length elements
  inhabited =
      let there = are.listed (Expression thing) (record { context = fact.root (IsRoot.named 0 thing w.thing_node); without_nothing = consistent.things }) tt in
      let l = slice_get_within elements there.0 (Expression thing) there.1 in
      omega arith

  number_within : (k m : ℕ) → slice_get numbers k ≡ Some m → m < length elements
  number_within k m h = slice_get_within elements m (Individual (least_same o k)) (individuals.each k m h)

  within : (k : ℕ) → get_or numbers k 0 < length elements
  within k = elim (cases_lt k (length numbers)) [
    | inl l ↦ number_within k (get_or numbers k 0) (slice_get-get_or numbers k 0 l)
    | inr l ↦ rw (get_or_past numbers k 0 l) inhabited
  ]

  size_is : i.size ≡ length elements
  unfolding i
  size_is = refl

  individual_within : (name : Iri) → i.individual name < i.size
  unfolding i
  individual_within name = within (number_of o.names.individuals name)

  interpretation : IsListedInterpretation o asked elements i
  interpretation = record {
    size = size_is;
    contexts = are;
    classes = λ c e m x node at. rw (class_of c e m node) (member_is c e m x node at);
    pairs = λ r m n x y l at_m at_n.
        let targets = property_of r m n l in
        let edges = pair_rows.exact r m n x y at_m at_n in
        (λ h. edges.0 (targets.0 h), λ h. targets.1 (edges.1 h));
    individuals = λ a b m l same at.
        let there : slice_get numbers a ≡ Some (get_or numbers a 0) = slice_get-get_or numbers a 0 (rw individuals.long l) in
        let least : b ≡ least_same o a = least_unique o asked (and_then (turned same) (same_as_least o asked a)) (are.leads m (Individual b) at) (is_least o asked a) in
        individual_of a l ∙ one_place elements are.ascend (get_or numbers a 0) m (Individual b) (individuals.each a (get_or numbers a 0) there ∙ ap (λ c. Some (Individual c)) (sym least)) at;
    within = individual_within;
  }

  abbrev listed : Listed
  listed = record { domain = length elements; classes = rows; pairs = pairs; individuals = numbers; claims = claims }

  listing : IsListing o listed i
  listing = record {
    size = size_is;
    classes = λ c e x node high l. rw (class_of c e x node) (member_listed rows e x high);
    pairs = λ r x y l lx ly. property_of r x y l;
    individuals = λ a x g.
        let l : a < length o.names.individuals = omega (arith, slice_get_within numbers a x g, individuals.long) in
        individual_of a l ∙ get_or_from_slice_get numbers a x 0 g;
  }

  pub listed_for : IsListedFor o asked listed
  listed_for = record {
    consistent = consistent;
    elements = elements;
    i = i;
    interpretation = interpretation;
    listing = listing;
    claims = record {
      each = λ e m h. (let p = own.each e m h in (p.0.0, p.0.1, p.1));
      all = own.all;
    };
  }

  claim_within : (k : ℕ) (d : ℕ × ℕ) → k < length claims → IsNamedClass o (get_or claims k d).0 × ((get_or claims k d).1 < length elements)
  claim_within k d l =
      let p = own.each (get_or claims k d).0 (get_or claims k d).1 (Contains-from_slice_get claims k (get_or claims k d) (slice_get-get_or claims k d l)) in
      (p.0, slice_get_within elements (get_or claims k d).1 (Expression (get_or claims k d).0) p.1)

  pub listed_of : IsListedOf o listed
  listed_of = record {
    domain = inhabited;
    classes = class_rows.within;
    classes_ascend = class_rows.ascend;
    pairs = pair_rows.within;
    pairs_ascend = pair_rows.ascend;
    individuals = λ k d l. number_within k (get_or numbers k d) (slice_get-get_or numbers k d l);
    individuals_each = individuals.long;
    claims = claim_within;
    claims_ascend = own.ascend;
  }

  -- ---- numbers have 32 bits

  abbrev IsSmall : ℕ → Type 0
  IsSmall n = n < 2 ^ 32

  named_small : IsBounded o → (e : ℕ) → IsNamedClass o e → IsSmall e
  named_small bounded e named = omega (arith, bounded.expressions, slice_get_within o.nodes e (Class named.0) named.1)

  keys_small : (a : ℕ) (xs : List ℕ) → a + length xs ≤ 2 ^ 32 → All IsSmall (map (λ p. p.0) (enumerate_from a xs))
  keys_small a [] l = All-nil IsSmall
  keys_small a (x ∷ xs) l = All-cons IsSmall a (map (λ p. p.0) (enumerate_from (a + 1) xs)) (omega arith) (keys_small (a + 1) xs (omega arith))

  pub numbers_small : IsBounded o → length elements < 2 ^ 32 → All IsSmall (listed_numbers (Some listed))
  numbers_small bounded few =
      let in_classes : All IsSmall (map (λ c. c.0) rows) = All-map IsSmall (λ (c : ℕ × List ℕ). c.0) rows (λ k d l. named_small bounded (get_or rows k d).0 (class_rows.within k d l).0) in
      let in_pairs : All IsSmall (map (λ p. p.0) pairs) = All-map IsSmall (λ (p : ℕ × ℕ × List ℕ). p.0) pairs (λ k d l. omega (arith, bounded.properties, (pair_rows.within k d l).0)) in
      let in_individuals = keys_small 0 numbers (omega (arith, individuals.long, bounded.individuals)) in
      let in_claims : All IsSmall (map (λ c. c.0) claims) = All-map IsSmall (λ (c : ℕ × ℕ). c.0) claims (λ k d l. named_small bounded (get_or claims k d).0 (claim_within k d l).0) in
      let first : List ℕ = length elements ∷ map (λ c. c.0) rows in
      let second : List ℕ = first ++ map (λ p. p.0) pairs in
      let third : List ℕ = second ++ map (λ a. a.0) (enumerate_from 0 numbers) in
      let of_first = All-cons IsSmall (length elements) (map (λ c. c.0) rows) few in_classes in
      let of_second = All-append IsSmall first (map (λ p. p.0) pairs) of_first in_pairs in
      let of_third = All-append IsSmall second (map (λ a. a.0) (enumerate_from 0 numbers)) of_second in_individuals in
      All-append IsSmall third (map (λ c. c.0) claims) of_third in_claims
