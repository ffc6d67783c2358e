-- What the tests of the rows of a listed interpretation say.
use Rattle.std.proofs.Common.{◌≡◌, ℕ, ◌+◌, ◌^◌, ◌<◌, ◌≤◌, true, eqb, ltb, leb, ◌&&◌, List, [], ◌∷◌, length, map, Option, Some, None, refl, ap, ◌∙◌, inl, inr, arith, lit<}
use Rattle.std.specs.Prelude.{slice_get}
use Rattle.std.specs.List.{AllPairs, AllByRecursion, enumerate_from}
use Rattle.std.proofs.lemmas.Bool.{ltb-true, lt-ltb, leb-true, le-leb, eqb-true, eq-eqb, and_parts, and_from, or_right, or_cases}
use Rattle.std.proofs.lemmas.List.Elements.{All-from_recursion}
use Rattle.std.proofs.lemmas.List.Kept.{AllPairs-cons}
use Rattle.lemmas.proofs.Pairs.{AllPairs-tail}
use Rattle.axioms.specs.Ontology.{Ontology, Node, Class, And, Exists}
use Rattle.certificate.specs.Writability.{IsNamedClass, AreElements, IsPairBefore}
use Rattle.certificate.specs.Tests.{is_small, is_after, are_elements, is_class, is_named, fits_property, fits_class, is_pair_after, fits_pairs, fits_claim, key, pair_key}
use Rattle.certificate.proofs.Ordered.{FirstIs, elements_mean, elements_test}
use Rattle.certificate.proofs.LineMeaning.{below_means, below_tests}
use Rattle.certificate.proofs.Many.{Chain}
use Rattle.certificate.proofs.Derivations.{IsSmall}
use Rattle.certificate.proofs.RowLaws.{FitsClassAfter, FitsPairsAfter, FitsClaimAfter, IsElementOf}

-- ---- named classes

class_found : (node : Option Node) → is_class node ≡ true → (c : ℕ) × (node ≡ Some (Class c))
class_found None t = cc
class_found (Some (Class c)) t = (c, refl)
class_found (Some (And ds)) t = cc
class_found (Some (Exists r c)) t = cc

pub named_means : (o : Ontology) (e : ℕ) → is_named o e ≡ true → IsNamedClass o e × IsSmall e
named_means o e t =
    let p = and_parts (is_class (slice_get o.nodes e)) (is_small e) t in
    (class_found (slice_get o.nodes e) p.0, ltb-true e (2 ^ 32) p.1)

named_tests : (o : Ontology) (e : ℕ) → IsNamedClass o e → IsSmall e → is_named o e ≡ true
named_tests o e h small = and_from (is_class (slice_get o.nodes e)) (is_small e) (ap is_class h.1) (lt-ltb e (2 ^ 32) small)

-- ---- classes

abbrev pub IsClassOf : Ontology → ℕ → ℕ × List ℕ → Type 0
IsClassOf o d c = IsNamedClass o c.0 × (2 ≤ c.0) × AreElements d c.1

pub class_parts : (o : Ontology) (d : ℕ) (last : Option ℕ) (c : ℕ × List ℕ) → fits_class o d last c ≡ true → (is_named o c.0 ≡ true) × (leb 2 c.0 ≡ true) × (is_after last c.0 ≡ true) × (are_elements d c.1 ≡ true)
class_parts o d last c t =
    let p = and_parts (is_named o c.0 && leb 2 c.0 && is_after last c.0) (are_elements d c.1) t in
    let q = and_parts (is_named o c.0 && leb 2 c.0) (is_after last c.0) p.0 in
    let r = and_parts (is_named o c.0) (leb 2 c.0) q.0 in
    (r.0, r.1, q.1, p.1)

pub class_means : (o : Ontology) (d : ℕ) (last : Option (ℕ × List ℕ)) (c : ℕ × List ℕ) → fits_class o d (key last) c ≡ true → IsClassOf o d c × IsSmall c.0
class_means o d last c t =
    let p = class_parts o d (key last) c t in
    let n = named_means o c.0 p.0 in
    ((n.0, leb-true 2 c.0 p.1, elements_mean d c.1 p.3), n.1)

pub class_tests : (o : Ontology) (d : ℕ) (last : Option (ℕ × List ℕ)) (c : ℕ × List ℕ) → d ≤ 2 ^ 32 → IsClassOf o d c × IsSmall c.0 → is_after (key last) c.0 ≡ true → FitsClassAfter o d last c
class_tests o d last c small i after =
    let e = elements_test d c.1 small i.0.2 in (
      (i.1, e.0),
      and_from (is_named o c.0 && leb 2 c.0 && is_after (key last) c.0) (are_elements d c.1)
          (and_from (is_named o c.0 && leb 2 c.0) (is_after (key last) c.0) (and_from (is_named o c.0) (leb 2 c.0) (named_tests o c.0 i.0.0 i.1) (le-leb 2 c.0 i.0.1)) after) e.1,
    )

-- ---- claims

abbrev pub IsClaimOf : Ontology → ℕ → ℕ × ℕ → Type 0
IsClaimOf o d c = IsNamedClass o c.0 × (c.1 < d)

pub claim_parts : (o : Ontology) (d : ℕ) (last : Option ℕ) (c : ℕ × ℕ) → fits_claim o d last c ≡ true → (is_named o c.0 ≡ true) × (ltb c.1 d ≡ true) × (is_after last c.0 ≡ true)
claim_parts o d last c t =
    let p = and_parts (is_named o c.0 && ltb c.1 d) (is_after last c.0) t in
    let q = and_parts (is_named o c.0) (ltb c.1 d) p.0 in
    (q.0, q.1, p.1)

pub claim_means : (o : Ontology) (d : ℕ) (last : Option (ℕ × ℕ)) (c : ℕ × ℕ) → fits_claim o d (key last) c ≡ true → IsClaimOf o d c × IsSmall c.0
claim_means o d last c t =
    let p = claim_parts o d (key last) c t in
    let n = named_means o c.0 p.0 in
    ((n.0, ltb-true c.1 d p.1), n.1)

pub claim_tests : (o : Ontology) (d : ℕ) (last : Option (ℕ × ℕ)) (c : ℕ × ℕ) → d ≤ 2 ^ 32 → IsClaimOf o d c × IsSmall c.0 → is_after (key last) c.0 ≡ true → FitsClaimAfter o d last c
claim_tests o d last c small i after = (
  (i.1, omega (arith, i.0.1)),
  and_from (is_named o c.0 && ltb c.1 d) (is_after (key last) c.0) (and_from (is_named o c.0) (ltb c.1 d) (named_tests o c.0 i.0.0 i.1) (lt-ltb c.1 d i.0.1)) after,
)

-- ---- pairs

abbrev pub PairRow : Type 0
PairRow = ℕ × ℕ × List ℕ

abbrev pub IsPairOf : Ontology → ℕ → PairRow → Type 0
IsPairOf o d p = (p.0 < length o.names.properties) × (p.1 < d) × AreElements d p.2

pub pair_parts : (o : Ontology) (d : ℕ) (last : Option (ℕ × ℕ)) (p : PairRow) → fits_pairs o d last p ≡ true → (fits_property o p.0 ≡ true) × (ltb p.1 d ≡ true) × (is_pair_after last p.0 p.1 ≡ true) × (are_elements d p.2 ≡ true)
pair_parts o d last p t =
    let a = and_parts (fits_property o p.0 && ltb p.1 d && is_pair_after last p.0 p.1) (are_elements d p.2) t in
    let b = and_parts (fits_property o p.0 && ltb p.1 d) (is_pair_after last p.0 p.1) a.0 in
    let c = and_parts (fits_property o p.0) (ltb p.1 d) b.0 in
    (c.0, c.1, b.1, a.1)

pub pair_means : (o : Ontology) (d : ℕ) (last : Option PairRow) (p : PairRow) → fits_pairs o d (pair_key last) p ≡ true → IsPairOf o d p × IsSmall p.0
pair_means o d last p t =
    let a = pair_parts o d (pair_key last) p t in
    let r = below_means p.0 (length o.names.properties) a.0 in
    ((r.0, ltb-true p.1 d a.1, elements_mean d p.2 a.3), r.1)

pair_tests : (o : Ontology) (d : ℕ) (last : Option PairRow) (p : PairRow) → d ≤ 2 ^ 32 → IsPairOf o d p × IsSmall p.0 → is_pair_after (pair_key last) p.0 p.1 ≡ true → FitsPairsAfter o d last p
pair_tests o d last p small i after =
    let e = elements_test d p.2 small i.0.2 in (
      (i.1, omega (arith, i.0.1), e.0),
      and_from (fits_property o p.0 && ltb p.1 d && is_pair_after (pair_key last) p.0 p.1) (are_elements d p.2)
          (and_from (fits_property o p.0 && ltb p.1 d) (is_pair_after (pair_key last) p.0 p.1)
          (and_from (fits_property o p.0) (ltb p.1 d) (below_tests p.0 (length o.names.properties) i.0.0 i.1) (lt-ltb p.1 d i.0.1)) after) e.1,
    )

pub before_means : (p q : PairRow) → is_pair_after (Some (p.0, p.1)) q.0 q.1 ≡ true → IsPairBefore p q
before_means p q t =
    elim (or_cases (ltb p.0 q.0) (eqb p.0 q.0 && ltb p.1 q.1) t) [
      | inl a ↦ inl (ltb-true p.0 q.0 a)
      | inr b ↦ let c = and_parts (eqb p.0 q.0) (ltb p.1 q.1) b in inr (eqb-true p.0 q.0 c.0, ltb-true p.1 q.1 c.1)
    ]

before_tests : (p q : PairRow) → IsPairBefore p q → is_pair_after (Some (p.0, p.1)) q.0 q.1 ≡ true
before_tests p q (inl a) = rw (lt-ltb p.0 q.0 a) refl
before_tests p q (inr b) = or_right (ltb p.0 q.0) (eqb p.0 q.0 && ltb p.1 q.1) (and_from (eqb p.0 q.0) (ltb p.1 q.1) (eq-eqb p.0 q.0 b.0) (lt-ltb p.1 q.1 b.1))

before_trans : (p q r : PairRow) → IsPairBefore p q → IsPairBefore q r → IsPairBefore p r
before_trans p q r (inl a) (inl b) = inl (omega (arith, a, b))
before_trans p q r (inl a) (inr b) = inl (omega (arith, a, b.0))
before_trans p q r (inr a) (inl b) = inl (omega (arith, a.0, b))
before_trans p q r (inr a) (inr b) = inr (a.0 ∙ b.0, omega (arith, a.1, b.1))

all_later : (p q : PairRow) (qs : List PairRow) → IsPairBefore p q → AllByRecursion (IsPairBefore q) qs → AllByRecursion (IsPairBefore p) qs
all_later p q [] b a = tt
all_later p q (r ∷ rs) b a = (before_trans p q r b a.0, all_later p q rs b a.1)

later : (p : PairRow) (qs : List PairRow) (V : Option PairRow → PairRow → Type 0) → ((x y : PairRow) → V (Some x) y → IsPairBefore x y) → Chain V (Some p) qs → AllByRecursion (IsPairBefore p) qs
later p [] V to c = tt
later p (q ∷ qs) V to c = (to p q c.0, all_later p q qs (to p q c.0) (later q qs V to c.1))

pub pairs_ordered : (V : Option PairRow → PairRow → Type 0) → ((x y : PairRow) → V (Some x) y → IsPairBefore x y) → (last : Option PairRow) (qs : List PairRow) → Chain V last qs → AllPairs IsPairBefore qs
pairs_ordered V to last [] c = λ i j d lt le. absurd (omega arith)
pairs_ordered V to last (q ∷ qs) c = AllPairs-cons IsPairBefore q qs (All-from_recursion (IsPairBefore q) qs (later q qs V to c.1)) (pairs_ordered V to (Some q) qs c.1)

pub pairs_made : (o : Ontology) (d : ℕ) (last : Option PairRow) (qs : List PairRow) → d ≤ 2 ^ 32 → AllByRecursion (λ p. IsPairOf o d p × IsSmall p.0) qs → AllPairs IsPairBefore qs → FirstIs (λ q. is_pair_after (pair_key last) q.0 q.1 ≡ true) qs → Chain (FitsPairsAfter o d) last qs
pairs_made o d last [] small a b first = tt
pairs_made o d last (q ∷ []) small a b first = (pair_tests o d last q small a.0 first, tt)
pairs_made o d last (q ∷ r ∷ rs) small a b first =
    let next : IsPairBefore q r = b 0 1 q (lit< tt) (omega arith) in
    (pair_tests o d last q small a.0 first, pairs_made o d (Some q) (r ∷ rs) small a.1 (AllPairs-tail IsPairBefore q (r ∷ rs) b) (before_tests q r next))

pub first_pair : (qs : List PairRow) → FirstIs (λ q. is_pair_after None q.0 q.1 ≡ true) qs
first_pair [] = tt
first_pair (q ∷ qs) = refl

-- ---- individuals

pub elements_numbered : (d k : ℕ) (xs : List ℕ) → k + length xs ≤ 2 ^ 32 → AllByRecursion (λ x. x < d) xs → AllByRecursion (IsElementOf d) (enumerate_from k xs)
elements_numbered d k [] few h = tt
elements_numbered d k (x ∷ xs) few h = ((omega arith, h.0), elements_numbered d (k + 1) xs (omega arith) h.1)

pub elements_within : (d k : ℕ) (xs : List ℕ) → AllByRecursion (IsElementOf d) (enumerate_from k xs) → AllByRecursion (λ x. x < d) xs
elements_within d k [] h = tt
elements_within d k (x ∷ xs) h = (h.0.1, elements_within d (k + 1) xs h.1)

pub elements_few : (d k : ℕ) (xs : List ℕ) → k ≤ 2 ^ 32 → AllByRecursion (IsElementOf d) (enumerate_from k xs) → k + length xs ≤ 2 ^ 32
elements_few d k [] le h = omega arith
elements_few d k (x ∷ xs) le h = let few : (k + 1) + length xs ≤ 2 ^ 32 = elements_few d (k + 1) xs (omega (arith, h.0.0)) h.1 in omega arith

pub elements_from : (d k : ℕ) (xs : List ℕ) → AllByRecursion IsSmall (map (λ a. a.0) (enumerate_from k xs)) → AllByRecursion (λ x. x < d) xs → AllByRecursion (IsElementOf d) (enumerate_from k xs)
elements_from d k [] small h = tt
elements_from d k (x ∷ xs) small h = ((small.0, h.0), elements_from d (k + 1) xs small.1 h.1)
