-- The parts of an axiom say together what it says.
use Rattle.std.proofs.Common.{◌≡◌, ◌↔◌, ℕ, zero, suc, ◌<◌, List, [], ◌∷◌, Bool, true, false, All, AllPairs, get_or, length, map, refl, sym, ◌∙◌, subst, subst₂, arith}
use Rattle.std.specs.List.{flat_map, range_with_len}
use Rattle.std.proofs.lemmas.List.{get_or-map, length-map}
use Rattle.std.proofs.lemmas.List.Elements.{All-append, All-cons, All-head, All-nil, All-tail}
use Rattle.std.proofs.lemmas.List.FromFn.{get_or-range_with_len, length-range_with_len}
use Rattle.axioms.specs.Expression.{Iri}
use Rattle.axioms.specs.Ontology.{Ontology, Axiom, EquivalentClasses, DisjointClasses, EquivalentProperties, SameIndividuals, DifferentIndividuals, SubClass, SubProperty, Domain, Transitive, Reflexive, ClassAssertion, PropertyAssertion, NegativePropertyAssertion, axiom_trees, expression, individual_name, property_name}
use Rattle.entailment.proofs.Moving.{all_back, all_front}
use Rattle.entailment.specs.Claims.{IsEntailed, claimed}
use Rattle.entailment.specs.Parts.{parts_of}
use Rattle.entailment.specs.Testers.{IsFollowing}
use Rattle.entailment.specs.declared.claim.Claim.{Claim}
use Rattle.entailment.specs.declared.claim.Claim.TheVariants.{Apart, One, Two}
use Rattle.interpretation_spec.specs.Interpretation.{HasPair, Interpretation, IsApart, IsModel, IsOtherElement, IsSame, IsSameElement, IsSameProperty, IsSubProperty}
use Rattle.lemmas.proofs.Pairs.{AllPairs-from_map}

-- ---- lists

-- what holds of all that each of a list gives
flat_all : {X Y : Type 0} (P : Y → Type 0) (f : X → List Y) (xs : List X) → All P (flat_map f xs) ↔ All (λ x. All P (f x)) xs
flat_all P f [] = (λ h. All-nil (λ x. All P (f x)), λ h. All-nil P)
flat_all P f (x ∷ xs) = (
  λ h. All-cons (λ x. All P (f x)) x xs (all_front P (f x) (flat_map f xs) h) ((flat_all P f xs).0 (all_back P (f x) (flat_map f xs) h)),
  λ h. All-append P (f x) (flat_map f xs) (All-head (λ x. All P (f x)) x xs h) ((flat_all P f xs).1 (All-tail (λ x. All P (f x)) x xs h)),
)

-- and each number below one
ranged_all : {Y : Type 0} (P : Y → Type 0) (f : ℕ → List Y) (n : ℕ) → All P (flat_map f (range_with_len 0 n)) ↔ ((k : ℕ) → k < n → All P (f k))
ranged_all P f n =
    let Q : ℕ → Type 0 = λ k. All P (f k) in
    let many = length-range_with_len 0 n in (
      λ h k low. subst Q (get_or-range_with_len 0 n k 0 low ∙ omega arith) ((flat_all P f (range_with_len 0 n)).0 h k 0 (omega (arith, low, many))),
      λ h. (flat_all P f (range_with_len 0 n)).1 (λ k d low. subst Q (sym (get_or-range_with_len 0 n k d (omega (arith, low, many)) ∙ omega arith)) (h k (omega (arith, low, many)))),
    )

pub one_all : {Y : Type 0} (P : Y → Type 0) (x : Y) → All P (x ∷ []) ↔ P x
one_all P x = (λ h. All-head P x [] h, λ h. All-cons P x [] h (All-nil P))

two_all : {Y : Type 0} (P : Y → Type 0) (x y : Y) → All P (x ∷ y ∷ []) ↔ (P x × P y)
two_all P x y = (λ h. (All-head P x (y ∷ []) h, All-head P y [] (All-tail P x (y ∷ []) h)), λ h. All-cons P x (y ∷ []) h.0 (All-cons P y [] h.1 (All-nil P)))

-- of two members there is one pair
one_pair : {B : Type 0} (R : B → B → Type 0) (x y : B) → AllPairs R (x ∷ y ∷ []) ↔ R x y
one_pair R x y = (λ h. h 0 1 x (omega arith) (omega arith), λ h m n d l k. pair m n d l k h)
  where
    pair : (m n : ℕ) (d : _) → m < n → n < 2 → R x y → R (get_or (x ∷ y ∷ []) m d) (get_or (x ∷ y ∷ []) n d)
    pair zero zero d l k h = absurd (omega arith)
    pair zero (suc zero) d l k h = h
    pair zero (suc (suc n)) d l k h = absurd (omega arith)
    pair (suc m) zero d l k h = absurd (omega arith)
    pair (suc m) (suc zero) d l k h = absurd (omega arith)
    pair (suc m) (suc (suc n)) d l k h = absurd (omega arith)

-- ---- properties

same_bools : (a b : Bool) → (a ≡ true → b ≡ true) → (b ≡ true → a ≡ true) → a ≡ b
same_bools true true h k = refl
same_bools true false h k = sym (h refl)
same_bools false true h k = k refl
same_bools false false h k = refl

-- each lies below the other exactly where they have the same pairs
both_below : (i : Interpretation) (r s : Iri) → (IsSubProperty i (r ∷ []) s × IsSubProperty i (s ∷ []) r) ↔ IsSameProperty i r s
both_below i r s = (
  λ h x lx y ly. same_bools (i.property r x y) (i.property s x y) (λ pair. h.0 x lx y ly (y, ly, pair, refl)) (λ pair. h.1 x lx y ly (y, ly, pair, refl)),
  λ same. (
    λ x lx y ly path. sym (same x lx y ly) ∙ subst (λ z. HasPair i r x z) path.3 path.2,
    λ x lx y ly path. same x lx y ly ∙ subst (λ z. HasPair i s x z) path.3 path.2,
  ),
)

-- ---- a list by two of its members

module _ {B : Type 0} (R : B → B → Type 0) (g : ℕ → B) (xs : List ℕ) where
  abbrev EachPair : Type 0
  EachPair = (n : ℕ) → n < length xs → (m : ℕ) → m < n → R (g (get_or xs m 0)) (g (get_or xs n 0))

  all_pairs : EachPair → AllPairs R (map g xs)
  all_pairs h m n d l k =
      let low : n < length xs = omega (arith, length-map xs g) in
      subst₂ R (sym (get_or-map g xs m 0 d (omega arith))) (sym (get_or-map g xs n 0 d low)) (h n low m l)

  each_pair : AllPairs R (map g xs) → EachPair
  each_pair h n low m l = AllPairs-from_map R g xs h m n 0 l low

module _ (o : Ontology) where
  -- what holds in every finite interpretation of the axioms
  abbrev Everywhere : (Interpretation → Type 0) → Type 0
  Everywhere P = (i : Interpretation) → IsModel i (axiom_trees o) → P i

  module _ {B : Type 0} (R : Interpretation → B → B → Type 0) (g : ℕ → B) (parts : ℕ → ℕ → List Axiom) (pair : (c d : ℕ) → All (IsFollowing o) (parts c d) ↔ Everywhere (λ i. R i (g c) (g d))) where
    list_said : (xs : List ℕ) → All (IsFollowing o) (flat_map (λ n. flat_map (λ m. parts (get_or xs m 0) (get_or xs n 0)) (range_with_len 0 n)) (range_with_len 0 (length xs))) ↔ Everywhere (λ i. AllPairs (R i) (map g xs))
    list_said xs =
        let at : ℕ → ℕ → List Axiom = λ n m. parts (get_or xs m 0) (get_or xs n 0) in
        let line : ℕ → List Axiom = λ n. flat_map (at n) (range_with_len 0 n) in
        let outer = ranged_all (IsFollowing o) line (length xs) in (
          λ h i k. all_pairs (R i) g xs (λ n low m l. (pair (get_or xs m 0) (get_or xs n 0)).0 ((ranged_all (IsFollowing o) (at n) n).0 (outer.0 h n low) m l) i k),
          λ h. outer.1 (λ n low. (ranged_all (IsFollowing o) (at n) n).1 (λ m l. (pair (get_or xs m 0) (get_or xs n 0)).1 (λ i k. each_pair (R i) g xs (h i k) n low m l))),
        )

  -- ---- two members

  classes_said : (c d : ℕ) → All (IsFollowing o) (SubClass c d ∷ SubClass d c ∷ []) ↔ Everywhere (λ i. IsSame i (expression o c) (expression o d))
  classes_said c d =
      let two = two_all (IsFollowing o) (SubClass c d) (SubClass d c) in
      (λ h i k. ((two.0 h).0 i k, (two.0 h).1 i k), λ h. two.1 (λ i k. (h i k).0, λ i k. (h i k).1))

  properties_said : (r s : ℕ) → All (IsFollowing o) (SubProperty (r ∷ []) s ∷ SubProperty (s ∷ []) r ∷ []) ↔ Everywhere (λ i. IsSameProperty i (property_name o r) (property_name o s))
  properties_said r s =
      let two = two_all (IsFollowing o) (SubProperty (r ∷ []) s) (SubProperty (s ∷ []) r) in
      let both = λ (i : Interpretation). both_below i (property_name o r) (property_name o s) in
      (λ h i k. (both i).0 ((two.0 h).0 i k, (two.0 h).1 i k), λ h. two.1 (λ i k. ((both i).1 (h i k)).0, λ i k. ((both i).1 (h i k)).1))

  apart_said : (c d : ℕ) → IsFollowing o (DisjointClasses (c ∷ d ∷ [])) ↔ Everywhere (λ i. IsApart i (expression o c) (expression o d))
  apart_said c d = (λ h i k. (one_pair (IsApart i) (expression o c) (expression o d)).0 (h i k), λ h i k. (one_pair (IsApart i) (expression o c) (expression o d)).1 (h i k))

  same_said : (a b : ℕ) → IsFollowing o (SameIndividuals (a ∷ b ∷ [])) ↔ Everywhere (λ i. IsSameElement i (individual_name o a) (individual_name o b))
  same_said a b = (λ h i k. (one_pair (IsSameElement i) (individual_name o a) (individual_name o b)).0 (h i k), λ h i k. (one_pair (IsSameElement i) (individual_name o a) (individual_name o b)).1 (h i k))

  other_said : (a b : ℕ) → IsFollowing o (DifferentIndividuals (a ∷ b ∷ [])) ↔ Everywhere (λ i. IsOtherElement i (individual_name o a) (individual_name o b))
  other_said a b = (λ h i k. (one_pair (IsOtherElement i) (individual_name o a) (individual_name o b)).0 (h i k), λ h i k. (one_pair (IsOtherElement i) (individual_name o a) (individual_name o b)).1 (h i k))

  -- the one of a list
  alone : (P : Type 0) (a : Axiom) → IsFollowing o a ↔ P → All (IsFollowing o) (a ∷ []) ↔ P
  alone P a same = (λ h. same.0 ((one_all (IsFollowing o) a).0 h), λ p. (one_all (IsFollowing o) a).1 (same.1 p))

  -- ---- an axiom by its parts

  pub said : (a : Axiom) → All (IsFollowing o) (parts_of a) ↔ IsFollowing o a
  said (SubClass c d) = one_all (IsFollowing o) (SubClass c d)
  said (EquivalentClasses cs) = list_said IsSame (expression o) (λ c d. SubClass c d ∷ SubClass d c ∷ []) classes_said cs
  said (DisjointClasses cs) = list_said IsApart (expression o) (λ c d. DisjointClasses (c ∷ d ∷ []) ∷ []) (λ c d. alone _ _ (apart_said c d)) cs
  said (SubProperty chain s) = one_all (IsFollowing o) (SubProperty chain s)
  said (EquivalentProperties rs) = list_said IsSameProperty (property_name o) (λ r s. SubProperty (r ∷ []) s ∷ SubProperty (s ∷ []) r ∷ []) properties_said rs
  said (Domain r c) = one_all (IsFollowing o) (Domain r c)
  said (Transitive r) = alone _ (SubProperty (r ∷ r ∷ []) r) (λ h. h, λ h. h)
  said (Reflexive r) = one_all (IsFollowing o) (Reflexive r)
  said (ClassAssertion c a) = one_all (IsFollowing o) (ClassAssertion c a)
  said (PropertyAssertion r a b) = one_all (IsFollowing o) (PropertyAssertion r a b)
  said (SameIndividuals xs) = list_said IsSameElement (individual_name o) (λ a b. SameIndividuals (a ∷ b ∷ []) ∷ []) (λ a b. alone _ _ (same_said a b)) xs
  said (DifferentIndividuals xs) = list_said IsOtherElement (individual_name o) (λ a b. DifferentIndividuals (a ∷ b ∷ []) ∷ []) (λ a b. alone _ _ (other_said a b)) xs
  said (NegativePropertyAssertion r a b) = one_all (IsFollowing o) (NegativePropertyAssertion r a b)

  -- and axioms
  pub all_said : (axioms : List Axiom) → All (IsFollowing o) (flat_map parts_of axioms) ↔ All (IsFollowing o) axioms
  all_said axioms =
      let each = flat_all (IsFollowing o) parts_of axioms in (
        λ h n d l. (said (get_or axioms n d)).0 (each.0 h n d l),
        λ h. each.1 (λ n d l. (said (get_or axioms n d)).1 (h n d l)),
      )

  -- ---- a claim by its axiom

  pub claim_said : (claim : Claim) → IsEntailed o claim ↔ IsFollowing o (claimed claim)
  claim_said (Apart c d) = ((apart_said c.0 d.0).1, (apart_said c.0 d.0).0)
  claim_said (One a b) = ((same_said a.0 b.0).1, (same_said a.0 b.0).0)
  claim_said (Two a b) = ((other_said a.0 b.0).1, (other_said a.0 b.0).0)
  claim_said _ = (λ h. h, λ h. h)
