-- What rows and targets say of axioms, shape by shape.
use Rattle.std.proofs.Common.{◌≡◌, ℕ, zero, suc, ◌<◌, ◌↔◌, List, [], ◌∷◌, ◌++◌, length, map, replicate, get_or, slice_get, Some, Bool, true, false, All, AllPairs, eqb, true≢false, refl, sym, ap, ap₂, ◌∙◌, subst, subst₂, arith, inl, inr}
use Rattle.std.specs.List.{list_any}
use Rattle.std.proofs.lemmas.Bool.{eq-eqb, eqb-true, or_cases, or_left, or_right, cases_order, cases_lt}
use Rattle.std.proofs.lemmas.List.{length-map, get_or-map, get_or_past}
use Rattle.std.proofs.lemmas.List.Elements.{All-head, All-tail}
use Rattle.std.proofs.lemmas.List.Kept.{AllPairs-from_increasing}
use Rattle.std.proofs.lemmas.Option.{get_or_from_slice_get}
use Rattle.std.proofs.lemmas.Simd.{map-map}
use Rattle.lemmas.proofs.Pairs.{AllPairs-from_map, AllPairs-head, AllPairs-tail}
use Rattle.axioms.specs.Axiom as tree
use Rattle.axioms.specs.Expression.{ClassExpression}
use Rattle.axioms.specs.Ontology.{Ontology, property_name, individual_name}
use Rattle.axioms.specs.WellFormedness.{IsOntology}
use Rattle.interpretation_spec.specs.Interpretation.{Interpretation, IsIn, IsWithin, IsSubProperty, IsSameProperty, IsSameElement, IsOtherElement, HasPath, Satisfies}
use Rattle.interpretation_spec.specs.NumberedInterpretation.{HaveOneElement, HaveSameTargets, HaveTwoElements, NumberedInterpretation, IsNumberedInterpretation, targets_of}
use Rattle.interpretation_spec.specs.NamedInterpretation.{is_target, interpretation_of, IsExtension, HasNumberedPath, IsNumberedSubProperty}
use Rattle.number_sets.specs.Members.{has}
use Rattle.interpretation_spec.proofs.Names.{StandsFor, stands}
use Rattle.interpretation_spec.proofs.Elements.{target_within}

-- ---- rows

pub member_below : (row : List Bool) (k : ℕ) → has row k ≡ true → k < length row
member_below row k h =
    elim (cases_lt k (length row)) [
      | inl l ↦ l
      | inr l ↦ absurd (true≢false (sym h ∙ get_or_past row k false l))
    ]

pub rows_within : (i : Interpretation) (c d : ClassExpression) (r s : List Bool) → IsExtension i c r → IsExtension i d s → ((k : ℕ) → has r k ≡ true → has s k ≡ true) ↔ IsWithin i c d
rows_within i c d r s p q = (
  λ h x l m. (q.members x l).0 (h x ((p.members x l).1 m)),
  λ h k m.
      let l : k < i.size = subst (λ (n : ℕ). k < n) p.long (member_below r k m) in
      (q.members k l).1 (h k l ((p.members k l).0 m)),
)

-- ---- pairs of a list

pub pairs_of_places : {A B : Type 0} (R : B → B → Type 0) (h : A → B) (xs : List A) (d : A) → ((m k : ℕ) → m < k → k < length xs → R (h (get_or xs m d)) (h (get_or xs k d))) → AllPairs R (map h xs)
pairs_of_places R h xs d p m k e l lk =
    let inside : k < length xs = omega (arith, length-map xs h) in
    let first : m < length xs = omega arith in
    subst₂ R (sym (get_or-map h xs m d e first)) (sym (get_or-map h xs k d e inside)) (p m k l inside)

pub places_of_pairs : {A B : Type 0} (R : B → B → Type 0) (h : A → B) (xs : List A) (d : A) → AllPairs R (map h xs) → (m k : ℕ) → m < k → k < length xs → R (h (get_or xs m d)) (h (get_or xs k d))
places_of_pairs R h xs d p m k l lk =
    let first : m < length xs = omega arith in
    let inside : k < length (map h xs) = omega (arith, length-map xs h) in
    subst₂ R (get_or-map h xs m d (h d) first) (get_or-map h xs k d (h d) lk) (p m k (h d) l inside)

pub pairs_of_places_twice : {A B : Type 0} (R : B → B → Type 0) (f : ℕ → B) (g : A → ℕ) (xs : List A) (d : A) → ((m k : ℕ) → m < k → k < length xs → R (f (g (get_or xs m d))) (f (g (get_or xs k d)))) → AllPairs R (map f (map g xs))
pairs_of_places_twice {A} {B} R f g xs d p = subst (λ (ys : List B). AllPairs R ys) (sym (map-map f g xs)) (pairs_of_places R (λ (x : A). f (g x)) xs d p)

pub places_of_pairs_twice : {A B : Type 0} (R : B → B → Type 0) (f : ℕ → B) (g : A → ℕ) (xs : List A) (d : A) → AllPairs R (map f (map g xs)) → (m k : ℕ) → m < k → k < length xs → R (f (g (get_or xs m d))) (f (g (get_or xs k d)))
places_of_pairs_twice {A} {B} R f g xs d p = places_of_pairs R (λ (x : A). f (g x)) xs d (subst (λ (ys : List B). AllPairs R ys) (map-map f g xs) p)

-- what is said of each two numbers below a bound, and of what they are mapped to
pub pairs_said : {B : Type 0} {bound : ℕ} (S : ℕ → ℕ → Type 0) (T : B → B → Type 0) (f : ℕ → B) (xs : List ℕ) → All (λ x. x < bound) xs
    → ((x y : ℕ) → x < bound → y < bound → S x y ↔ T (f x) (f y)) → AllPairs S xs ↔ AllPairs T (map f xs)
pairs_said {B} {bound} S T f xs within said = (
  λ h. pairs_of_places T f xs 0 (λ m k l lk. (said (get_or xs m 0) (get_or xs k 0) (within m 0 (omega arith)) (within k 0 lk)).0 (h m k 0 l lk)),
  λ h m k d l lk. (said (get_or xs m d) (get_or xs k d) (within m d (omega arith)) (within k d lk)).1 (AllPairs-from_map T f xs h m k d l lk),
)

-- what is said of the first of a list and one of it, where it is said of each two
pub first_and : {A : Type 0} (R : A → A → Type 0) → ((x : A) → R x x) → (xs : List A) (first : A) (at : ℕ) (d : A) → slice_get xs 0 ≡ Some first → at < length xs
    → ((m k : ℕ) → m < k → k < length xs → R (get_or xs m d) (get_or xs k d)) → R first (get_or xs at d)
first_and {A} R itself xs first at d e l h =
    subst (λ (x : A). R x (get_or xs at d)) (get_or_from_slice_get xs 0 first d e) (elim (cases_lt 0 at) [
      | inl b ↦ h 0 at b l
      | inr b ↦ (let z : 0 ≡ at = omega arith in subst (λ (k : ℕ). R (get_or xs 0 d) (get_or xs k d)) z (itself (get_or xs 0 d)))
    ])

-- ---- targets

abbrev In : List ℕ → ℕ → Type 0
In ts y = list_any (λ z. eqb z y) ts ≡ true

in_all : (P : ℕ → Type 0) (ts : List ℕ) (y : ℕ) → All P ts → In ts y → P y
in_all P [] y all h = absurd (true≢false (sym h))
in_all P (x ∷ xs) y all h =
    elim (or_cases (eqb x y) (list_any (λ z. eqb z y) xs) h) [
      | inl e ↦ subst P (eqb-true x y e) (All-head P x xs all)
      | inr m ↦ in_all P xs y (All-tail P x xs all) m
    ]

in_head : (x : ℕ) (xs : List ℕ) → In (x ∷ xs) x
in_head x xs = or_left (eqb x x) (list_any (λ z. eqb z x) xs) (eq-eqb x x refl)

in_rest : (x y : ℕ) (xs : List ℕ) → x < y → In (x ∷ xs) y → In xs y
in_rest x y xs l h =
    elim (or_cases (eqb x y) (list_any (λ z. eqb z y) xs) h) [
      | inl e ↦ (let same = eqb-true x y e in absurd (omega arith))
      | inr m ↦ m
    ]

same_members : (xs ys : List ℕ) → AllPairs (λ a b. a < b) xs → AllPairs (λ a b. a < b) ys → ((z : ℕ) → In xs z ↔ In ys z) → xs ≡ ys
same_members [] [] p q h = refl
same_members [] (y ∷ ys) p q h = absurd (true≢false (sym ((h y).1 (in_head y ys))))
same_members (x ∷ xs) [] p q h = absurd (true≢false (sym ((h x).0 (in_head x xs))))
same_members (x ∷ xs) (y ∷ ys) p q h =
    elim (cases_order x y) [
      | inl e ↦
          let tails : (z : ℕ) → In xs z ↔ In ys z = λ z. (
            λ m. (let l : x < z = in_all (λ v. x < v) xs z (AllPairs-head (λ a b. a < b) x xs p) m in in_rest y z ys (omega arith) ((h z).0 (or_right (eqb x z) (list_any (λ v. eqb v z) xs) m))),
            λ m. (let l : y < z = in_all (λ v. y < v) ys z (AllPairs-head (λ a b. a < b) y ys q) m in in_rest x z xs (omega arith) ((h z).1 (or_right (eqb y z) (list_any (λ v. eqb v z) ys) m))),
          ) in
          ap₂ (λ a b. a ∷ b) e (same_members xs ys (AllPairs-tail (λ a b. a < b) x xs p) (AllPairs-tail (λ a b. a < b) y ys q) tails)
      | inr (inl l) ↦
          (let m : In (y ∷ ys) x = (h x).0 (in_head x xs) in
          elim (or_cases (eqb y x) (list_any (λ v. eqb v x) ys) m) [
            | inl e ↦ (let same = eqb-true y x e in absurd (omega arith))
            | inr k ↦ (let b : y < x = in_all (λ v. y < v) ys x (AllPairs-head (λ a b. a < b) y ys q) k in absurd (omega arith))
          ])
      | inr (inr l) ↦
          (let m : In (x ∷ xs) y = (h y).1 (in_head y ys) in
          elim (or_cases (eqb x y) (list_any (λ v. eqb v y) xs) m) [
            | inl e ↦ (let same = eqb-true x y e in absurd (omega arith))
            | inr k ↦ (let b : x < y = in_all (λ v. x < v) xs y (AllPairs-head (λ a b. a < b) x xs p) k in absurd (omega arith))
          ])
    ]

-- ---- what is said by number and by name

module _ (o : Ontology) (w : IsOntology o) (n : NumberedInterpretation) (whole : IsNumberedInterpretation n) where
  named : StandsFor o.names n (interpretation_of o.names n)
  named = stands o w n

  inside : (x : ℕ) → x < (interpretation_of o.names n).size → x < n.size
  inside x l = subst (λ (k : ℕ). x < k) named.size l

  outside : (x : ℕ) → x < n.size → x < (interpretation_of o.names n).size
  outside x l = subst (λ (k : ℕ). x < k) (sym named.size) l

  target_inside : (r x y : ℕ) → is_target n r x y ≡ true → y < n.size
  target_inside r x y t = target_within n.size (targets_of n r x) y (whole.targets r x).within t

  path_said : (rs : List ℕ) → All (λ r. r < length o.names.properties) rs → (x y : ℕ) → HasNumberedPath n rs x y ↔ HasPath (interpretation_of o.names n) (map (property_name o) rs) x y
  path_said [] h x y = (λ p. p, λ p. p)
  path_said (r ∷ rs) h x y =
      let P : ℕ → Type 0 = λ r. r < length o.names.properties in
      let lr = All-head P r rs h in
      let later = path_said rs (All-tail P r rs h) in (
        λ (z, lz, t, p). (z, outside z lz, named.properties r x z lr ∙ t, (later z y).0 p),
        λ (z, lz, t, p). (z, inside z lz, sym (named.properties r x z lr) ∙ t, (later z y).1 p),
      )

  pub sub_property_said : (rs : List ℕ) (s : ℕ) → All (λ r. r < length o.names.properties) rs → s < length o.names.properties
      → IsNumberedSubProperty n rs s ↔ IsSubProperty (interpretation_of o.names n) (map (property_name o) rs) (property_name o s)
  sub_property_said rs s hs ls = (
    λ h x lx y ly p. named.properties s x y ls ∙ h x (inside x lx) y (inside y ly) ((path_said rs hs x y).1 p),
    λ h x lx y ly p. sym (named.properties s x y ls) ∙ h x (outside x lx) y (outside y ly) ((path_said rs hs x y).0 p),
  )

  same_property_said : (r s : ℕ) → r < length o.names.properties → s < length o.names.properties
      → HaveSameTargets n r s ↔ IsSameProperty (interpretation_of o.names n) (property_name o r) (property_name o s)
  same_property_said r s lr ls = (
    λ h x lx y ly. named.properties r x y lr ∙ ap (λ (ts : List ℕ). list_any (λ z. eqb z y) ts) (h x (inside x lx)) ∙ sym (named.properties s x y ls),
    λ h x lx.
        same_members (targets_of n r x) (targets_of n s x)
        (AllPairs-from_increasing (targets_of n r x) (whole.targets r x).ascending)
        (AllPairs-from_increasing (targets_of n s x) (whole.targets s x).ascending)
        (λ y. (
          λ t. sym (named.properties s x y ls) ∙ sym (h x (outside x lx) y (outside y (target_inside r x y t))) ∙ (named.properties r x y lr ∙ t),
          λ t. sym (named.properties r x y lr) ∙ h x (outside x lx) y (outside y (target_inside s x y t)) ∙ (named.properties s x y ls ∙ t),
        )),
  )

  pub same_properties_said : (rs : List ℕ) → All (λ r. r < length o.names.properties) rs
      → AllPairs (HaveSameTargets n) rs ↔ AllPairs (IsSameProperty (interpretation_of o.names n)) (map (property_name o) rs)
  same_properties_said rs hs = pairs_said (HaveSameTargets n) (IsSameProperty (interpretation_of o.names n)) (property_name o) rs hs same_property_said

  pub domain_said : (r : ℕ) (c : ClassExpression) (row : List Bool) → r < length o.names.properties → IsExtension (interpretation_of o.names n) c row
      → ((x : ℕ) → x < n.size → (y : ℕ) → is_target n r x y ≡ true → has row x ≡ true) ↔ Satisfies (interpretation_of o.names n) (tree.PropertyDomain (property_name o r) c)
  domain_said r c row lr e = (
    λ h x lx y ly p. (e.members x lx).0 (h x (inside x lx) y (sym (named.properties r x y lr) ∙ p)),
    λ h x lx y t. (e.members x (outside x lx)).1 (h x (outside x lx) y (outside y (target_inside r x y t)) (named.properties r x y lr ∙ t)),
  )

  pub reflexive_said : (r : ℕ) → r < length o.names.properties → ((x : ℕ) → x < n.size → is_target n r x x ≡ true) ↔ Satisfies (interpretation_of o.names n) (tree.ReflexiveProperty (property_name o r))
  reflexive_said r lr = (
    λ h x lx. named.properties r x x lr ∙ h x (inside x lx),
    λ h x lx. sym (named.properties r x x lr) ∙ h x (outside x lx),
  )

  pub class_assertion_said : (c : ClassExpression) (a : ℕ) (row : List Bool) → a < length o.names.individuals → length n.individuals ≡ length o.names.individuals → IsExtension (interpretation_of o.names n) c row
      → (has row (get_or n.individuals a 0) ≡ true) ↔ Satisfies (interpretation_of o.names n) (tree.ClassAssertion c (individual_name o a))
  class_assertion_said c a row la many e =
      let i = interpretation_of o.names n in
      let l : get_or n.individuals a 0 < n.size = whole.individuals a 0 (omega arith) in
      let (f, b) = e.members (get_or n.individuals a 0) (outside (get_or n.individuals a 0) l) in (
        λ h. subst (λ (x : ℕ). IsIn i c x) (sym (named.individuals a la)) (f h),
        λ h. b (subst (λ (x : ℕ). IsIn i c x) (named.individuals a la) h),
      )

  pub property_assertion_said : (r a b : ℕ) → r < length o.names.properties → a < length o.names.individuals → b < length o.names.individuals
      → (is_target n r (get_or n.individuals a 0) (get_or n.individuals b 0) ≡ true) ↔ Satisfies (interpretation_of o.names n) (tree.PropertyAssertion (property_name o r) (individual_name o a) (individual_name o b))
  property_assertion_said r a b lr la lb =
      let i = interpretation_of o.names n in
      let same = ap₂ (i.property (property_name o r)) (named.individuals a la) (named.individuals b lb) ∙ named.properties r (get_or n.individuals a 0) (get_or n.individuals b 0) lr in
      (λ h. same ∙ h, λ h. sym same ∙ h)

  one_element_said : (a b : ℕ) → a < length o.names.individuals → b < length o.names.individuals
      → HaveOneElement n a b ↔ IsSameElement (interpretation_of o.names n) (individual_name o a) (individual_name o b)
  one_element_said a b la lb = (
    λ e. named.individuals a la ∙ e ∙ sym (named.individuals b lb),
    λ e. sym (named.individuals a la) ∙ e ∙ named.individuals b lb,
  )

  two_elements_said : (a b : ℕ) → a < length o.names.individuals → b < length o.names.individuals
      → HaveTwoElements n a b ↔ IsOtherElement (interpretation_of o.names n) (individual_name o a) (individual_name o b)
  two_elements_said a b la lb =
      let said = one_element_said a b la lb in
      (λ h e. h (said.1 e), λ h e. h (said.0 e))

  pub same_individuals_said : (xs : List ℕ) → All (λ a. a < length o.names.individuals) xs
      → AllPairs (HaveOneElement n) xs ↔ AllPairs (IsSameElement (interpretation_of o.names n)) (map (individual_name o) xs)
  same_individuals_said xs within = pairs_said (HaveOneElement n) (IsSameElement (interpretation_of o.names n)) (individual_name o) xs within one_element_said

  pub different_individuals_said : (xs : List ℕ) → All (λ a. a < length o.names.individuals) xs
      → AllPairs (HaveTwoElements n) xs ↔ AllPairs (IsOtherElement (interpretation_of o.names n)) (map (individual_name o) xs)
  different_individuals_said xs within = pairs_said (HaveTwoElements n) (IsOtherElement (interpretation_of o.names n)) (individual_name o) xs within two_elements_said

-- ---- paths

pub path_more : (n : NumberedInterpretation) (rs : List ℕ) (r x y : ℕ) → x < n.size → y < n.size
    → HasNumberedPath n (rs ++ r ∷ []) x y ↔ ((z : ℕ) × (z < n.size) × HasNumberedPath n rs x z × (is_target n r z y ≡ true))
path_more n [] r x y lx ly = (
  λ (z, lz, t, e). (x, lx, refl, subst (λ (v : ℕ). is_target n r x v ≡ true) e t),
  λ (z, lz, e, t). (y, ly, subst (λ (v : ℕ). is_target n r v y ≡ true) (sym e) t, refl),
)
path_more n (q ∷ rs) r x y lx ly = (
  λ (z, lz, t, p). (let (v, lv, p', t') = (path_more n rs r z y lz ly).0 p in (v, lv, (z, lz, t, p'), t')),
  λ (v, lv, p, t'). (let (z, lz, t, p') = p in (z, lz, t, (path_more n rs r z y lz ly).1 (v, lv, p', t'))),
)

pub empty_row : (size k : ℕ) → has (replicate size false) k ≡ false
empty_row zero k = refl
empty_row (suc size) zero = refl
empty_row (suc size) (suc k) = empty_row size k
