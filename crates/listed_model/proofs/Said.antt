-- What lists and rows say of axioms, shape by shape.
use Rattle.std.proofs.Common.{◌≡◌, ◌↔◌, ◌⊎◌, inl, inr, ℕ, ◌<◌, List, [], ◌∷◌, true, length, map, get_or, All, AllPairs, refl, sym, ap₂, ◌∙◌, subst, subst₂, arith, true≢false}
use Rattle.std.specs.Cmp.{both_ways}
use Rattle.std.proofs.lemmas.Bool.{cases_order}
use Rattle.std.proofs.lemmas.List.Elements.{All-head, All-tail, All-contains}
use Rattle.std.proofs.lemmas.Option.{slice_get_within, get_or_from_slice_get}
use Rattle.lemmas.proofs.Members.{Contains-first, Contains-later, Contains-cons_cases}
use Rattle.lemmas.proofs.Pairs.{AllPairs-head, AllPairs-tail, AllPairs-map, AllPairs-from_map}
use Rattle.axioms.specs.Axiom as tree
use Rattle.axioms.specs.Ontology.{Ontology, expression, expressions, property_name, individual_name}
use Rattle.axioms.specs.WellFormedness.{IsOntology}
use Rattle.certificate.specs.Certificate.{Listed}
use Rattle.certificate.specs.Writability.{IsListedOf}
use Rattle.interpretation_spec.specs.Interpretation.{IsIn, IsWithin, IsSame, IsApart, HasPath, IsSubProperty, IsSameProperty, IsSameElement, IsOtherElement, Satisfies}
use Rattle.listed_model.specs.Listing.{HaveOneElement, HaveTwoElements, element_of, targets_of}
use Rattle.listed_model.specs.Interpretations.{listed_interpretation}
use Rattle.listed_model.specs.Members.{holds}
use Rattle.listed_model.specs.Extensions.{IsElement}
use Rattle.listed_model.specs.Rows.{HasListedPath}
use Rattle.listed_model.proofs.Members.{holds_from_Contains, Contains_from_holds}
use Rattle.listed_model.proofs.Interpreted.{property_is, individual_is, size_is}
use Rattle.listed_model.proofs.Extensions.{target_within}

-- ---- lists

abbrev pub Rises : List ℕ → Type 0
Rises xs = AllPairs (λ x y. x < y) xs

-- a member of a list is its head or a later one
first_holds : (x : ℕ) (xs : List ℕ) → holds (x ∷ xs) x ≡ true
first_holds x xs = holds_from_Contains (x ∷ xs) x (Contains-first x xs)

later_holds : (x y : ℕ) (xs : List ℕ) → holds xs y ≡ true → holds (x ∷ xs) y ≡ true
later_holds x y xs h = holds_from_Contains (x ∷ xs) y (Contains-later x y xs (Contains_from_holds xs y h))

holds_cases : (x y : ℕ) (xs : List ℕ) → holds (x ∷ xs) y ≡ true → (x ≡ y) ⊎ (holds xs y ≡ true)
holds_cases x y xs h = elim (Contains-cons_cases x y xs (Contains_from_holds (x ∷ xs) y h)) [ inl e ↦ inl e | inr c ↦ inr (holds_from_Contains xs y c) ]

above_head : (x : ℕ) (xs : List ℕ) → Rises (x ∷ xs) → (z : ℕ) → holds xs z ≡ true → x < z
above_head x xs h z m = All-contains (λ v. x < v) xs z (AllPairs-head (λ a b. a < b) x xs h) (Contains_from_holds xs z m)

-- ascending lists with the same members are the same
pub same_members : (xs ys : List ℕ) → Rises xs → Rises ys → ((z : ℕ) → (holds xs z ≡ true) ↔ (holds ys z ≡ true)) → xs ≡ ys
same_members [] [] p q h = refl
same_members [] (y ∷ ys) p q h = absurd (true≢false (sym ((h y).1 (first_holds y ys))))
same_members (x ∷ xs) [] p q h = absurd (true≢false (sym ((h x).0 (first_holds x xs))))
same_members (x ∷ xs) (y ∷ ys) p q h =
    let tails : x ≡ y → (z : ℕ) → (holds xs z ≡ true) ↔ (holds ys z ≡ true) = λ e z. (
      λ m. (let l = above_head x xs p z m in elim (holds_cases y z ys ((h z).0 (later_holds x z xs m))) [ inl s ↦ absurd (omega arith) | inr n ↦ n ]),
      λ m. (let l = above_head y ys q z m in elim (holds_cases x z xs ((h z).1 (later_holds y z ys m))) [ inl s ↦ absurd (omega arith) | inr n ↦ n ]),
    ) in
    let rest = same_members xs ys (AllPairs-tail (λ a b. a < b) x xs p) (AllPairs-tail (λ a b. a < b) y ys q) in
    elim (cases_order x y) [
      | inl e ↦ ap₂ (λ a b. a ∷ b) e (rest (tails e))
      | inr (inl l) ↦ elim (holds_cases y x ys ((h x).0 (first_holds x xs))) [ inl e ↦ absurd (omega arith) | inr m ↦ (let k = above_head y ys q x m in absurd (omega arith)) ]
      | inr (inr l) ↦ elim (holds_cases x y xs ((h y).1 (first_holds y ys))) [ inl e ↦ absurd (omega arith) | inr m ↦ (let k = above_head x xs p y m in absurd (omega arith)) ]
    ]

-- what is said of each two numbers is said of what they stand for
pairs_said : {B : Type 0} (P : ℕ → Type 0) (R : ℕ → ℕ → Type 0) (S : B → B → Type 0) (f : ℕ → B) → ((c d : ℕ) → P c → P d → R c d ↔ S (f c) (f d)) → (xs : List ℕ) → All P xs → AllPairs R xs ↔ AllPairs S (map f xs)
pairs_said P R S f said xs all = (
  λ h. AllPairs-map S f xs (λ a b c d l gc gd.
      let la = slice_get_within xs a c gc in
      let lb = slice_get_within xs b d gd in
      let ec = get_or_from_slice_get xs a c 0 gc in
      let ed = get_or_from_slice_get xs b d 0 gd in
      (said c d (subst P ec (all a 0 la)) (subst P ed (all b 0 lb))).0 (subst₂ R ec ed (h a b 0 l lb))),
  λ h a b d l lb. (said (get_or xs a d) (get_or xs b d) (all a d (omega arith)) (all b d lb)).1 (AllPairs-from_map S f xs h a b d l lb),
)

module _ (o : Ontology) (w : IsOntology o) (l : Listed) (fits : IsListedOf o l) where
  inside : (x : ℕ) → x < (listed_interpretation o l).size → x < l.domain
  inside x h = subst (λ (n : ℕ). x < n) (size_is o w l) h

  outside : (x : ℕ) → x < l.domain → x < (listed_interpretation o l).size
  outside x h = subst (λ (n : ℕ). x < n) (sym (size_is o w l)) h

  -- ---- classes

  pub within_said : (c d : ℕ) → ((x : ℕ) → IsElement o l c x → IsElement o l d x) ↔ IsWithin (listed_interpretation o l) (expression o c) (expression o d)
  within_said c d = (
    λ h x lx m. (h x (inside x lx, m)).1,
    λ h x (lx, m). (lx, h x (outside x lx) m),
  )

  same_said : (c d : ℕ) → ((x : ℕ) → IsElement o l c x ↔ IsElement o l d x) ↔ IsSame (listed_interpretation o l) (expression o c) (expression o d)
  same_said c d = (
    λ h. ((within_said c d).0 (λ x. (h x).0), (within_said d c).0 (λ x. (h x).1)),
    λ h x. ((within_said c d).1 h.0 x, (within_said d c).1 h.1 x),
  )

  apart_said : (c d : ℕ) → ((x : ℕ) → IsElement o l c x → IsElement o l d x → ⊥) ↔ IsApart (listed_interpretation o l) (expression o c) (expression o d)
  apart_said c d = (
    λ h x lx m n. h x (inside x lx, m) (inside x lx, n),
    λ h x (lx, m) (ly, n). h x (outside x lx) m n,
  )

  pub all_same_said : (ds : List ℕ) → AllPairs (λ c d. (x : ℕ) → IsElement o l c x ↔ IsElement o l d x) ds ↔ AllPairs (IsSame (listed_interpretation o l)) (expressions o ds)
  all_same_said ds = pairs_said (λ (d : ℕ). d ≡ d) (λ c d. (x : ℕ) → IsElement o l c x ↔ IsElement o l d x) (IsSame (listed_interpretation o l)) (expression o)
      (λ c d p q. same_said c d) ds (λ k d b. refl)

  pub all_apart_said : (ds : List ℕ) → AllPairs (λ c d. (x : ℕ) → IsElement o l c x → IsElement o l d x → ⊥) ds ↔ AllPairs (IsApart (listed_interpretation o l)) (expressions o ds)
  all_apart_said ds = pairs_said (λ (d : ℕ). d ≡ d) (λ c d. (x : ℕ) → IsElement o l c x → IsElement o l d x → ⊥) (IsApart (listed_interpretation o l)) (expression o)
      (λ c d p q. apart_said c d) ds (λ k d b. refl)

  -- ---- properties

  path_said : (rs : List ℕ) → All (λ r. r < length o.names.properties) rs → (x y : ℕ) → HasListedPath l.pairs rs x y ↔ HasPath (listed_interpretation o l) (map (property_name o) rs) x y
  path_said [] h x y = (λ p. p, λ p. p)
  path_said (r ∷ rs) h x y =
      let P : ℕ → Type 0 = λ r. r < length o.names.properties in
      let lr = All-head P r rs h in
      let later = path_said rs (All-tail P r rs h) in (
        λ (z, t, p). (z, outside z (target_within o w l fits r x z t).1, property_is o w l r x z lr ∙ t, (later z y).0 p),
        λ (z, lz, t, p). (z, sym (property_is o w l r x z lr) ∙ t, (later z y).1 p),
      )

  path_end : (rs : List ℕ) (x y : ℕ) → x < l.domain → HasListedPath l.pairs rs x y → y < l.domain
  path_end [] x y lx e = subst (λ (v : ℕ). v < l.domain) e lx
  path_end (r ∷ rs) x y lx (z, t, p) = path_end rs z y (target_within o w l fits r x z t).1 p

  path_start : (rs : List ℕ) (x y : ℕ) → 0 < length rs → HasListedPath l.pairs rs x y → x < l.domain
  path_start [] x y some p = absurd (omega arith)
  path_start (r ∷ rs) x y some (z, t, p) = (target_within o w l fits r x z t).0

  pub sub_property_said : (rs : List ℕ) (s : ℕ) → 0 < length rs → All (λ r. r < length o.names.properties) rs → s < length o.names.properties
      → ((x y : ℕ) → HasListedPath l.pairs rs x y → holds (targets_of l.pairs s x) y ≡ true) ↔ IsSubProperty (listed_interpretation o l) (map (property_name o) rs) (property_name o s)
  sub_property_said rs s some hs ls = (
    λ h x lx y ly p. property_is o w l s x y ls ∙ h x y ((path_said rs hs x y).1 p),
    λ h x y p.
        let lx = path_start rs x y some p in
        let ly = path_end rs x y lx p in
        sym (property_is o w l s x y ls) ∙ h x (outside x lx) y (outside y ly) ((path_said rs hs x y).0 p),
  )

  same_property_said : (r s : ℕ) → r < length o.names.properties → s < length o.names.properties
      → ((x y : ℕ) → holds (targets_of l.pairs r x) y ≡ holds (targets_of l.pairs s x) y) ↔ IsSameProperty (listed_interpretation o l) (property_name o r) (property_name o s)
  same_property_said r s lr ls = (
    λ h x lx y ly. property_is o w l r x y lr ∙ h x y ∙ sym (property_is o w l s x y ls),
    λ h x y.
        let same : x < l.domain → y < l.domain → holds (targets_of l.pairs r x) y ≡ holds (targets_of l.pairs s x) y =
        λ lx ly. sym (property_is o w l r x y lr) ∙ h x (outside x lx) y (outside y ly) ∙ property_is o w l s x y ls in
        both_ways (holds (targets_of l.pairs r x) y) (holds (targets_of l.pairs s x) y)
        (λ t. let (lx, ly) = target_within o w l fits r x y t in sym (same lx ly) ∙ t)
        (λ t. let (lx, ly) = target_within o w l fits s x y t in same lx ly ∙ t),
  )

  pub same_properties_said : (rs : List ℕ) → All (λ r. r < length o.names.properties) rs
      → AllPairs (λ r s. (x y : ℕ) → holds (targets_of l.pairs r x) y ≡ holds (targets_of l.pairs s x) y) rs ↔ AllPairs (IsSameProperty (listed_interpretation o l)) (map (property_name o) rs)
  same_properties_said rs hs = pairs_said (λ r. r < length o.names.properties) (λ r s. (x y : ℕ) → holds (targets_of l.pairs r x) y ≡ holds (targets_of l.pairs s x) y) (IsSameProperty (listed_interpretation o l)) (property_name o) same_property_said rs hs

  pub domain_said : (r c : ℕ) → r < length o.names.properties
      → ((x y : ℕ) → holds (targets_of l.pairs r x) y ≡ true → IsElement o l c x) ↔ Satisfies (listed_interpretation o l) (tree.PropertyDomain (property_name o r) (expression o c))
  domain_said r c lr = (
    λ h x lx y ly p. (h x y (sym (property_is o w l r x y lr) ∙ p)).1,
    λ h x y t.
        let (lx, ly) = target_within o w l fits r x y t in
        (lx, h x (outside x lx) y (outside y ly) (property_is o w l r x y lr ∙ t)),
  )

  pub reflexive_said : (r : ℕ) → r < length o.names.properties → ((x : ℕ) → x < l.domain → holds (targets_of l.pairs r x) x ≡ true) ↔ Satisfies (listed_interpretation o l) (tree.ReflexiveProperty (property_name o r))
  reflexive_said r lr = (
    λ h x lx. property_is o w l r x x lr ∙ h x (inside x lx),
    λ h x lx. sym (property_is o w l r x x lr) ∙ h x (outside x lx),
  )

  -- ---- individuals

  pub class_assertion_said : (c a : ℕ) → a < length o.names.individuals
      → IsElement o l c (element_of l.individuals a) ↔ Satisfies (listed_interpretation o l) (tree.ClassAssertion (expression o c) (individual_name o a))
  class_assertion_said c a la =
      let i = listed_interpretation o l in
      let x = element_of l.individuals a in
      let within : x < l.domain = fits.individuals a 0 (omega (arith, fits.individuals_each)) in (
        λ h. subst (λ (v : ℕ). IsIn i (expression o c) v) (sym (individual_is o w l a la)) h.1,
        λ h. (within, subst (λ (v : ℕ). IsIn i (expression o c) v) (individual_is o w l a la) h),
      )

  pub property_assertion_said : (r a b : ℕ) → r < length o.names.properties → a < length o.names.individuals → b < length o.names.individuals
      → (holds (targets_of l.pairs r (element_of l.individuals a)) (element_of l.individuals b) ≡ true) ↔ Satisfies (listed_interpretation o l) (tree.PropertyAssertion (property_name o r) (individual_name o a) (individual_name o b))
  property_assertion_said r a b lr la lb =
      let i = listed_interpretation o l in
      let same = ap₂ (i.property (property_name o r)) (individual_is o w l a la) (individual_is o w l b lb) ∙ property_is o w l r (element_of l.individuals a) (element_of l.individuals b) lr in
      (λ h. same ∙ h, λ h. sym same ∙ h)

  one_element_said : (a b : ℕ) → a < length o.names.individuals → b < length o.names.individuals
      → HaveOneElement l.individuals a b ↔ IsSameElement (listed_interpretation o l) (individual_name o a) (individual_name o b)
  one_element_said a b la lb = (
    λ e. individual_is o w l a la ∙ e ∙ sym (individual_is o w l b lb),
    λ e. sym (individual_is o w l a la) ∙ e ∙ individual_is o w l b lb,
  )

  two_elements_said : (a b : ℕ) → a < length o.names.individuals → b < length o.names.individuals
      → HaveTwoElements l.individuals a b ↔ IsOtherElement (listed_interpretation o l) (individual_name o a) (individual_name o b)
  two_elements_said a b la lb =
      let said = one_element_said a b la lb in
      (λ h e. h (said.1 e), λ h e. h (said.0 e))

  pub same_individuals_said : (xs : List ℕ) → All (λ a. a < length o.names.individuals) xs
      → AllPairs (HaveOneElement l.individuals) xs ↔ AllPairs (IsSameElement (listed_interpretation o l)) (map (individual_name o) xs)
  same_individuals_said xs within = pairs_said (λ a. a < length o.names.individuals) (HaveOneElement l.individuals) (IsSameElement (listed_interpretation o l)) (individual_name o) one_element_said xs within

  pub different_individuals_said : (xs : List ℕ) → All (λ a. a < length o.names.individuals) xs
      → AllPairs (HaveTwoElements l.individuals) xs ↔ AllPairs (IsOtherElement (listed_interpretation o l)) (map (individual_name o) xs)
  different_individuals_said xs within = pairs_said (λ a. a < length o.names.individuals) (HaveTwoElements l.individuals) (IsOtherElement (listed_interpretation o l)) (individual_name o) two_elements_said xs within
