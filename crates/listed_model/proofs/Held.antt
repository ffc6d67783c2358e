-- What is kept.
use Rattle.std.proofs.Common.{◌≡◌, ◌↔◌, ◌<◌, ◌≤◌, inl, inr, ℕ, zero, suc, List, [], ◌∷◌, ◌++◌, ◌&&◌, ◌||◌, ◌⊎◌, IsTrue, Bool, true, false, length, map, get_or, slice_get, Some, refl, sym, ap, ◌∙◌, subst, arith, true≢false}
use Rattle.std.specs.Prelude.{filter}
use Rattle.std.specs.List.{list_all}
use Rattle.std.specs.List.Sorted.{IsStrictlyIncreasing}
use Rattle.std.proofs.lemmas.Bool.{and_from, and_parts, cases_lt, or_cases, or_left, or_right}
use Rattle.std.proofs.lemmas.List.{append-nil, get_or_append_left, get_or_push, length-append, length_push}
use Rattle.std.proofs.lemmas.List.Elements.{Contains-get_or}
use Rattle.std.proofs.lemmas.Option.{get_or_from_slice_get, same_Some, slice_get-get_or, slice_get_within}
use Rattle.std.proofs.lemmas.List.Kept.{AllPairs-from_increasing, IsStrictlyIncreasing-filter}
use Rattle.lemmas.proofs.Mapped.{All-from_map}
use Rattle.axioms.specs.Ontology.{Ontology}
use Rattle.axioms.specs.WellFormedness.{IsOntology}
use Rattle.certificate.specs.Certificate.{Listed}
use Rattle.certificate.specs.Writability.{AreElements, IsListedOf, IsNamedClass}
use Rattle.certificate.specs.View.{class_row_of, listed_of}
use Rattle.certificate.specs.declared.listed.ClassRow.{ClassRow}
use Rattle.certificate.specs.declared.listed.Listed as code
use Rattle.number_sets.specs.Members.{has}
use Rattle.listed_model.specs.Extensions.{AreAscending, AreThose, IsElement, IsExtension}
use Rattle.listed_model.specs.Interpretations.{class_members}
use Rattle.listed_model.specs.Keeping.{AreKept, StandAt}
use Rattle.listed_model.specs.Listing.{elements_of}
use Rattle.listed_model.specs.Members.{holds}
use Rattle.listed_model.specs.Rows.{AreHolders}
use Rattle.listed_model.specs.declared.kept.Kept.{Kept}
use Rattle.listed_model.specs.declared.kept.Place.{Place}
use Rattle.listed_model.specs.declared.kept.Place.TheVariants as place
use Rattle.listed_model.proofs.Extensions.{class_extension, holds_filter, list_all_from, list_all_member}
use Rattle.listed_model.proofs.Found.{elements_found}
use Rattle.listed_model.proofs.Given.{class_rows_given}
use Rattle.listed_model.proofs.Members.{holds_from_Contains, Contains_from_holds}
use Rattle.listed_model.proofs.Said.{same_members}

-- the elements of a class stand in its row
pub row_is : (o : Ontology) → IsOntology o → (l : code.Listed) → IsListedOf o (listed_of l) → (k : ℕ) (row : ClassRow) → slice_get l.classes.items k ≡ Some row → IsExtension o (listed_of l) row.class.0 row.elements.items
row_is o w l fits k row g =
    let (named, two, _) = get_All k row g in
    subst (IsExtension o (listed_of l) row.class.0) (is row.class.0 two refl) (class_extension o w (listed_of l) fits row.class.0 named.0 named.1)
  where
    get_All : (k : ℕ) (row : ClassRow) → slice_get l.classes.items k ≡ Some row → IsNamedClass o row.class.0 × (2 ≤ row.class.0) × AreElements l.domain row.elements.items
    get_All k row g =
        subst (λ (r : ClassRow). IsNamedClass o r.class.0 × (2 ≤ r.class.0) × AreElements l.domain r.elements.items) (get_or_from_slice_get l.classes.items k row row g)
        (All-from_map (λ (c : ℕ × List ℕ). IsNamedClass o c.0 × (2 ≤ c.0) × AreElements l.domain c.1) class_row_of l.classes.items fits.classes k row (slice_get_within l.classes.items k row g))

    is : (e : ℕ) → 2 ≤ e → e ≡ row.class.0 → class_members (listed_of l) e ≡ row.elements.items
    is zero two at = absurd (omega (arith, two))
    is (suc zero) two at = absurd (omega (arith, two))
    is (suc (suc e)) two at = ap (λ (n : ℕ). elements_of (map class_row_of l.classes.items) n) at ∙ elements_found l.classes.items (class_rows_given o l fits).ordered k row g

-- a list that is among the first ones
list_before : (lists more : List (List ℕ)) (k : ℕ) (xs : List ℕ) → k < length lists → slice_get (lists ++ more) k ≡ Some xs → slice_get lists k ≡ Some xs
list_before lists more k xs b g =
    slice_get-get_or lists k xs b ∙ ap Some (sym (get_or_append_left lists more xs k b) ∙ get_or_from_slice_get (lists ++ more) k xs xs g)

stand_before : (rows : List ClassRow) (lists more : List (List ℕ)) (p : Place) (xs : List ℕ) → ((n : ℕ) → p ≡ place.List n → n < length lists) → StandAt rows (lists ++ more) p xs → StandAt rows lists p xs
stand_before rows lists more place.Nowhere xs below s = s
stand_before rows lists more (place.Row k) xs below s = s
stand_before rows lists more (place.List k) xs below s = list_before lists more k xs (below k refl) s

-- the place of one expression more
pub kept_push : (o : Ontology) (l : code.Listed) (old new : Kept) (p : Place) (more : List (List ℕ)) → AreKept o l old → new.holders ≡ old.holders → new.lists ≡ old.lists ++ more
    → new.places.items ≡ old.places.items ++ p ∷ [] → ((n : ℕ) → p ≡ place.List n → n < length new.lists)
    → ((xs : List ℕ) → StandAt l.classes.items new.lists p xs → IsExtension o (listed_of l) (length old.places.items) xs) → AreKept o l new
kept_push o l old new p more kept holders lists places below one = record {
  holders = subst (AreHolders l.pairs.items l.domain) (sym holders) kept.holders;
  lists = λ e n g. elim (which e (place.List n) (ap (λ ps. slice_get ps e) (sym places) ∙ g)) [
    | inl was ↦ (let b = kept.lists e n was in omega (arith, b, ap length lists, length-append old.lists more))
    | inr (_, is) ↦ below n is
  ];
  elements = λ e xs (q, g, s). elim (which e q (ap (λ ps. slice_get ps e) (sym places) ∙ g)) [
    | inl was ↦ kept.elements e xs (q, was, stand_before l.classes.items old.lists more q xs (λ n is. kept.lists e n (was ∙ ap Some is)) (subst (λ (ls : List (List ℕ)). StandAt l.classes.items ls q xs) lists s))
    | inr (at, is) ↦ subst (λ (n : ℕ). IsExtension o (listed_of l) n xs) at (one xs (subst (λ (r : Place). StandAt l.classes.items new.lists r xs) (sym is) s))
  ];
}
  where
    which : (e : ℕ) (q : Place) → slice_get (old.places.items ++ p ∷ []) e ≡ Some q → (slice_get old.places.items e ≡ Some q) ⊎ ((length old.places.items ≡ e) × (p ≡ q))
    which e q g = elim (cases_lt e (length old.places.items)) [
      | inl b ↦ inl (slice_get-get_or old.places.items e q b ∙ ap Some (sym (get_or_append_left old.places.items (p ∷ []) q e b) ∙ get_or_from_slice_get (old.places.items ++ p ∷ []) e q q g))
      | inr from ↦
          (let within = slice_get_within (old.places.items ++ p ∷ []) e q g in
          let at : length old.places.items ≡ e = omega (arith, length_push old.places.items p) in
          inr (at, sym (get_or_push old.places.items p q e at) ∙ get_or_from_slice_get (old.places.items ++ p ∷ []) e q q g))
    ]

abbrev is_list : Place → Bool
is_list place.Nowhere = false
is_list (place.Row k) = false
is_list (place.List k) = true

-- .. in a row, in a list that was made, or nowhere
pub kept_row : (o : Ontology) → IsOntology o → (l : code.Listed) → IsListedOf o (listed_of l) → (old new : Kept) (k : ℕ) (row : ClassRow) → AreKept o l old → slice_get l.classes.items k ≡ Some row → row.class.0 ≡ length old.places.items
    → (new.holders ≡ old.holders) × (new.lists ≡ old.lists) × (new.places.items ≡ old.places.items ++ place.Row k ∷ []) → AreKept o l new
kept_row o w l fits old new k row kept g is (holders, lists, places) =
    kept_push o l old new (place.Row k) [] kept holders (lists ∙ sym (append-nil old.lists)) places
    (λ n e. absurd (true≢false (sym (ap is_list e))))
    (λ xs (r, h, s). subst (IsExtension o (listed_of l) (length old.places.items)) (ap (λ (r : ClassRow). r.elements.items) (same_Some row r (sym g ∙ h)) ∙ s)
    (subst (λ (e : ℕ). IsExtension o (listed_of l) e row.elements.items) is (row_is o w l fits k row g)))

pub kept_list : (o : Ontology) (l : code.Listed) (old new : Kept) (xs : List ℕ) → AreKept o l old → IsExtension o (listed_of l) (length old.places.items) xs
    → (new.holders ≡ old.holders) × (new.lists ≡ old.lists ++ xs ∷ []) × (new.places.items ≡ old.places.items ++ place.List (length old.lists) ∷ []) → AreKept o l new
kept_list o l old new xs kept one (holders, lists, places) =
    kept_push o l old new (place.List (length old.lists)) (xs ∷ []) kept holders lists places
    (λ n e. let same : length old.lists ≡ n = ap number_of e in omega (arith, same, ap length lists, length_push old.lists xs))
    (λ ys s. subst (IsExtension o (listed_of l) (length old.places.items))
    (sym (get_or_push old.lists xs ys (length old.lists) refl) ∙ get_or_from_slice_get (old.lists ++ xs ∷ []) (length old.lists) ys ys (ap (λ ls. slice_get ls (length old.lists)) (sym lists) ∙ s)) one)
  where
    number_of : Place → ℕ
    number_of place.Nowhere = 0
    number_of (place.Row k) = 0
    number_of (place.List k) = k

pub kept_nowhere : (o : Ontology) (l : code.Listed) (old new : Kept) → AreKept o l old
    → (new.holders ≡ old.holders) × (new.lists ≡ old.lists) × (new.places.items ≡ old.places.items ++ place.Nowhere ∷ []) → AreKept o l new
kept_nowhere o l old new kept (holders, lists, places) =
    kept_push o l old new place.Nowhere [] kept holders (lists ∙ sym (append-nil old.lists)) places (λ n e. absurd (true≢false (sym (ap is_list e)))) (λ xs s. absurd s)

-- ---- a list that has the elements of an expression

module _ (o : Ontology) (l : Listed) (e : ℕ) (list : List ℕ) (from : IsExtension o l e list) where
  pub all_below : AreAscending l.domain list
  all_below = record { ascending = from.ascending; within = λ x h. ((from.members x).0 h).0 }

  pub those_of : (elements those : List ℕ) → IsStrictlyIncreasing elements → those ≡ filter (holds list) elements → AreThose o l e elements those
  those_of elements those up is = record {
    ascending = subst IsStrictlyIncreasing (sym is) (IsStrictlyIncreasing-filter (holds list) elements up);
    members = λ x.
        let both : holds those x ≡ (holds elements x && holds list x) = ap (λ zs. holds zs x) is ∙ holds_filter (holds list) elements x in (
          λ m. (let (a, b) = and_parts (holds elements x) (holds list x) (sym both ∙ m) in (a, (from.members x).0 b)),
          λ (a, b). both ∙ and_from (holds elements x) (holds list x) a ((from.members x).1 b),
        );
  }

  pub all_are_of : (elements : List ℕ) → (list_all (holds list) elements ≡ true) ↔ ((x : ℕ) → holds elements x ≡ true → IsElement o l e x)
  all_are_of elements = (
    λ t x h. (from.members x).0 (list_all_member (holds list) elements x (Contains_from_holds elements x h) t),
    λ q. list_all_from (holds list) elements (λ k d b. (from.members (get_or elements k d)).1 (q (get_or elements k d) (holds_from_Contains elements (get_or elements k d) (Contains-get_or elements k d b)))),
  )

  pub is_all_of : (elements : List ℕ) → IsStrictlyIncreasing elements → (list ≡ elements) ↔ ((x : ℕ) → (holds elements x ≡ true) ↔ IsElement o l e x)
  is_all_of elements up = (
    λ same x. (λ h. (from.members x).0 (ap (λ zs. holds zs x) same ∙ h), λ h. ap (λ zs. holds zs x) (sym same) ∙ (from.members x).1 h),
    λ q. same_members list elements (AllPairs-from_increasing list from.ascending) (AllPairs-from_increasing elements up)
        (λ x. (λ m. (q x).1 ((from.members x).0 m), λ m. (from.members x).1 ((q x).0 m))),
  )

  -- a set that is asked for the list is asked for the elements of the expression
  pub apart_of : (row : List Bool) (apart : Bool) → (IsTrue apart ↔ ((x : ℕ) → has row x ≡ true → holds list x ≡ true → ⊥)) → IsTrue apart ↔ ((x : ℕ) → has row x ≡ true → IsElement o l e x → ⊥)
  apart_of row apart said = (λ t x s m. said.0 t x s ((from.members x).1 m), λ q. said.1 (λ x s m. q x s ((from.members x).0 m)))

  pub put_of : (old new : List Bool) (x : ℕ) → has new x ≡ (has old x || holds list x) → (has new x ≡ true) ↔ ((has old x ≡ true) ⊎ IsElement o l e x)
  put_of old new x put = (
    λ h. elim (or_cases (has old x) (holds list x) (sym put ∙ h)) [
      | inl s ↦ inl s
      | inr m ↦ inr ((from.members x).0 m)
    ],
    λ h. put ∙ elim h [
      | inl s ↦ or_left (has old x) (holds list x) s
      | inr m ↦ or_right (has old x) (holds list x) ((from.members x).1 m)
    ],
  )
