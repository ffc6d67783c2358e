-- The elements of expressions, level by level.
use Rattle.std.proofs.Common.{◌≡◌, ◌↔◌, ℕ, zero, suc, ◌+◌, ◌<◌, ◌≤◌, ◌⊎◌, inl, inr, List, [], ◌∷◌, ◌++◌, Bool, true, false, ◌&&◌, length, map, get_or, slice_get, Some, Contains, All, refl, sym, ap, ap₂, ◌∙◌, subst, arith}
use Rattle.std.specs.Prelude.{filter}
use Rattle.std.specs.List.{list_all, list_any, range_with_len}
use Rattle.std.specs.List.Sorted.{IsStrictlyIncreasing}
use Rattle.std.proofs.lemmas.Bool.{cases_Bool, cases_eq, cases_lt, eq-eqb, ne_eqb, and_right, and_from, true≢false, true_from_ne_false}
use Rattle.std.proofs.lemmas.List.{length-map}
use Rattle.std.proofs.lemmas.List.Elements.{All-map, All-weaker, All-contains, Contains-push, Contains-push_cases, Contains-append_left}
use Rattle.std.proofs.lemmas.List.Folds.{list_all_at, Any-from_list_any, list_any-from_Any}
use Rattle.std.proofs.lemmas.List.FromFn.{get_or-range_with_len, length-range_with_len}
use Rattle.std.proofs.lemmas.Option.{slice_get_within, same_Some}
use Rattle.lemmas.proofs.Mapped.{All-from_map}
use Rattle.lemmas.proofs.Members.{slice_get-from_Contains, Contains-from_slice_get}
use Rattle.axioms.specs.Ontology.{Ontology, And, Exists, IsClassAt, expression, expressions}
use Rattle.axioms.specs.WellFormedness.{IsOntology}
use Rattle.axioms.proofs.Trees.{class_tree, some_tree, and_tree}
use Rattle.certificate.specs.Certificate.{Listed}
use Rattle.certificate.specs.Writability.{IsListedOf, AreElements, IsNamedClass}
use Rattle.certificate.specs.View.{pair_row_of, targets_in}
use Rattle.certificate.specs.declared.listed.PairRow.{PairRow}
use Rattle.interpretation_spec.specs.Interpretation.{IsIn}
use Rattle.interpretation_spec.proofs.Extensions.{in_intersection, each_of_intersection}
use Rattle.listed_model.specs.Listing.{targets_of}
use Rattle.listed_model.specs.Interpretations.{class_members, listed_interpretation}
use Rattle.listed_model.specs.Members.{holds}
use Rattle.listed_model.specs.Extensions.{AreThose, IsElement, IsExtension}
use Rattle.listed_model.specs.Rows.{SomeBefore, ArePairRows, Joined}
use Rattle.listed_model.proofs.Members.{holds_from_Contains, Contains_from_holds}
use Rattle.listed_model.proofs.Interpreted.{class_is, property_is, size_is, range_has}
use Rattle.listed_model.proofs.Given.{elements_rise, listed_elements}
use Rattle.listed_model.proofs.Found.{targets_found, target_row}

-- ---- lists

pub holds_filter : (p : ℕ → Bool) (xs : List ℕ) (x : ℕ) → holds (filter p xs) x ≡ (holds xs x && p x)
holds_filter p [] x = refl
holds_filter p (y ∷ ys) x = go (cases_Bool (p y)) (cases_eq y x) (holds_filter p ys x)
  where
    go : (p y ≡ true) ⊎ (p y ≡ false) → (y ≡ x) ⊎ (y ≡ x → ⊥) → holds (filter p ys) x ≡ (holds ys x && p x) → holds (filter p (y ∷ ys)) x ≡ (holds (y ∷ ys) x && p x)
    go (inl t) (inl e) ih = rw (t, eq-eqb y x e) (sym (subst (λ v. p v ≡ true) e t))
    go (inl t) (inr ne) ih = rw (t, ne_eqb y x ne) ih
    go (inr f) (inl e) ih = rw (f, eq-eqb y x e) (let px = subst (λ v. p v ≡ false) e f in ih ∙ and_right (holds ys x) (p x) px ∙ sym px)
    go (inr f) (inr ne) ih = rw (f, ne_eqb y x ne) ih

pub list_all_member : (p : ℕ → Bool) (xs : List ℕ) (x : ℕ) → Contains xs x → list_all p xs ≡ true → p x ≡ true
list_all_member p xs x (k, l, e) h = true_from_ne_false (p x) (λ f. true≢false (sym h ∙ list_all_at p xs k x l (ap p e ∙ f)))

pub list_all_from : (p : ℕ → Bool) (xs : List ℕ) → All (λ x. p x ≡ true) xs → list_all p xs ≡ true
list_all_from p [] h = refl
list_all_from p (x ∷ xs) h = and_from (p x) (list_all p xs) (h 0 x (omega arith)) (list_all_from p xs (λ k d l. h (suc k) d (omega arith)))

-- ---- some before

pub some_before_next : {X : Type 0} (P : X → Type 0) (xs : List X) (n : ℕ) (x : X) → slice_get xs n ≡ Some x → SomeBefore P xs (n + 1) ↔ (SomeBefore P xs n ⊎ P x)
some_before_next P xs n x g = (
  λ (k, y, l, h, p). elim (cases_lt k n) [
    | inl b ↦ inl (k, y, b, h, p)
    | inr b ↦ (let e : k ≡ n = omega arith in inr (subst P (same_Some y x (sym h ∙ ap (slice_get xs) e ∙ g)) p))
  ],
  λ h. elim h [
    | inl s ↦ (let l = s.2 in (s.0, s.1, omega arith, s.3, s.4))
    | inr p ↦ (n, x, omega arith, g, p)
  ],
)

pub some_before_none : {X : Type 0} (P : X → Type 0) (xs : List X) → SomeBefore P xs 0 → ⊥
some_before_none P xs (k, x, l, g, p) = omega arith

pub holds_push : (xs : List ℕ) (y x : ℕ) → (holds (xs ++ y ∷ []) x ≡ true) ↔ ((holds xs x ≡ true) ⊎ (y ≡ x))
holds_push xs y x = (
  λ h. elim (Contains-push_cases xs y x (Contains_from_holds (xs ++ y ∷ []) x h)) [
    | inl c ↦ inl (holds_from_Contains xs x c)
    | inr e ↦ inr e
  ],
  λ h. elim h [
    | inl c ↦ holds_from_Contains (xs ++ y ∷ []) x (Contains-append_left xs (y ∷ []) x (Contains_from_holds xs x c))
    | inr e ↦ holds_from_Contains (xs ++ y ∷ []) x (subst (λ v. Contains (xs ++ y ∷ []) v) e (Contains-push xs y))
  ],
)

-- ---- sources

abbrev pub IsSource : List ℕ → ℕ → PairRow → Type 0
IsSource fillers x row = (row.source ≡ x) × (list_any (holds fillers) (targets_in row.targets) ≡ true)

pub sources_mean : (rows of_property : List PairRow) (r : ℕ) (fillers : List ℕ) (n x : ℕ) → ArePairRows rows → length of_property ≤ n
    → ((row : PairRow) → Contains of_property row ↔ (Contains rows row × (row.property.0 ≡ r)))
    → SomeBefore (IsSource fillers x) of_property n ↔ Joined (map pair_row_of rows) r fillers x
sources_mean rows of_property r fillers n x given all those = (
  λ (k, row, l, g, (s, any)).
      let (c, p) = (those row).0 (Contains-from_slice_get of_property k row g) in
      let (m, h) = slice_get-from_Contains rows row c in
      let found = targets_found rows given.ordered m row h in
      let (j, y, lj, e, f) = Any-from_list_any (holds fillers) (targets_in row.targets) any in
      let is : targets_of (map pair_row_of rows) r x ≡ targets_in row.targets = ap₂ (targets_of (map pair_row_of rows)) (sym p) (sym s) ∙ found in
      (y, ap (λ ts. holds ts y) is ∙ holds_from_Contains (targets_in row.targets) y (j, lj, e), f),
  λ (y, t, f).
      let (m, row, g, p, s, h) = target_row rows r x y t in
      let (k, i) = slice_get-from_Contains of_property row ((those row).1 (Contains-from_slice_get rows m row g, p)) in
      let within = slice_get_within of_property k row i in
      let (j, lj, e) = Contains_from_holds (targets_in row.targets) y h in
      (k, row, omega arith, i, (s, list_any-from_Any (holds fillers) (targets_in row.targets) (j, y, lj, e, f))),
)

-- ---- extensions

module _ (o : Ontology) (w : IsOntology o) (l : Listed) (fits : IsListedOf o l) where
  class_within : (e x : ℕ) → holds (class_members l e) x ≡ true → x < l.domain
  class_within zero x h = (range_has l.domain x).0 h
  class_within (suc zero) x h = absurd (true≢false (sym h))
  class_within (suc (suc e)) x h =
      listed_elements l.domain l.classes (suc (suc e)) (λ xs. holds xs x ≡ true → x < l.domain) (λ f. absurd (true≢false (sym f)))
      (All-weaker (λ (c : ℕ × List ℕ). IsNamedClass o c.0 × (2 ≤ c.0) × AreElements l.domain c.1) (λ (c : ℕ × List ℕ). holds c.1 x ≡ true → x < l.domain)
      (λ c a t. All-contains (λ y. y < l.domain) c.1 x a.2.within (Contains_from_holds c.1 x t)) l.classes fits.classes) h

  range_rises : (n : ℕ) → IsStrictlyIncreasing (range_with_len 0 n)
  range_rises n k b =
      let many = length-range_with_len 0 n in
      let first : get_or (range_with_len 0 n) k 0 ≡ 0 + k = get_or-range_with_len 0 n k 0 (omega arith) in
      let second : get_or (range_with_len 0 n) (k + 1) 0 ≡ 0 + (k + 1) = get_or-range_with_len 0 n (k + 1) 0 (omega arith) in
      omega arith

  class_rises : (e : ℕ) → IsStrictlyIncreasing (class_members l e)
  class_rises zero = range_rises l.domain
  class_rises (suc zero) = λ k b. absurd (omega arith)
  class_rises (suc (suc e)) =
      listed_elements l.domain l.classes (suc (suc e)) IsStrictlyIncreasing (λ k b. absurd (omega arith))
      (All-weaker (λ (c : ℕ × List ℕ). IsNamedClass o c.0 × (2 ≤ c.0) × AreElements l.domain c.1) (λ (c : ℕ × List ℕ). IsStrictlyIncreasing c.1)
      (λ c a. elements_rise l.domain c.1 a.2) l.classes fits.classes)

  pub class_extension : (e c : ℕ) → IsClassAt o c e → IsExtension o l e (class_members l e)
  class_extension e c g =
      let i = listed_interpretation o l in
      let tree = class_tree o c e g in
      record {
        ascending = class_rises e;
        members = λ x. (
          λ h. (class_within e x h, subst (λ t. IsIn i t x) (sym tree) (class_is o w l c e x g ∙ h)),
          λ h. sym (class_is o w l c e x g) ∙ subst (λ t. IsIn i t x) tree h.1,
        );
      }

  -- an element of an intersection is one of each operand
  pub and_elements : (e : ℕ) (ds : List ℕ) → slice_get o.nodes e ≡ Some (And ds) → (x : ℕ) → IsElement o l e x ↔ All (λ d. IsElement o l d x) ds
  and_elements e ds g x =
      let i = listed_interpretation o l in
      let tree = and_tree o w e ds g in
      let operands = w.nodes e (And ds) g in
      let two = operands.many in
      let many : 1 ≤ length (expressions o ds) = omega (arith, operands.many, length-map ds (expression o)) in (
        λ h.
            let all = All-from_map (λ t. IsIn i t x) (expression o) ds (each_of_intersection i x (expressions o ds) many (subst (λ t. IsIn i t x) tree h.1)) in
            λ k d b. (h.0, all k d b),
        λ h. (
          (h 0 0 (omega arith)).0,
          subst (λ t. IsIn i t x) (sym tree) (in_intersection i x (expressions o ds) many (All-map (λ t. IsIn i t x) (expression o) ds (λ k d b. (h k d b).1))),
        ),
      )

  pub target_within : (r x y : ℕ) → holds (targets_of l.pairs r x) y ≡ true → (x < l.domain) × (y < l.domain)
  target_within r x y h = pair_within l.pairs fits.pairs r x y h
    where
      pair_within : (rows : List (ℕ × ℕ × List ℕ)) → All (λ p. (p.0 < length o.names.properties) × (p.1 < l.domain) × AreElements l.domain p.2) rows → (r x y : ℕ) → holds (targets_of rows r x) y ≡ true → (x < l.domain) × (y < l.domain)
      pair_within [] all r x y h = absurd (true≢false (sym h))
      pair_within (p ∷ ps) all r x y h =
          let first = all 0 p (omega arith) in
          let others = pair_within ps (λ k d b. all (suc k) d (omega arith)) r x y in
          elim (cases_eq p.0 r) [
            | inr ne ↦ others (rw (ne_eqb p.0 r ne) at h)
            | inl e ↦ elim (cases_eq p.1 x) [
              | inr ne ↦ others (rw (eq-eqb p.0 r e, ne_eqb p.1 x ne) at h)
              | inl f ↦
                  (let t = rw (eq-eqb p.0 r e, eq-eqb p.1 x f) at h in
                  let b = first.1 in
                  (omega arith, All-contains (λ z. z < l.domain) p.2 y first.2.within (Contains_from_holds p.2 y t)))
            ]
          ]

  -- an element of a restriction leads to one of the filler
  pub some_elements : (e r c : ℕ) → slice_get o.nodes e ≡ Some (Exists r c) → (x : ℕ)
      → IsElement o l e x ↔ ((y : ℕ) × (holds (targets_of l.pairs r x) y ≡ true) × IsElement o l c y)
  some_elements e r c g x =
      let i = listed_interpretation o l in
      let tree = some_tree o w e r c g in
      let lr : r < length o.names.properties = (w.nodes e (Exists r c) g).0 in
      let size = size_is o w l in (
        λ h.
            let (y, ly, t, m) = subst (λ t. IsIn i t x) tree h.1 in
            let b : y < l.domain = subst (λ (n : ℕ). y < n) size ly in
            (y, sym (property_is o w l r x y lr) ∙ t, (b, m)),
        λ (y, t, f).
            let (lx, ly) = target_within r x y t in
            (lx, subst (λ t. IsIn i t x) (sym tree) (y, subst (λ (n : ℕ). y < n) (sym size) ly, property_is o w l r x y lr ∙ t, f.1)),
      )

  pub some_extension : (e r c : ℕ) → slice_get o.nodes e ≡ Some (Exists r c) → (fillers xs : List ℕ) → IsExtension o l c fillers → IsStrictlyIncreasing xs
      → ((x : ℕ) → (holds xs x ≡ true) ↔ Joined l.pairs r fillers x) → IsExtension o l e xs
  some_extension e r c g fillers xs filled up is = record {
    ascending = up;
    members = λ x. (
        let some = some_elements e r c g x in (
          λ h. (let (y, t, f) = (is x).0 h in some.1 (y, t, (filled.members y).0 f)),
          λ h. (let (y, t, f) = some.0 h in (is x).1 (y, t, (filled.members y).1 f)),
        ));
  }

  -- of the elements of an operand those that are of the intersection are all of these
  pub and_extension : (e : ℕ) (ds : List ℕ) → slice_get o.nodes e ≡ Some (And ds) → (d : ℕ) → Contains ds d → (xs those : List ℕ) → IsExtension o l d xs → AreThose o l e xs those
      → IsExtension o l e those
  and_extension e ds g d among xs those from are = record {
    ascending = are.ascending;
    members = λ x.
        let both = and_elements e ds g x in
        let P : ℕ → Type 0 = λ (d : ℕ). IsElement o l d x in (
          λ m. ((are.members x).0 m).1,
          λ h. (are.members x).1 ((from.members x).1 (All-contains P ds d (both.0 h) among), h),
        );
  }
