-- Rows with many targets as sets of numbers, and what they cover.
use Rattle.std.proofs.Common.{◌≡◌, ◌↔◌, ◌⊎◌, inl, inr, ℕ, ◌<◌, ◌≤◌, List, [], ◌∷◌, ◌++◌, Bool, true, false, length, map, take, get_or, slice_get, Some, Contains, sym, ap, ap₂, ◌∙◌, subst, arith}
use Rattle.std.specs.List.{list_any}
use Rattle.std.specs.List.Sorted.{IsNonDecreasing, IsStrictlyIncreasing}
use Rattle.std.proofs.lemmas.Bool.{cases_lt, false_from_ne_true}
use Rattle.std.proofs.lemmas.List.{take_all, get_or-take, get_or_default, length-take-le}
use Rattle.std.proofs.lemmas.List.Elements.{All-push, All-contains}
use Rattle.std.proofs.lemmas.List.Folds.{Any-from_list_any}
use Rattle.lemmas.proofs.Members.{Contains-from_slice_get}
use Rattle.certificate.specs.View.{pair_row_of, targets_in}
use Rattle.certificate.specs.declared.listed.PairRow.{PairRow}
use Rattle.interpretation_spec.proofs.Ascending.{no_descent}
use Rattle.number_sets.specs.Members.{has}
use Rattle.listed_model.specs.declared.wide.WideRow.{WideRow}
use Rattle.listed_model.specs.Listing.{targets_of}
use Rattle.listed_model.specs.Members.{holds}
use Rattle.listed_model.specs.Rows.{ArePairRows}
use Rattle.listed_model.specs.WideRows.{AreClosed, AreWide, HasTargets, LeadsInto}
use Rattle.listed_model.proofs.Members.{holds_from_Contains, Contains_from_holds}
use Rattle.listed_model.proofs.Walks.{row_targets}

pub holds_of_taken : (xs : List ℕ) (n x : ℕ) → holds (take n xs) x ≡ true → holds xs x ≡ true
holds_of_taken xs n x h =
    elim (cases_lt n (length xs)) [
      | inr m ↦ subst (λ (ys : List ℕ). holds ys x ≡ true) (take_all n xs m) h
      | inl m ↦
          (let (k, l, e) = Contains_from_holds (take n xs) x h in
          let long = length-take-le n xs (omega arith) in
          let b : k < n = omega arith in
          holds_from_Contains xs x (k, omega arith, sym (get_or-take n xs k x b) ∙ e))
    ]

-- ascending lists do not fall
pub no_fall : (xs : List ℕ) → IsStrictlyIncreasing xs → IsNonDecreasing xs
no_fall xs up i j d l m =
    let a = get_or_default xs i d 0 (omega arith) in
    let b = get_or_default xs j d 0 m in
    let n = no_descent xs up i j l m in
    omega arith

-- where each number that both have stands from the places on, and one of these is an end, there is none
pub none_common : (first second : List ℕ) (i j : ℕ) → (length first ≤ i) ⊎ (length second ≤ j)
    → ((k m : ℕ) → k < length first → m < length second → get_or first k 0 ≡ get_or second m 0 → (i ≤ k) × (j ≤ m))
    → false ≡ list_any (holds second) first
none_common first second i j end passed = sym (false_from_ne_true (list_any (holds second) first) (λ h.
    let (k, y, l, e, t) = Any-from_list_any (holds second) first h in
    let (m, lm, em) = Contains_from_holds second y t in
    let p = passed k m l lm (get_or_default first k 0 y l ∙ e ∙ sym (get_or_default second m 0 y lm ∙ em)) in
    elim end [ inl a ↦ omega arith | inr a ↦ omega arith ]))

-- ---- rows of a property

module _ (rows of_property : List PairRow) (r : ℕ) (given : ArePairRows rows) (those : (row : PairRow) → Contains of_property row ↔ (Contains rows row × (row.property.0 ≡ r))) where
  -- a row of the property has ascending targets
  pub row_rises : (k : ℕ) (row : PairRow) → slice_get of_property k ≡ Some row → IsStrictlyIncreasing (targets_in row.targets)
  row_rises k row g =
      let ((m, l, e), p) = (those row).0 (Contains-from_slice_get of_property k row g) in
      subst (λ (w : PairRow). IsStrictlyIncreasing (targets_in w.targets)) e (given.targets m row l)

  -- a set with the targets of a row
  pub one_wide : (k : ℕ) (row : PairRow) → slice_get of_property k ≡ Some row → (one : WideRow) → one.property ≡ row.property → one.source ≡ row.source
      → ((y : ℕ) → has one.targets y ≡ holds (targets_in row.targets) y) → HasTargets (map pair_row_of rows) one
  one_wide k row g one p s t = λ y.
      let of : row.property.0 ≡ r = ((those row).0 (Contains-from_slice_get of_property k row g)).1 in
      let is : targets_of (map pair_row_of rows) one.property.0 one.source ≡ targets_in row.targets =
      ap₂ (targets_of (map pair_row_of rows)) (ap (λ q. q.0) p ∙ of) s ∙ row_targets rows of_property r given those k row g in
      t y ∙ ap (λ ts. holds ts y) (sym is)

pub wide_push : (rows : List (ℕ × ℕ × List ℕ)) (n : ℕ) (wide : List WideRow) (one : WideRow) → AreWide rows n wide → HasTargets rows one → length one.targets ≡ n → AreWide rows n (wide ++ one ∷ [])
wide_push rows n wide one old is long = record {
  each = All-push (HasTargets rows) wide one old.each is;
  long = All-push (λ (w : WideRow). length w.targets ≡ n) wide one old.long long;
}

-- one of the sets, by its property and source
pub wide_has : (rows : List (ℕ × ℕ × List ℕ)) (n : ℕ) (wide : List WideRow) (own : WideRow) (r x : ℕ) → AreWide rows n wide → Contains wide own → own.property.0 ≡ r → own.source ≡ x
    → (y : ℕ) → has own.targets y ≡ holds (targets_of rows r x) y
wide_has rows n wide own r x given there p s y = All-contains (HasTargets rows) wide own given.each there y ∙ ap (λ ts. holds ts y) (ap₂ (targets_of rows) p s)

-- ---- what is covered

-- the targets as a set, and their sources in another order
pub closed_by_set : (rows : List (ℕ × ℕ × List ℕ)) (r : ℕ) (targets ordered : List ℕ) (members : List Bool)
    → ((y : ℕ) → holds ordered y ≡ holds targets y) → ((y : ℕ) → has members y ≡ holds targets y)
    → ((y : ℕ) → holds ordered y ≡ true → LeadsInto rows r members y) ↔ AreClosed rows r targets
closed_by_set rows r targets ordered members same is = (
  λ h y t z u. sym (is z) ∙ h y (same y ∙ t) z u,
  λ h y t z u. is z ∙ h y (sym (same y) ∙ t) z u,
)
