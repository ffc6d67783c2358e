-- What rows say of pairs and of paths.
use Rattle.std.proofs.Common.{◌≡◌, ◌↔◌, ◌⊎◌, inl, inr, ℕ, ◌+◌, ◌<◌, ◌≤◌, List, [], ◌∷◌, ◌++◌, true, length, map, take, get_or, slice_get, Some, Contains, refl, sym, ap, ◌∙◌, subst, arith}
use Rattle.std.specs.List.{list_all}
use Rattle.std.proofs.lemmas.Bool.{cases_lt}
use Rattle.std.proofs.lemmas.List.{take_more}
use Rattle.std.proofs.lemmas.List.Elements.{Contains-get_or}
use Rattle.std.proofs.lemmas.Option.{slice_get_within, same_Some}
use Rattle.lemmas.proofs.Members.{slice_get-from_Contains, Contains-from_slice_get}
use Rattle.certificate.specs.View.{pair_row_of, targets_in}
use Rattle.certificate.specs.declared.listed.PairRow.{PairRow}
use Rattle.listed_model.specs.Listing.{targets_of}
use Rattle.listed_model.specs.Members.{holds}
use Rattle.listed_model.specs.Rows.{AllBefore, ArePairRows, HasListedPath}
use Rattle.std.specs.List.Sorted.{IsPermutation}
use Rattle.std.proofs.lemmas.List.Sorted.{Contains-permutation, IsPermutation-sym, IsPermutation-map}
use Rattle.listed_model.proofs.Members.{same_holds, holds_from_Contains, Contains_from_holds}
use Rattle.listed_model.proofs.Found.{targets_found, target_row}
use Rattle.listed_model.proofs.Extensions.{list_all_member, list_all_from, holds_push}

pub all_before_next : {X : Type 0} (P : X → Type 0) (xs : List X) (n : ℕ) (x : X) → slice_get xs n ≡ Some x → AllBefore P xs n → P x → AllBefore P xs (n + 1)
all_before_next P xs n x g h p k y l e =
    elim (cases_lt k n) [
      | inl b ↦ h k y b e
      | inr b ↦ (let s : k ≡ n = omega arith in subst P (same_Some x y (sym g ∙ ap (slice_get xs) (sym s) ∙ e)) p)
    ]

pub list_all_means : (list xs : List ℕ) → (list_all (holds list) xs ≡ true) ↔ ((y : ℕ) → holds xs y ≡ true → holds list y ≡ true)
list_all_means list xs = (
  λ h y t. list_all_member (holds list) xs y (Contains_from_holds xs y t) h,
  λ h. list_all_from (holds list) xs (λ k d l. h (get_or xs k d) (holds_from_Contains xs (get_or xs k d) (Contains-get_or xs k d l))),
)

-- a member of a prefix that is one longer
pub holds_next : (xs : List ℕ) (i d x : ℕ) → i < length xs → (holds (take (i + 1) xs) x ≡ true) ↔ ((holds (take i xs) x ≡ true) ⊎ (get_or xs i d ≡ x))
holds_next xs i d x l = rw (take_more xs i d l) (holds_push (take i xs) (get_or xs i d) x)

module _ (rows of_property : List PairRow) (r : ℕ) (given : ArePairRows rows) (those : (row : PairRow) → Contains of_property row ↔ (Contains rows row × (row.property.0 ≡ r))) where
  -- a row of the property says which targets its source has
  pub row_targets : (k : ℕ) (row : PairRow) → slice_get of_property k ≡ Some row → targets_of (map pair_row_of rows) r row.source ≡ targets_in row.targets
  row_targets k row g =
      let (c, p) = (those row).0 (Contains-from_slice_get of_property k row g) in
      let (m, h) = slice_get-from_Contains rows row c in
      ap (λ s. targets_of (map pair_row_of rows) s row.source) (sym p) ∙ targets_found rows given.ordered m row h

  pub row_pair : (k : ℕ) (row : PairRow) → slice_get of_property k ≡ Some row → (y : ℕ) → holds (targets_in row.targets) y ≡ true → holds (targets_of (map pair_row_of rows) r row.source) y ≡ true
  row_pair k row g y t = ap (λ ts. holds ts y) (row_targets k row g) ∙ t

  -- what rows say holds of each pair
  pub each_pair : (n : ℕ) → length of_property ≤ n → (Q : ℕ → ℕ → Type 0) → AllBefore (λ (row : PairRow). (y : ℕ) → holds (targets_in row.targets) y ≡ true → Q row.source y) of_property n
      → (x y : ℕ) → holds (targets_of (map pair_row_of rows) r x) y ≡ true → Q x y
  each_pair n all Q h x y t =
      let (m, row, g, p, s, u) = target_row rows r x y t in
      let (k, i) = slice_get-from_Contains of_property row ((those row).1 (Contains-from_slice_get rows m row g, p)) in
      let within = slice_get_within of_property k row i in
      subst (λ (z : ℕ). Q z y) s (h k row (omega arith) i y u)

  -- a row of the property has a target
  pub row_some : (k : ℕ) (row : PairRow) → slice_get of_property k ≡ Some row → (y : ℕ) × (holds (targets_in row.targets) y ≡ true)
  row_some k row g =
      let (c, p) = (those row).0 (Contains-from_slice_get of_property k row g) in
      let (m, l, e) = c in
      let some : 0 < length (targets_in row.targets) = subst (λ (w : PairRow). 0 < length (targets_in w.targets)) e (given.some m row l) in
      (get_or (targets_in row.targets) 0 0, holds_from_Contains (targets_in row.targets) (get_or (targets_in row.targets) 0 0) (Contains-get_or (targets_in row.targets) 0 0 some))

-- a path that is one property longer
pub path_push : (rows : List (ℕ × ℕ × List ℕ)) (rs : List ℕ) (r x y : ℕ) → HasListedPath rows (rs ++ r ∷ []) x y ↔ ((z : ℕ) × HasListedPath rows rs x z × (holds (targets_of rows r z) y ≡ true))
path_push rows [] r x y = (
  λ (z, t, e). (x, refl, subst (λ (v : ℕ). holds (targets_of rows r x) v ≡ true) e t),
  λ (z, e, t). (y, subst (λ (v : ℕ). holds (targets_of rows r v) y ≡ true) (sym e) t, refl),
)
path_push rows (q ∷ rs) r x y = (
  λ (z, t, p). (let (v, p', t') = (path_push rows rs r z y).0 p in (v, (z, t, p'), t')),
  λ (v, p, t'). (let (z, t, p') = p in (z, t, (path_push rows rs r z y).1 (v, p', t'))),
)

-- numbers that were sorted by counts beside them
pub sorted_numbers : (counted sorted : List (ℕ × ℕ)) (numbers seconds : List ℕ) → IsPermutation counted sorted → map (λ (p : ℕ × ℕ). p.1) counted ≡ numbers → seconds ≡ map (λ (p : ℕ × ℕ). p.1) sorted → (x : ℕ) → holds seconds x ≡ holds numbers x
sorted_numbers counted sorted numbers seconds moved first second x =
    let all = IsPermutation-map (λ (p : ℕ × ℕ). p.1) counted sorted moved in
    ap (λ xs. holds xs x) second
    ∙ same_holds (map (λ (p : ℕ × ℕ). p.1) sorted) (map (λ (p : ℕ × ℕ). p.1) counted) x
    (Contains-permutation (map (λ (p : ℕ × ℕ). p.1) sorted) (map (λ (p : ℕ × ℕ). p.1) counted) x (IsPermutation-sym (map (λ (p : ℕ × ℕ). p.1) counted) (map (λ (p : ℕ × ℕ). p.1) sorted) all))
    (Contains-permutation (map (λ (p : ℕ × ℕ). p.1) counted) (map (λ (p : ℕ × ℕ). p.1) sorted) x all)
    ∙ ap (λ xs. holds xs x) first
