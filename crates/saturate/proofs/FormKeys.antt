-- Forms are found by their keys: no two have one key, and a search in the order of keys finds each.
use Rattle.std.proofs.Common.{◌≡◌, ◌↔◌, ℕ, ◌+◌, ◌<◌, ◌==◌, ⊎_elim, Bool, true, false, if◌then◌else◌, List, [], ◌∷◌, ◌++◌, Some, map, slice_get, take, get_or, length, IsTrue, refl, sym, arith, ap, ap₂, subst, ◌∙◌}
use Rattle.std.specs.List.{Contains}
use Rattle.std.specs.List.Sorted.{IsBinarySearchResult, IsPermutation, IsSearchInRange, IsSorted}
use Rattle.std.specs.Ordering.{bool_cmp, nat_cmp, ordering_then}
use Rattle.std.specs.Cmp.{IsTotalOrder, bool_cmp_total}
use Rattle.std.specs.Result.{is_ok}
use Rattle.std.specs.declared.cmp.Ordering.{Ordering}
use Rattle.std.specs.declared.cmp.Ordering.TheVariants.{Less, Equal, Greater}
use Rattle.std.specs.declared.result.Result.{Result}
use Rattle.std.specs.declared.result.Result.TheVariants.{Ok, Err}
use Rattle.std.proofs.lemmas.Bool.{cases_lt}
use Rattle.std.proofs.lemmas.Cmp.{by_ranked, nat_cmp_total, on_total, ranked, then_total, tied_itself}
use Rattle.std.proofs.lemmas.List.{map_push}
use Rattle.std.proofs.lemmas.List.Sorted.{Contains-permutation, IsPermutation-sym, searchable_from_sorted}
use Rattle.lemmas.proofs.Mapped.{Contains-map, slice_get_map_from}
use Rattle.lemmas.proofs.Places.{take_push}
use Rattle.lemmas.proofs.Members.{Contains-from_slice_get, slice_get-from_Contains}
use Rattle.normal_forms.specs.StoredForms.{class_from, property_from}
use Rattle.normal_forms.specs.declared.forms.Class2.{Class2}
use Rattle.normal_forms.specs.declared.forms.Class2.TheVariants.{Expr, Partial}
use Rattle.normal_forms.specs.declared.forms.PropId2.{PropId2}
use Rattle.normal_forms.specs.declared.forms.PropId2.TheVariants as properties
use Rattle.normal_forms.specs.declared.forms.Form.{Form}
use Rattle.normal_forms.specs.declared.forms.Form.TheVariants.{N1, N2, N3, N4, N5, N6, N7, N8, N9, N10, N12}
use Rattle.saturate.specs.FormKeys.{FormKey, NameKey, class_key, form_key, key_cmp, name_cmp, property_key}

-- ---- no two forms have one key

abbrev class_of : NameKey → Class2
class_of k = class_from k.0 k.1

abbrev property_of : NameKey → PropId2
property_of k = property_from k.0 k.1

-- the form with that key
abbrev form_with : FormKey → Form
form_with k =
    if k.0 == 1 then N1 (class_of k.1) (class_of k.2)
    else if k.0 == 2 then N2 (class_of k.1) (class_of k.2) (class_of k.3)
    else if k.0 == 3 then N3 (class_of k.1) (record { 0 = k.2.1 }) (record { 0 = k.3.1 })
    else if k.0 == 4 then N4 (record { 0 = k.1.1 }) (class_of k.2) (class_of k.3)
    else if k.0 == 5 then N5 (record { 0 = k.1.1 }) (record { 0 = k.2.1 })
    else if k.0 == 6 then N6 (property_of k.1) (property_of k.2) (property_of k.3)
    else if k.0 == 7 then N7 (record { 0 = k.1.1 })
    else if k.0 == 8 then N8 (record { 0 = k.1.1 }) (class_of k.2)
    else if k.0 == 9 then N9 (record { 0 = k.1.1 }) (record { 0 = k.2.1 }) (record { 0 = k.3.1 })
    else if k.0 == 10 then N10 (record { 0 = k.1.1 }) (record { 0 = k.2.1 })
    else N12 (record { 0 = k.1.1 }) (record { 0 = k.2.1 }) (record { 0 = k.3.1 })

class_back : (c : Class2) → class_of (class_key c) ≡ c
class_back (Expr e) = refl
class_back (Partial n) = refl

property_back : (p : PropId2) → property_of (property_key p) ≡ p
property_back (properties.Property r) = refl
property_back (properties.Partial n) = refl

form_back : (form : Form) → form_with (form_key form) ≡ form
form_back (N1 a b) = ap₂ N1 (class_back a) (class_back b)
form_back (N2 a b c) = rw (class_back a, class_back b, class_back c) refl
form_back (N3 a r b) = ap (λ a. N3 a r b) (class_back a)
form_back (N4 r a b) = ap₂ (N4 r) (class_back a) (class_back b)
form_back (N5 r s) = refl
form_back (N6 r s t) = rw (property_back r, property_back s, property_back t) refl
form_back (N7 r) = refl
form_back (N8 a b) = ap (N8 a) (class_back b)
form_back (N9 a r b) = refl
form_back (N10 a b) = refl
form_back (N12 a r b) = refl

-- the keys of one form more
pub keys_more : (forms : List Form) (n : ℕ) (form : Form) (keys : List FormKey) (key : FormKey) → slice_get forms n ≡ Some form → keys ≡ map form_key (take n forms) → key ≡ form_key form → keys ++ key ∷ [] ≡ map form_key (take (n + 1) forms)
keys_more forms n form keys key at before is =
    ap₂ (λ keys key. keys ++ key ∷ []) before is ∙ sym (map_push form_key (take n forms) form) ∙ ap (map form_key) (sym (take_push forms n form at))

-- the keys are those of the forms in any order
pub keys_of : (forms : List Form) (keys : List FormKey) → IsPermutation (map form_key forms) keys → (form : Form) → Contains keys (form_key form) ↔ Contains forms form
keys_of forms keys moved form = (
  λ there.
      let at = slice_get-from_Contains (map form_key forms) (form_key form) (Contains-permutation keys (map form_key forms) (form_key form) (IsPermutation-sym (map form_key forms) keys moved) there) in
      let (other, here, same) = slice_get_map_from form_key forms at.0 (form_key form) at.1 in
      subst (Contains forms) (sym (form_back other) ∙ ap form_with same ∙ form_back form) (Contains-from_slice_get forms at.0 other here),
  λ there. Contains-permutation (map form_key forms) keys (form_key form) moved (Contains-map form_key forms form there),
)

-- ---- a search in the order of keys

name_total : IsTotalOrder name_cmp
name_total = then_total (on_total (λ k. k.0) bool_cmp_total) (on_total (λ k. k.1) nat_cmp_total)

key_total : IsTotalOrder key_cmp
key_total = then_total (then_total (then_total (on_total (λ k. k.0) nat_cmp_total) (on_total (λ k. k.1) name_total)) (on_total (λ k. k.2) name_total)) (on_total (λ k. k.3) name_total)

both_equal : (a b : Ordering) → ordering_then a b ≡ Equal → (a ≡ Equal) × (b ≡ Equal)
both_equal Less b e = cc
both_equal Equal b e = (refl, e)
both_equal Greater b e = cc

bool_tight : (x y : Bool) → bool_cmp x y ≡ Equal → x ≡ y
bool_tight false false e = refl
bool_tight false true e = cc
bool_tight true false e = cc
bool_tight true true e = refl

nat_tight : (x y : ℕ) → nat_cmp x y ≡ Equal → x ≡ y
nat_tight x y e = by_ranked (x < y) (x ≡ y) (y < x) (nat_cmp x y) (ranked x y (nat_cmp x y) refl) (λ f p. cc) (λ f p. p) (λ f p. cc)

name_tight : (x y : NameKey) → name_cmp x y ≡ Equal → x ≡ y
name_tight x y e = let (first, second) = both_equal (bool_cmp x.0 y.0) (nat_cmp x.1 y.1) e in ap₂ (λ p n. (p, n)) (bool_tight x.0 y.0 first) (nat_tight x.1 y.1 second)

key_tight : (x y : FormKey) → key_cmp x y ≡ Equal → x ≡ y
key_tight x y e =
    let (rest, third) = both_equal _ (name_cmp x.3 y.3) e in
    let (kind_first, second) = both_equal _ (name_cmp x.2 y.2) rest in
    let (kind, first) = both_equal (nat_cmp x.0 y.0) (name_cmp x.1 y.1) kind_first in
    rw (nat_tight x.0 y.0 kind, name_tight x.1 y.1 first, name_tight x.2 y.2 second, name_tight x.3 y.3 third) refl

Less-Equal : Less ≡ Equal → ⊥
Less-Equal e = cc

Greater-Equal : Greater ≡ Equal → ⊥
Greater-Equal e = cc

-- a binary search finds a key that is there
pub found_there : (keys : List FormKey) (key : FormKey) (r : Result ℕ ℕ) → IsSorted key_cmp keys → IsSearchInRange r (length keys) → IsBinarySearchResult (λ k. key_cmp k key) keys r → IsTrue (is_ok r) ↔ Contains keys key
found_there keys key (Ok i) up within found = (λ _. (i, within, key_tight (get_or keys i key) key (found key)), λ _. refl)
found_there keys key (Err i) up within found =
    let point = found (searchable_from_sorted key_total (λ k. k) keys key up) in (
      λ yes. cc,
      λ there.
          let (k, l, e) = there in
          let equal : key_cmp (get_or keys k key) key ≡ Equal = ap (λ other. key_cmp other key) e ∙ tied_itself key_total key in
          absurd (⊎_elim
          (λ low. Less-Equal (sym (point.0 k key (omega arith) low) ∙ equal))
          (λ high. Greater-Equal (sym (point.1 k key high l) ∙ equal))
          (cases_lt k i)),
    )
