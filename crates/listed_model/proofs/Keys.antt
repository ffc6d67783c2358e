-- What holds of each key of a set that is kept in order.
use Rattle.std.proofs.Common.{◌≡◌, ℕ, List, [], ◌∷◌, true, All, Ordering, Less, Equal, Greater, refl, ap₂, ◌∙◌, subst}
use Rattle.std.specs.Ordering.{match_ordering, nat_cmp, ordering_then}
use Rattle.std.specs.List.{list_any}
use Rattle.std.specs.Cmp.{Equal-is}
use Rattle.std.specs.BTreeMap.{is_at}
use Rattle.std.specs.BTreeSet.{insert_key}
use Rattle.std.proofs.lemmas.List.Elements.{All-nil, All-cons, All-head, All-tail, All-contains}
use Rattle.std.proofs.lemmas.List.Folds.{Any-from_list_any}
use Rattle.std.proofs.lemmas.List.{get_or_default}
use Rattle.std.proofs.lemmas.Map.Lookups.{exact_unsigned}

-- a key that is found has it
pub found_key : {K : Type 0} (P : K → Type 0) (compare : K → Ordering) (keys : List K) (key : K) → ((x : K) → compare x ≡ Equal → x ≡ key) → All P keys → list_any (is_at compare) keys ≡ true → P key
found_key P compare keys key exact all h =
    let (k, x, l, e, t) = Any-from_list_any (is_at compare) keys h in
    let same : x ≡ key = exact x ((Equal-is (compare x)).0 t) in
    subst P same (All-contains P keys x all (k, l, get_or_default keys k x x l ∙ e))

-- a key that has it is put in
pub put_key : {K : Type 0} (P : K → Type 0) (cmp : K → K → Ordering) (keys : List K) (key : K) → All P keys → P key → All P (insert_key cmp keys key)
put_key P cmp [] key all p = All-cons P key [] p (All-nil P)
put_key P cmp (x ∷ xs) key all p = go (cmp key x) (put_key P cmp xs key (All-tail P x xs all) p)
  where
    go : (o : Ordering) → All P (insert_key cmp xs key) → All P (match_ordering o (key ∷ x ∷ xs) (x ∷ xs) (x ∷ insert_key cmp xs key))
    go Less rest = All-cons P key (x ∷ xs) p all
    go Equal rest = all
    go Greater rest = All-cons P x (insert_key cmp xs key) (All-head P x xs all) rest

-- pairs that compare as equal are equal
pub exact_pair : (x y : ℕ × ℕ) → ordering_then (nat_cmp x.0 y.0) (nat_cmp x.1 y.1) ≡ Equal → x ≡ y
exact_pair x y h = go (nat_cmp x.0 y.0) refl h
  where
    go : (o : Ordering) → nat_cmp x.0 y.0 ≡ o → ordering_then o (nat_cmp x.1 y.1) ≡ Equal → x ≡ y
    go Less e t = cc
    go Equal e t = ap₂ (λ (a b : ℕ). (a, b)) (exact_unsigned x.0 y.0 e) (exact_unsigned x.1 y.1 t)
    go Greater e t = cc
