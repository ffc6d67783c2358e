-- Places of numbers in ascending lists.
use Rattle.std.proofs.Common.{◌≡◌, ◌≢◌, ℕ, zero, suc, ◌<◌, List, [], ◌∷◌, length, get_or, AllPairs, Ok, Err, refl, sym, ap, ◌∙◌, arith, inl, inr}
use Rattle.std.specs.List.Sorted.{IsBinarySearchResult}
use Rattle.std.specs.Ordering.{nat_cmp}
use Rattle.std.proofs.lemmas.Bool.{cases_lt, eq-eqb, ne_eqb}
use Rattle.std.proofs.lemmas.List.Sorted.{searched}
use Rattle.lemmas.proofs.Pairs.{AllPairs-head, AllPairs-tail}
use Rattle.interpretation_spec.proofs.Ascending.{no_descent}
use Rattle.listed_model.proofs.Members.{rising}
use Rattle.narrowing.specs.Narrowed.{place_among}

pub place_at : (xs : List ℕ) → AllPairs (λ x y. x < y) xs → (i : ℕ) → i < length xs → place_among xs (get_or xs i 0) ≡ i
place_at [] up i l = absurd (omega arith)
place_at (x ∷ xs) up zero l = rw (eq-eqb x x refl) refl
place_at (x ∷ xs) up (suc i) l =
    let k : i < length xs = omega arith in
    let below : x < get_or xs i 0 = AllPairs-head (λ a b. a < b) x xs up i 0 k in
    rw (ne_eqb x (get_or xs i 0) (λ e. omega arith)) (ap suc (place_at xs (AllPairs-tail (λ a b. a < b) x xs up) i k))

pub place_missing : (xs : List ℕ) (x : ℕ) → ((k : ℕ) → k < length xs → get_or xs k 0 ≢ x) → place_among xs x ≡ length xs
place_missing [] x none = refl
place_missing (y ∷ ys) x none = rw (ne_eqb y x (none 0 (omega arith))) (ap suc (place_missing ys x (λ k l. none (suc k) (omega arith))))

pub place_found : (xs : List ℕ) (x i : ℕ) → AllPairs (λ x y. x < y) xs → IsBinarySearchResult (λ y. nat_cmp y x) xs (Ok i) → i ≡ place_among xs x
place_found xs x i up found =
    let (l, e) = searched xs x (Ok i) found (no_descent xs (rising xs up)) in
    sym (place_at xs up i l) ∙ ap (place_among xs) e

pub place_not_found : (xs : List ℕ) (x i : ℕ) → AllPairs (λ x y. x < y) xs → IsBinarySearchResult (λ y. nat_cmp y x) xs (Err i) → length xs ≡ place_among xs x
place_not_found xs x i up found =
    let (within, below, above) = searched xs x (Err i) found (no_descent xs (rising xs up)) in
    sym (place_missing xs x (λ k l e.
    elim (cases_lt k i) [
      | inl b ↦ (let m = below k b in omega arith)
      | inr b ↦ (let m = above k b l in omega arith)
    ]))
