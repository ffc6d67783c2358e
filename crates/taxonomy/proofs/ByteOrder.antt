-- Pairs of a name and its number in order give the numbers in the byte order of the names.
use Rattle.std.proofs.Common.{◌≡◌, ℕ, ◌+◌, ◌<◌, false, List, [], ◌∷◌, map, length, refl, subst, arith, Bor}
use Rattle.std.specs.declared.cmp.Ordering.{Ordering}
use Rattle.std.specs.declared.cmp.Ordering.TheVariants.{Less, Equal, Greater}
use Rattle.std.specs.Ordering.{is_lt, ordering_then, ordering_reverse, nat_cmp}
use Rattle.std.specs.Cmp.{IsTotalOrder}
use Rattle.std.specs.Cmp.Lexicographic.{slice_cmp}
use Rattle.std.specs.List.{All, range_with_len}
use Rattle.std.specs.List.Sorted.{IsPermutation, IsSortedBy, IsSorted}
use Rattle.std.proofs.lemmas.List.{get_or-map, length-map}
use Rattle.std.proofs.lemmas.List.Sorted.{IsPermutation-map, All-permutation, ranks_by}
use Rattle.std.proofs.lemmas.Cmp.{then_total, on_total, nat_list_cmp_total, nat_cmp_total, ranked, by_ranked}
use Rattle.axioms.specs.Ontology.{name_at}
use Rattle.taxonomy.specs.Texts.{by_name, in_byte_order, sorted}
use Rattle.taxonomy.proofs.Sorts.{is_sorted, Ascends-from_sort}

pub by_name_total : (names : List (List ℕ)) → IsTotalOrder (by_name names)
by_name_total names = then_total (on_total (name_at names) nat_list_cmp_total) nat_cmp_total

neither_less : (a b : Ordering) → a ≡ ordering_reverse b → is_lt a ≡ false → is_lt b ≡ false → a ≡ Equal
neither_less a Less e h g = cc
neither_less a Equal e h g = e
neither_less Less Greater e h g = cc
neither_less Equal Greater e h g = refl
neither_less Greater Greater e h g = cc

then_equal : (a b : Ordering) → ordering_then a b ≡ Equal → b ≡ Equal
then_equal Less b e = cc
then_equal Equal b e = e
then_equal Greater b e = cc

nat_equal : (x y : ℕ) (o : Ordering) → o ≡ nat_cmp x y → o ≡ Equal → x ≡ y
nat_equal x y o e h = by_ranked (x < y) (x ≡ y) (y < x) o (ranked x y o e) (λ f p. cc) (λ f p. p) (λ f p. cc)

pub by_name_tight : (names : List (List ℕ)) (x y : ℕ) → is_lt (by_name names x y) ≡ false → is_lt (by_name names y x) ≡ false → x ≡ y
by_name_tight names x y h g =
    nat_equal x y (nat_cmp x y) refl
    (then_equal (slice_cmp nat_cmp (name_at names x) (name_at names y)) (nat_cmp x y)
    (neither_less (by_name names x y) (by_name names y x) ((by_name_total names).antisymm x y) h g))

-- pairs by the name and then the number
abbrev pair_cmp : Bor (List ℕ) × ℕ → Bor (List ℕ) × ℕ → Ordering
pair_cmp p q = ordering_then (slice_cmp nat_cmp p.0.now q.0.now) (nat_cmp p.1 q.1)

numbers_sorted : (names : List (List ℕ)) (pairs : List (Bor (List ℕ) × ℕ)) → All (λ p. p.0.now ≡ name_at names p.1) pairs → IsSorted pair_cmp pairs → IsSortedBy (λ x y. is_lt (by_name names x y)) (map (λ p. p.1) pairs)
numbers_sorted names [] all up = λ k d low high. absurd (omega arith)
numbers_sorted names (p ∷ pairs) all up = λ k d low high.
    let long = length-map (p ∷ pairs) (λ (q : Bor (List ℕ) × ℕ). q.1) in
    let first = get_or-map (λ (q : Bor (List ℕ) × ℕ). q.1) (p ∷ pairs) k p d (omega arith) in
    let second = get_or-map (λ (q : Bor (List ℕ) × ℕ). q.1) (p ∷ pairs) (k + 1) p d (omega arith) in
    let first_name = all k p (omega arith) in
    let second_name = all (k + 1) p (omega arith) in
    let sorted_here = up k p low (omega arith) in
    rw (first, second, ← first_name, ← second_name) sorted_here

pub sorted_is : (names : List (List ℕ)) (numbers : List ℕ) (before after : List (Bor (List ℕ) × ℕ)) → map (λ p. p.1) before ≡ numbers → All (λ p. p.0.now ≡ name_at names p.1) before → IsPermutation before after → IsSorted pair_cmp after → map (λ p. p.1) after ≡ sorted (by_name names) numbers
sorted_is names ns before after numbers all moved up =
    is_sorted (by_name names) (ranks_by (by_name_total names) (λ x. x)) (by_name_tight names) ns (map (λ p. p.1) after)
    (subst (λ ns. IsPermutation ns (map (λ p. p.1) after)) numbers (IsPermutation-map (λ p. p.1) before after moved))
    (Ascends-from_sort (by_name names) (ranks_by (by_name_total names) (λ x. x)) (map (λ p. p.1) after)
    (numbers_sorted names after (All-permutation (λ p. p.0.now ≡ name_at names p.1) before after moved all) up))

pub order_is : (names : List (List ℕ)) (before after : List (Bor (List ℕ) × ℕ)) → map (λ p. p.1) before ≡ range_with_len 0 (length names) → All (λ p. p.0.now ≡ name_at names p.1) before → IsPermutation before after → IsSorted pair_cmp after → map (λ p. p.1) after ≡ in_byte_order names
order_is names before after numbers all moved up = sorted_is names (range_with_len 0 (length names)) before after numbers all moved up
