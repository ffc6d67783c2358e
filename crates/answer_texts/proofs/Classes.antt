-- Which classes have elements, and that nothing has to be told of the others.
use Rattle.std.proofs.Common.{slice_get, Some, All, ◌≡◌, ℕ, ◌+◌, ◌-◌, ◌<◌, Bool, true, false, cond, List, [], ◌∷◌, ◌++◌, length, get_or, refl, sym, ap, ◌∙◌, subst, arith}
use Rattle.std.specs.List.{filter, flat_map, list_any, range_with_len}
use Rattle.std.proofs.lemmas.Bool.{both_ways}
use Rattle.std.proofs.lemmas.List.Elements.{All-filter}
use Rattle.std.proofs.lemmas.List.FromFn.{get_or-range_with_len, length-range_with_len}
use Rattle.std.proofs.lemmas.List.Folds.{list_any_at}
use Rattle.std.proofs.lemmas.Option.{get_or_from_slice_get, slice_get_within}
use Rattle.interpretation_spec.specs.Members.{members_below}
use Rattle.interpretation_spec.specs.NumberedInterpretation.{IsNumberedInterpretation, NumberedInterpretation, members_of}
use Rattle.number_sets.specs.Members.{has}
use Rattle.answer_texts.specs.Pairs.{all_elements}
use Rattle.number_sets.proofs.Members.{has_within}

is_false : (b : Bool) → (b ≡ true → ⊥) → b ≡ false
is_false true never = absurd (never refl)
is_false false never = refl

-- ---- what is told of classes

-- no element is in a class without elements
pub has_none : (row : List Bool) → list_any (λ b. b) row ≡ false → (x : ℕ) → has row x ≡ false
has_none row none x = is_false (has row x) (λ set. both_ways (list_any (λ b. b) row) none (list_any_at (λ b. b) row x false (has_within row x set) set))

pub filter_none : (p : ℕ → Bool) → ((x : ℕ) → p x ≡ false) → (xs : List ℕ) → filter p xs ≡ []
filter_none p none [] = refl
filter_none p none (x ∷ xs) = ap (λ (b : Bool). cond b (x ∷ filter p xs) (filter p xs)) (none x) ∙ filter_none p none xs

told_case : (told : ℕ → List ℕ) (b : Bool) (c : ℕ) (kept rest : List ℕ) → (b ≡ false → told c ≡ []) → flat_map told kept ≡ flat_map told rest → flat_map told (cond b (c ∷ kept) kept) ≡ told c ++ flat_map told rest
told_case told true c kept rest none e = ap (λ (s : List ℕ). told c ++ s) e
told_case told false c kept rest none e = e ∙ ap (λ (s : List ℕ). s ++ flat_map told rest) (sym (none refl))

-- what is told of those that pass is told of all, where nothing is told of the others
pub filtered : (told : ℕ → List ℕ) (p : ℕ → Bool) → ((c : ℕ) → p c ≡ false → told c ≡ []) → (cs : List ℕ) → flat_map told (filter p cs) ≡ flat_map told cs
filtered told p none [] = refl
filtered told p none (c ∷ cs) = told_case told (p c) c (filter p cs) cs (none c) (filtered told p none cs)

-- ---- those of some that are in two sets

swap_case : (p q : Bool) (x : ℕ) (xs ys : List ℕ) → xs ≡ ys → cond p (cond q (x ∷ xs) xs) xs ≡ cond q (cond p (x ∷ ys) ys) ys
swap_case true true x xs ys e = ap (λ (zs : List ℕ). x ∷ zs) e
swap_case true false x xs ys e = e
swap_case false true x xs ys e = e
swap_case false false x xs ys e = e

filter_case : (p : ℕ → Bool) (q : Bool) (x : ℕ) (xs : List ℕ) → filter p (cond q (x ∷ xs) xs) ≡ cond q (cond (p x) (x ∷ filter p xs) (filter p xs)) (filter p xs)
filter_case p true x xs = refl
filter_case p false x xs = refl

pub filter_swap : (p q : ℕ → Bool) (xs : List ℕ) → filter p (filter q xs) ≡ filter q (filter p xs)
filter_swap p q [] = refl
filter_swap p q (x ∷ xs) =
    filter_case p (q x) x (filter q xs)
    ∙ swap_case (q x) (p x) x (filter p (filter q xs)) (filter q (filter p xs)) (filter_swap p q xs)
    ∙ sym (filter_case q (p x) x (filter p xs))

-- ---- numbers in a row

range_below : (a n : ℕ) → All (λ x. x < a + n) (range_with_len a n)
range_below a n i d l =
    let low : i < n = omega (arith, l, length-range_with_len a n) in
    omega (arith, low, get_or-range_with_len a n i d low)

-- one of those classes that have elements is one of all
pub class_below : (p : ℕ → Bool) (many : ℕ) (classes : List ℕ) (k : ℕ) → classes ≡ filter p (range_with_len 1 (many - 1)) → k < length classes → get_or classes k 0 < 1 + (many - 1)
class_below p many classes k are l =
    let P : ℕ → Type 0 = λ n. n < 1 + (many - 1) in
    subst (All P) (sym are) (All-filter p P (range_with_len 1 (many - 1)) (range_below 1 (many - 1))) k 0 l

-- ---- the members of a class

pub members_are : (i : NumberedInterpretation) → IsNumberedInterpretation i → (c : ℕ) (row : List Bool) → slice_get i.classes c ≡ Some row
    → members_below row (length row) ≡ filter (has (members_of i c)) (all_elements i)
members_are i valid c row there =
    let is : members_of i c ≡ row = get_or_from_slice_get i.classes c row [] there in
    let long : length row ≡ i.size = ap length (sym is) ∙ valid.classes c (slice_get_within i.classes c row there) in
    ap (λ (r : List Bool). filter (has r) (range_with_len 0 (length row))) (sym is) ∙ ap (λ (n : ℕ). filter (has (members_of i c)) (range_with_len 0 n)) long
