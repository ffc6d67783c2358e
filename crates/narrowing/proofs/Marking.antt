-- Sets of numbers with the numbers of one list after another put.
use Rattle.std.proofs.Common.{◌≡◌, ℕ, zero, suc, ◌+◌, ◌<◌, ◌≤◌, ◌⊎◌, inl, inr, ◌↔◌, Bool, true, false, cond, IsTrue, List, [], ◌∷◌, ◌++◌, length, get_or, map, take, slice_set, count_by, replicate, All, Contains, refl, sym, ap, ◌∙◌, subst, arith}
use Rattle.std.specs.List.{flat_map}
use Rattle.std.proofs.lemmas.Bool.{cases_eq, cases_lt, false≢true}
use Rattle.std.proofs.lemmas.List.{append-nil, get_or-set_same, get_or-set_other, get_or_past, length-set, map-append, set_past, take_more}
use Rattle.std.proofs.lemmas.List.Elements.{All-append, All-cons, All-contains, All-head, All-nil, Contains-append_right, Contains-get_or}
use Rattle.std.proofs.lemmas.List.Sums.{count_by-le-length, sum_by-cons, sum_by-set}
use Rattle.std.proofs.lemmas.List.Folds.{sum_by-replicate}
use Rattle.std.proofs.lemmas.Grind.{flat_map-append}
use Rattle.lemmas.proofs.Members.{Contains-none, Contains-first, Contains-later, Contains-cons_cases, Contains-one}
use Rattle.lemmas.proofs.Mapped.{Contains-map}
use Rattle.number_sets.specs.Members.{has}
use Rattle.narrowing.specs.Marked.{marked}
use Rattle.narrowing.proofs.Standing.{Contains-flat_map}

-- ---- what is put

pub length_marked : (row : List Bool) (xs : List ℕ) → length (marked row xs) ≡ length row
length_marked row [] = refl
length_marked row (x ∷ xs) = length_marked (slice_set row x true) xs ∙ length-set row x true

pub marked_append : (row : List Bool) (xs ys : List ℕ) → marked row (xs ++ ys) ≡ marked (marked row xs) ys
marked_append row [] ys = refl
marked_append row (x ∷ xs) ys = marked_append (slice_set row x true) xs ys

-- what is there was there before, or was put
pub was_or_put : (row : List Bool) (xs : List ℕ) (k : ℕ) → has (marked row xs) k ≡ true → (has row k ≡ true) ⊎ Contains xs k
was_or_put row [] k h = inl h
was_or_put row (x ∷ xs) k h =
    elim (was_or_put (slice_set row x true) xs k h) [
      | inr c ↦ inr (Contains-later x k xs c)
      | inl m ↦ elim (cases_eq x k) [
        | inl e ↦ inr (subst (λ (y : ℕ). Contains (x ∷ xs) y) e (Contains-first x xs))
        | inr d ↦ inl (sym (get_or-set_other row x k true false (λ e. d (sym e))) ∙ m)
      ]
    ]

-- what was there stays
still_there : (row : List Bool) (x k : ℕ) → has row k ≡ true → has (slice_set row x true) k ≡ true
still_there row x k h =
    elim (cases_eq x k) [
      | inr d ↦ get_or-set_other row x k true false (λ e. d (sym e)) ∙ h
      | inl e ↦ elim (cases_lt k (length row)) [
        | inl l ↦ subst (λ (y : ℕ). has (slice_set row x true) y ≡ true) e (get_or-set_same row x true false (omega arith))
        | inr l ↦ absurd (false≢true (sym (get_or_past row k false l) ∙ h))
      ]
    ]

stays : (row : List Bool) (xs : List ℕ) (k : ℕ) → has row k ≡ true → has (marked row xs) k ≡ true
stays row [] k h = h
stays row (x ∷ xs) k h = stays (slice_set row x true) xs k (still_there row x k h)

-- and what is put is there
pub is_put : (row : List Bool) (xs : List ℕ) (k : ℕ) → Contains xs k → k < length row → has (marked row xs) k ≡ true
is_put row [] k c l = absurd (Contains-none k c)
is_put row (x ∷ xs) k c l =
    elim (Contains-cons_cases x k xs c) [
      | inl e ↦ stays (slice_set row x true) xs k (subst (λ (y : ℕ). has (slice_set row x true) y ≡ true) e (get_or-set_same row x true false (omega arith)))
      | inr d ↦ (let long = length-set row x true in is_put (slice_set row x true) xs k d (omega arith))
    ]

-- ---- all of them

one_there : (b : Bool) (row : List Bool) → count_by (λ (b : Bool). b) (b ∷ row) ≡ cond b 1 0 + count_by (λ (b : Bool). b) row
one_there b row = sum_by-cons (λ (b : Bool). cond b 1 0) b row

-- where as many are there as there are numbers, each is there
pub each_there : (row : List Bool) → count_by (λ (b : Bool). b) row ≡ length row → (k : ℕ) → k < length row → has row k ≡ true
each_there [] h k l = absurd (omega arith)
each_there (true ∷ row) h zero l = refl
each_there (true ∷ row) h (suc k) l = (let first = one_there true row in each_there row (omega (arith, h, first)) k (omega arith))
each_there (false ∷ row) h k l = (let first = one_there false row in let few = count_by-le-length (λ (b : Bool). b) row in absurd (omega (arith, h, first, few)))

pub as_many : (row : List Bool) → ((k : ℕ) → k < length row → has row k ≡ true) → count_by (λ (b : Bool). b) row ≡ length row
as_many [] h = refl
as_many (true ∷ row) h = (let first = one_there true row in let rest = as_many row (λ k l. h (suc k) (omega arith)) in omega (arith, first, rest))
as_many (false ∷ row) h = absurd (false≢true (h 0 (omega arith)))

-- no more are there than were before and were put
put_one : (row : List Bool) (x : ℕ) → count_by (λ (b : Bool). b) (slice_set row x true) ≤ count_by (λ (b : Bool). b) row + 1
put_one row x =
    elim (cases_lt x (length row)) [
      | inl l ↦ (let e = sum_by-set (λ (b : Bool). cond b 1 0) row x true false l in omega (arith, e))
      | inr l ↦ (let e = ap (count_by (λ (b : Bool). b)) (set_past row x true l) in omega (arith, e))
    ]

pub put_few : (row : List Bool) (xs : List ℕ) → count_by (λ (b : Bool). b) (marked row xs) ≤ count_by (λ (b : Bool). b) row + length xs
put_few row [] = omega arith
put_few row (x ∷ xs) = (let first = put_one row x in let rest = put_few (slice_set row x true) xs in omega (arith, first, rest))

pub none_counted : (n : ℕ) → count_by (λ (b : Bool). b) (replicate n false) ≡ 0
none_counted n = (let e = sum_by-replicate (λ (b : Bool). cond b 1 0) n false in omega (arith, e))

-- ---- numbers in range that were put

-- the numbers are in range, and the new set is the old one with them put
pub record IsMarked (row : List Bool) (xs : List ℕ) (new : List Bool) : Type 0 where
  pub below : All (λ x. x < length row) xs
  pub after : new ≡ marked row xs

-- what holds of each holds of those among them
within : {X : Type 0} (P : X → Type 0) (xs ys : List X) → ((y : X) → Contains ys y → Contains xs y) → All P xs → All P ys
within P xs ys sub all k d l = All-contains P xs (get_or ys k d) all (sub (get_or ys k d) (Contains-get_or ys k d l))

module _ (row mid : List Bool) (xs ys : List ℕ) (answer : Bool) (m : IsMarked row xs mid) (in_range : IsTrue answer ↔ All (λ y. y < length mid) ys) where
  long : length mid ≡ length row
  long = ap length m.after ∙ length_marked row xs

  -- more numbers are put
  pub marked_more : (new : List Bool) → (IsTrue answer → new ≡ marked mid ys) → IsTrue answer → IsMarked row (xs ++ ys) new
  marked_more new after t = record {
    below = All-append (λ x. x < length row) xs ys m.below (subst (λ (n : ℕ). All (λ x. x < n) ys) long (in_range.0 t));
    after = after t ∙ ap (λ (r : List Bool). marked r ys) m.after ∙ sym (marked_append row xs ys);
  }

  -- they are not in range, and so not all of those that they are among
  pub refused : (all : List ℕ) → ((y : ℕ) → Contains ys y → Contains all y) → answer ≡ false → IsTrue false ↔ All (λ x. x < length row) all
  refused all sub e = (
    λ t. absurd (false≢true t),
    λ h. sym e ∙ in_range.1 (subst (λ (n : ℕ). All (λ x. x < n) ys) (sym long) (within (λ x. x < length row) all ys sub h)),
  )

  -- the last of them decide
  pub answered : IsTrue answer ↔ All (λ x. x < length row) (xs ++ ys)
  answered = (
    λ t. All-append (λ x. x < length row) xs ys m.below (subst (λ (n : ℕ). All (λ x. x < n) ys) long (in_range.0 t)),
    λ h. in_range.1 (subst (λ (n : ℕ). All (λ x. x < n) ys) (sym long) (within (λ x. x < length row) (xs ++ ys) ys (Contains-append_right xs ys) h)),
  )

-- what an answer says: whether the numbers are in range, and if so that they are put
pub record IsPut (row : List Bool) (xs : List ℕ) (answer : Bool) (new : List Bool) : Type 0 where
  pub in_range : IsTrue answer ↔ All (λ x. x < length row) xs
  pub after : IsTrue answer → new ≡ marked row xs

pub put_more : {row mid new : List Bool} {xs ys : List ℕ} {answer : Bool} → IsMarked row xs mid → IsPut mid ys answer new → IsTrue answer → IsMarked row (xs ++ ys) new
put_more {row} {mid} {new} {xs} {ys} {answer} m p t = marked_more row mid xs ys answer m p.in_range new p.after t

pub put_refused : {row mid new : List Bool} {xs ys : List ℕ} {answer : Bool} → IsMarked row xs mid → IsPut mid ys answer new → (all : List ℕ) → ((y : ℕ) → Contains ys y → Contains all y) → answer ≡ false → IsTrue false ↔ All (λ x. x < length row) all
put_refused {row} {mid} {new} {xs} {ys} {answer} m p all sub e = refused row mid xs ys answer m p.in_range all sub e

pub put_last : {row mid new : List Bool} {xs ys : List ℕ} {answer : Bool} → IsMarked row xs mid → IsPut mid ys answer new → IsPut row (xs ++ ys) answer new
put_last {row} {mid} {new} {xs} {ys} {answer} m p =
    record { in_range = answered row mid xs ys answer m p.in_range; after = λ t. (put_more m p t).after }

pub none_marked : (row : List Bool) → IsMarked row [] row
none_marked row = record { below = All-nil (λ x. x < length row); after = refl }

-- one number
pub one_in_range : (row : List Bool) (x : ℕ) (answer : Bool) → (IsTrue answer ↔ x < length row) → IsTrue answer ↔ All (λ y. y < length row) (x ∷ [])
one_in_range row x answer h = (
  λ t. All-cons (λ y. y < length row) x [] (h.0 t) (All-nil (λ y. y < length row)),
  λ all. h.1 (All-head (λ y. y < length row) x [] all),
)

-- ---- the numbers of one line more

pub flat_map_more : {X A : Type 0} (f : X → List A) (xs : List X) (i : ℕ) (x : X) (ys : List A) → i < length xs → x ≡ get_or xs i x → ys ≡ f x → flat_map f (take (i + 1) xs) ≡ flat_map f (take i xs) ++ ys
flat_map_more f xs i x ys l at same =
    ap (flat_map f) (take_more xs i x l)
    ∙ flat_map-append f (take i xs) (get_or xs i x ∷ [])
    ∙ ap (λ zs. flat_map f (take i xs) ++ zs) (append-nil (f (get_or xs i x)) ∙ sym (same ∙ ap f at))

pub map_more : {X A : Type 0} (f : X → A) (xs : List X) (i : ℕ) (d : X) → i < length xs → map f (take (i + 1) xs) ≡ map f (take i xs) ++ f (get_or xs i d) ∷ []
map_more f xs i d l = ap (map f) (take_more xs i d l) ∙ map-append f (take i xs) (get_or xs i d ∷ [])

-- ---- numbers of a line among those of all lines

pub one_among : {X : Type 0} (xs : List X) (i : ℕ) (d : X) → i < length xs → (y : X) → Contains (get_or xs i d ∷ []) y → Contains xs y
one_among {X} xs i d l y c = subst (λ (z : X). Contains xs z) (Contains-one (get_or xs i d) y c) (Contains-get_or xs i d l)

pub flat_map_among : {X A : Type 0} (f : X → List A) (xs : List X) (i : ℕ) (x : X) (ys : List A) → i < length xs → x ≡ get_or xs i x → ys ≡ f x → (y : A) → Contains ys y → Contains (flat_map f xs) y
flat_map_among {X} {A} f xs i x ys l at same y c =
    Contains-flat_map f xs (get_or xs i x) y (Contains-get_or xs i x l) (subst (λ (zs : List A). Contains zs y) (same ∙ ap f at) c)

pub map_among : {X A : Type 0} (f : X → A) (xs : List X) (i : ℕ) (d : X) → i < length xs → (y : A) → Contains (f (get_or xs i d) ∷ []) y → Contains (map f xs) y
map_among {X} {A} f xs i d l y c =
    subst (λ (z : A). Contains (map f xs) z) (Contains-one (f (get_or xs i d)) y c) (Contains-map f xs (get_or xs i d) (Contains-get_or xs i d l))
