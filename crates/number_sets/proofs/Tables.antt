-- Lists that are made from a function of the place.
use Rattle.std.proofs.Common.{◌≡◌, ◌≢◌, ℕ, zero, suc, ◌+◌, ◌<◌, ◌≤◌, List, ◌∷◌, length, map, get_or, set, slice_get, Some, None, replicate, refl, sym, ap, ap₂, ◌∙◌, arith, add-zero, zero-add, inl, inr}
use Rattle.std.specs.List.{range_with_len}
use Rattle.std.proofs.lemmas.Bool.{cases_eq}
use Rattle.std.proofs.lemmas.List.{same_lists, length-map, length-set, get_or-set_same, get_or-set_other}
use Rattle.std.proofs.lemmas.Option.{get_or_from_slice_get}

abbrev pub table : {A : Type 0} → ℕ → (ℕ → A) → List A
table n f = map f (range_with_len 0 n)

at : {A : Type 0} (f : ℕ → A) (a n k : ℕ) → k < n → slice_get (map f (range_with_len a n)) k ≡ Some (f (a + k))
at f a zero k h = absurd (omega arith)
at f a (suc n) zero h = ap (λ x. Some (f x)) (sym (add-zero a))
at f a (suc n) (suc k) h = at f (a + 1) n k (omega arith) ∙ ap (λ x. Some (f x)) (omega arith)

pub slice_get-table : {A : Type 0} (n : ℕ) (f : ℕ → A) (k : ℕ) → k < n → slice_get (table n f) k ≡ Some (f k)
slice_get-table n f k h = at f 0 n k h ∙ ap (λ x. Some (f x)) (zero-add k)

past : {A : Type 0} (f : ℕ → A) (a n k : ℕ) → n ≤ k → slice_get (map f (range_with_len a n)) k ≡ None
past f a zero k h = refl
past f a (suc n) zero h = absurd (omega arith)
past f a (suc n) (suc k) h = past f (a + 1) n k (omega arith)

pub length-table : {A : Type 0} (n : ℕ) (f : ℕ → A) → length (table n f) ≡ n
length-table n f = length-map (range_with_len 0 n) f ∙ long 0 n
  where
    long : (a n : ℕ) → length (range_with_len a n) ≡ n
    long a zero = refl
    long a (suc n) = ap suc (long (a + 1) n)

pub get_or-table : {A : Type 0} (n : ℕ) (f : ℕ → A) (k : ℕ) (d : A) → k < n → get_or (table n f) k d ≡ f k
get_or-table n f k d h = get_or_from_slice_get (table n f) k (f k) d (slice_get-table n f k h)

-- one function has another value at one place
pub table_set : {A : Type 0} (n : ℕ) (f g : ℕ → A) (k : ℕ) (v : A) → k < n → g k ≡ v → ((q : ℕ) → q ≢ k → g q ≡ f q) → table n g ≡ set (table n f) k v
table_set n f g k v h same others =
    same_lists (table n g) (set (table n f) k v) (length-table n g ∙ sym (length-set (table n f) k v ∙ length-table n f))
    (λ q d lq.
    let within : q < n = omega (arith, length-table n g) in
    let inside : k < length (table n f) = omega (arith, length-table n f) in
    elim (cases_eq q k) [
      | inl e ↦ get_or-table n g q d within ∙ ap g e ∙ same ∙ sym (ap (λ j. get_or (set (table n f) k v) j d) e ∙ get_or-set_same (table n f) k v d inside)
      | inr ne ↦ get_or-table n g q d within ∙ others q ne ∙ sym (get_or-set_other (table n f) k q v d ne ∙ get_or-table n f q d within)
    ])

-- two functions agree
pub table_same : {A : Type 0} (n : ℕ) (f g : ℕ → A) → ((q : ℕ) → g q ≡ f q) → table n g ≡ table n f
table_same n f g h = go 0 n
  where
    go : (a n : ℕ) → map g (range_with_len a n) ≡ map f (range_with_len a n)
    go a zero = refl
    go a (suc n) = ap₂ (λ x xs. x ∷ xs) (h a) (go (a + 1) n)

-- one value everywhere
pub table_one : {A : Type 0} (n : ℕ) (f : ℕ → A) (v : A) → ((q : ℕ) → f q ≡ v) → table n f ≡ replicate n v
table_one {A} n f v h = go 0 n
  where
    go : (a n : ℕ) → map f (range_with_len a n) ≡ replicate n v
    go a zero = refl
    go a (suc n) = ap₂ (λ x xs. x ∷ xs) (h a) (go (a + 1) n)
