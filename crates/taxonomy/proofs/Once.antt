-- Lists in which no number stands twice.
use Rattle.std.proofs.Common.{◌≡◌, ℕ, zero, suc, ◌+◌, ◌<◌, ◌≤◌, List, [], ◌∷◌, ◌++◌, length, Bool, true, false, not, cond, eqb, ltb, ◌&&◌, ◌||◌, inl, inr, refl, sym, ap, ap₂, ◌∙◌, ⊎_elim, arith, zero-add}
use Rattle.std.specs.Prelude.{◌==◌}
use Rattle.std.specs.List.{filter, list_any, range_with_len}
use Rattle.std.proofs.lemmas.Bool.{and_parts, both_ways, cases_Bool, cases_eq, cases_lt, eq-eqb, eqb-true, ne_eqb, false_from_ne_true, false≢true, le-ltb, lt-ltb, not-true, or_cases, or_left, or_right}
use Rattle.std.proofs.lemmas.List.Folds.{list_any-append, list_any_at}
use Rattle.std.proofs.lemmas.List.FromFn.{get_or-range_with_len}
use Rattle.number_sets.specs.Members.{has}
use Rattle.taxonomy.specs.Texts.{numbers_below}
use Rattle.taxonomy.specs.Superclasses.{is_among, AreOnce}
use Rattle.taxonomy.proofs.Told.{has_beyond, length-numbers}

-- ---- tests of lists

pub list_any-filter : (p q : ℕ → Bool) (xs : List ℕ) → list_any q (filter p xs) ≡ list_any (λ x. p x && q x) xs
list_any-filter p q [] = refl
list_any-filter p q (x ∷ xs) = by_test (p x) (filter p xs) (list_any (λ y. p y && q y) xs) (list_any-filter p q xs)
  where
    by_test : (b : Bool) (rest : List ℕ) (done : Bool) → list_any q rest ≡ done → list_any q (cond b (x ∷ rest) rest) ≡ ((b && q x) || done)
    by_test true rest done e = ap (λ r. q x || r) e
    by_test false rest done e = e

-- the test of a number, where t is another test of the numbers
pub at_one : (t : ℕ → Bool) (k : ℕ) (xs : List ℕ) → list_any (λ x. t x && (x == k)) xs ≡ (is_among xs k && t k)
at_one t k [] = refl
at_one t k (x ∷ xs) = go (eqb x k) refl (at_one t k xs)
  where
    found : (b rest : Bool) → ((b && true) || (rest && b)) ≡ b
    found true rest = refl
    found false true = refl
    found false false = refl

    none : (b rest : Bool) → ((b && false) || rest) ≡ rest
    none true rest = refl
    none false rest = refl

    go : (b : Bool) → eqb x k ≡ b → list_any (λ y. t y && (y == k)) xs ≡ (is_among xs k && t k) → ((t x && b) || list_any (λ y. t y && (y == k)) xs) ≡ ((b || is_among xs k) && t k)
    go true e next = ap (λ r. (t x && true) || r) next ∙ ap (λ y. (t y && true) || (is_among xs k && t k)) (eqb-true x k e) ∙ found (t k) (is_among xs k)
    go false e next = none (t x) (list_any (λ y. t y && (y == k)) xs) ∙ next

-- what stands among the numbers that pass
pub among_filter : (p : ℕ → Bool) (xs : List ℕ) (h : ℕ) → is_among (filter p xs) h ≡ (is_among xs h && p h)
among_filter p xs h = list_any-filter p (λ x. x == h) xs ∙ at_one p h xs

pub same_truth : (a b : Bool) → (a ≡ true → b ≡ true) → (b ≡ true → a ≡ true) → a ≡ b
same_truth true b h g = sym (h refl)
same_truth false true h g = g refl
same_truth false false h g = refl

-- ---- numbers below a bound

among_range : (a n k : ℕ) → is_among (range_with_len a n) k ≡ true → (a ≤ k) × (k < a + n)
among_range a zero k h = absurd (false≢true h)
among_range a (suc n) k h =
    elim (or_cases (eqb a k) (is_among (range_with_len (a + 1) n) k) h) [
      | inl e ↦ let same = eqb-true a k e in (omega (arith, same), omega (arith, same))
      | inr e ↦ let w = among_range (a + 1) n k e in (omega (arith, w.0), omega (arith, w.1))
    ]

pub among_below : (n k : ℕ) → is_among (numbers_below n) k ≡ ltb k n
among_below n k =
    let long = length-numbers n in
    ⊎_elim
    (λ l. list_any_at (λ x. x == k) (numbers_below n) k 0 (omega arith) (eq-eqb _ k (get_or-range_with_len 0 n k 0 l ∙ zero-add k)) ∙ sym (lt-ltb k n l))
    (λ l. false_from_ne_true (is_among (numbers_below n) k) (λ t. let w = among_range 0 n k t in absurd (omega (arith, w.1))) ∙ sym (le-ltb k n l))
    (cases_lt k n)

once_range : (a n : ℕ) → AreOnce (range_with_len a n)
once_range a zero = tt
once_range a (suc n) = (false_from_ne_true (is_among (range_with_len (a + 1) n) a) (λ t. let w = among_range (a + 1) n a t in absurd (omega (arith, w.0))), once_range (a + 1) n)

pub once_below : (n : ℕ) → AreOnce (numbers_below n)
once_below n = once_range 0 n

pub once_filter : (p : ℕ → Bool) (xs : List ℕ) → AreOnce xs → AreOnce (filter p xs)
once_filter p [] o = o
once_filter p (x ∷ xs) o =
    elim (p x) as (λ b. AreOnce (cond b (x ∷ filter p xs) (filter p xs))) [
      | true ↦ (among_filter p xs x ∙ ap (λ b. b && p x) o.0, once_filter p xs o.1)
      | false ↦ once_filter p xs o.1
    ]

-- ---- one more number

among_push : (xs : List ℕ) (d k : ℕ) → is_among (xs ++ d ∷ []) k ≡ (is_among xs k || eqb d k)
among_push xs d k = list_any-append (λ x. x == k) xs (d ∷ []) ∙ ap (λ b. is_among xs k || b) (or_none (eqb d k))
  where
    or_none : (b : Bool) → (b || false) ≡ b
    or_none true = refl
    or_none false = refl

once_push : (xs : List ℕ) (d : ℕ) → AreOnce xs → is_among xs d ≡ false → AreOnce (xs ++ d ∷ [])
once_push [] d o e = (refl, tt)
once_push (x ∷ xs) d o e =
    let ne : (x ≡ d → ⊥) = λ q. both_ways ((eqb x d) || is_among xs d) e (or_left (eqb x d) (is_among xs d) (eq-eqb x d q)) in
    let rest : is_among xs d ≡ false = false_from_ne_true (is_among xs d) (λ t. both_ways ((eqb x d) || is_among xs d) e (or_right (eqb x d) (is_among xs d) t)) in
    (among_push xs d x ∙ ap₂ (λ a b. a || b) o.0 (ne_eqb d x (λ q. ne (sym q))), once_push xs d o.1 rest)

-- the numbers that were found so far, and the set of them
pub record HasFound (n : ℕ) (seen : List Bool) (found : List ℕ) (among : ℕ → Bool) : Type 0 where
  pub once : AreOnce found
  pub put : (k : ℕ) → has seen k ≡ is_among found k
  pub members : (k : ℕ) → is_among found k ≡ (among k && ltb k n)

-- a number that is new and in range is found
pub found_more : (n d : ℕ) (old new : List Bool) (found : List ℕ) (among : ℕ → Bool) → length old ≡ n → length new ≡ n → HasFound n old found among
    → ((k : ℕ) → k < length old → has new k ≡ (has old k || eqb d k)) → (not (has old d) && ltb d (length old)) ≡ true
    → HasFound n new (found ++ d ∷ []) (λ k. among k || eqb d k)
found_more n d old new found among long long' f each e =
    let parts = and_parts (not (has old d)) (ltb d (length old)) e in
    let low : ltb d n ≡ true = ap (ltb d) (sym long) ∙ parts.1 in
    let fresh : is_among found d ≡ false = sym (f.put d) ∙ not-true (has old d) parts.0 in
    let members : (k : ℕ) → is_among (found ++ d ∷ []) k ≡ ((among k || eqb d k) && ltb k n) = λ k.
    among_push found d k ∙ ap (λ b. b || eqb d k) (f.members k)
    ∙ elim (cases_Bool (eqb d k)) [
      | inl t ↦
          let here : ltb k n ≡ true = ap (λ j. ltb j n) (sym (eqb-true d k t)) ∙ low in
          ap₂ (λ a b. (among k && a) || b) here t ∙ sym (ap₂ (λ a b. (among k || a) && b) t here ∙ known (among k))
          ∙ refl
      | inr g ↦ ap (λ b. (among k && ltb k n) || b) g ∙ none (among k) (ltb k n) ∙ ap (λ b. (among k || b) && ltb k n) (sym g)
    ] in
    record {
      once = once_push found d f.once fresh;
      put = λ k. ⊎_elim
          (λ l. each k (omega (arith, long)) ∙ ap (λ b. b || eqb d k) (f.put k) ∙ sym (among_push found d k))
          (λ l. has_beyond new k (omega (arith, long')) ∙ sym (members k ∙ ap (λ b. (among k || eqb d k) && b) (le-ltb k n l) ∙ and_none (among k || eqb d k)))
          (cases_lt k n);
      members = members;
    }
  where
    known : (a : Bool) → ((a || true) && true) ≡ ((a && true) || true)
    known true = refl
    known false = refl

    none : (a b : Bool) → ((a && b) || false) ≡ ((a || false) && b)
    none true true = refl
    none true false = refl
    none false b = refl

    and_none : (a : Bool) → (a && false) ≡ false
    and_none true = refl
    and_none false = refl

-- a number that was found or is out of range changes nothing
pub found_same : (n d : ℕ) (old new : List Bool) (found : List ℕ) (among : ℕ → Bool) → length old ≡ n → length new ≡ n → HasFound n old found among
    → ((k : ℕ) → k < length old → has new k ≡ (has old k || eqb d k)) → (not (has old d) && ltb d (length old)) ≡ false
    → HasFound n new found (λ k. among k || eqb d k)
found_same n d old new found among long long' f each e =
    let known : (k : ℕ) → k < n → d ≡ k → is_among found k ≡ true = λ k l q.
    let low : ltb d (length old) ≡ true = lt-ltb d (length old) (omega (arith, long, q)) in
    ap (is_among found) (sym q) ∙ sym (f.put d) ∙ held (has old d) (sym (ap (λ b. not (has old d) && b) low) ∙ e) in
    record {
      once = f.once;
      put = λ k. ⊎_elim
          (λ l. each k (omega (arith, long)) ∙ ap (λ b. b || eqb d k) (f.put k)
          ∙ ⊎_elim
          (λ q. or_left (is_among found k) (eqb d k) (known k l q) ∙ sym (known k l q))
          (λ ne. ap (λ b. is_among found k || b) (ne_eqb d k ne) ∙ or_none (is_among found k))
          (cases_eq d k))
          (λ l. has_beyond new k (omega (arith, long')) ∙ sym (f.members k ∙ ap (λ b. among k && b) (le-ltb k n l) ∙ and_none (among k)))
          (cases_lt k n);
      members = λ k. ⊎_elim
          (λ q. ⊎_elim
          (λ l. known k l q ∙ sym (ap₂ (λ a b. (among k || a) && b) (eq-eqb d k q) (lt-ltb k n l) ∙ or_all (among k)))
          (λ l. f.members k ∙ ap (λ b. among k && b) (le-ltb k n l) ∙ and_none (among k) ∙ sym (ap (λ b. (among k || eqb d k) && b) (le-ltb k n l) ∙ and_none (among k || eqb d k)))
          (cases_lt k n))
          (λ ne. f.members k ∙ ap (λ b. b && ltb k n) (sym (ap (λ b. among k || b) (ne_eqb d k ne) ∙ or_none (among k))))
          (cases_eq d k);
    }
  where
    held : (b : Bool) → (not b && true) ≡ false → b ≡ true
    held true h = refl
    held false h = absurd (false≢true (sym h))

    or_none : (b : Bool) → (b || false) ≡ b
    or_none true = refl
    or_none false = refl

    or_all : (b : Bool) → ((b || true) && true) ≡ true
    or_all true = refl
    or_all false = refl

    and_none : (a : Bool) → (a && false) ≡ false
    and_none true = refl
    and_none false = refl
