-- The numbers of names in byte order: each of them once.
use Rattle.std.proofs.Common.{◌≡◌, ℕ, zero, suc, ◌<◌, List, [], ◌∷◌, get_or, length, map, slice_get, Some, Bool, true, false, eqb, ltb, ◌||◌, if◌then◌else◌, All, inl, inr, refl, sym, ap, ◌∙◌, subst, ⊎_elim}
use Rattle.std.specs.Prelude.{◌==◌}
use Rattle.std.specs.declared.cmp.Ordering.{Ordering}
use Rattle.std.specs.Ordering.{is_lt}
use Rattle.std.proofs.lemmas.Bool.{both_ways, cases_eq, eq-eqb, eqb-true, false≢true, lt-ltb, ltb-true, ne_eqb, or_cases, or_parts}
use Rattle.std.proofs.lemmas.List.Elements.{All-head, All-tail}
use Rattle.std.proofs.lemmas.List.Folds.{list_any_at}
use Rattle.std.proofs.lemmas.Option.{get_or_from_slice_get, none-some, same_Some, slice_get_within}
use Rattle.lemmas.proofs.Mapped.{slice_get_map_from}
use Rattle.axioms.specs.WellFormedness.{AreDistinct}
use Rattle.axioms.specs.Expression.{Iri}
use Rattle.taxonomy.specs.Superclasses.{AreOnce, is_among}
use Rattle.taxonomy.specs.Texts.{by_name, in_byte_order, inserted, numbers_below, sorted}
use Rattle.taxonomy.proofs.Once.{among_below, once_below}

-- ---- tests

eqb_turned : (a b : ℕ) → eqb a b ≡ eqb b a
eqb_turned a b = ⊎_elim (λ e. eq-eqb a b e ∙ sym (eq-eqb b a (sym e))) (λ ne. ne_eqb a b ne ∙ sym (ne_eqb b a (λ e. ne (sym e)))) (cases_eq a b)

exchanged : (a b c : Bool) → (a || (b || c)) ≡ (b || (a || c))
exchanged true true c = refl
exchanged true false c = refl
exchanged false b c = refl

-- ---- one more number, put in its place

among_inserted : (order : ℕ → ℕ → Ordering) (n : ℕ) (ms : List ℕ) (k : ℕ) → is_among (inserted order n ms) k ≡ is_among (n ∷ ms) k
among_inserted order n [] k = refl
among_inserted order n (m ∷ ms) k =
    elim (is_lt (order m n)) as (λ b. is_among (if b then m ∷ inserted order n ms else n ∷ m ∷ ms) k ≡ is_among (n ∷ m ∷ ms) k) [
      | true ↦ ap (λ b. eqb m k || b) (among_inserted order n ms k) ∙ exchanged (eqb m k) (eqb n k) (is_among ms k)
      | false ↦ refl
    ]

once_inserted : (order : ℕ → ℕ → Ordering) (n : ℕ) (ms : List ℕ) → is_among ms n ≡ false → AreOnce ms → AreOnce (inserted order n ms)
once_inserted order n [] new o = (refl, tt)
once_inserted order n (m ∷ ms) new o =
    let parts = or_parts (eqb m n) (is_among ms n) new in
    elim (is_lt (order m n)) as (λ b. AreOnce (if b then m ∷ inserted order n ms else n ∷ m ∷ ms)) [
      | true ↦ (among_inserted order n ms m ∙ ap (λ b. b || is_among ms m) (eqb_turned n m ∙ parts.0) ∙ o.0, once_inserted order n ms parts.1 o.1)
      | false ↦ (new, o)
    ]

-- ---- all of them

among_sorted : (order : ℕ → ℕ → Ordering) (ns : List ℕ) (k : ℕ) → is_among (sorted order ns) k ≡ is_among ns k
among_sorted order [] k = refl
among_sorted order (n ∷ ns) k = among_inserted order n (sorted order ns) k ∙ ap (λ b. eqb n k || b) (among_sorted order ns k)

once_sorted : (order : ℕ → ℕ → Ordering) (ns : List ℕ) → AreOnce ns → AreOnce (sorted order ns)
once_sorted order [] o = tt
once_sorted order (n ∷ ns) o = once_inserted order n (sorted order ns) (among_sorted order ns n ∙ o.0) (once_sorted order ns o.1)

-- each number of names stands once among them in order
pub once_in_order : (names : List Iri) → AreOnce (in_byte_order names)
once_in_order names = once_sorted (by_name names) (numbers_below (length names)) (once_below (length names))

pub among_in_order : (names : List Iri) (k : ℕ) → is_among (in_byte_order names) k ≡ ltb k (length names)
among_in_order names k = among_sorted (by_name names) (numbers_below (length names)) k ∙ among_below (length names) k

pub in_order : (names : List Iri) (k : ℕ) → k < length names → is_among (in_byte_order names) k ≡ true
in_order names k l = among_in_order names k ∙ lt-ltb k (length names) l

pub low_in_order : (names : List Iri) (k : ℕ) → is_among (in_byte_order names) k ≡ true → k < length names
low_in_order names k e = ltb-true k (length names) (sym (among_in_order names k) ∙ e)

-- ---- members

-- what stands at a place is among them
pub among_there : (xs : List ℕ) (n x : ℕ) → slice_get xs n ≡ Some x → is_among xs x ≡ true
among_there xs n x e = list_any_at (λ y. y == x) xs n x (slice_get_within xs n x e) (eq-eqb _ x (get_or_from_slice_get xs n x x e))

-- what holds of each holds of one among them
pub of_among : (P : ℕ → Type 0) (xs : List ℕ) → All P xs → (k : ℕ) → is_among xs k ≡ true → P k
of_among P [] h k e = absurd (false≢true e)
of_among P (x ∷ xs) h k e =
    elim (or_cases (eqb x k) (is_among xs k) e) [
      | inl s ↦ subst P (eqb-true x k s) (All-head P x xs h)
      | inr s ↦ of_among P xs (All-tail P x xs h) k s
    ]

-- what holds of all that are among them holds of each
pub all_among : (P : ℕ → Type 0) (xs : List ℕ) → ((k : ℕ) → is_among xs k ≡ true → P k) → All P xs
all_among P xs h k d l = h _ (list_any_at (λ y. y == get_or xs k d) xs k d l (eq-eqb _ _ refl))

-- ---- without repetition

-- no number stands at two places
pub once_distinct : (xs : List ℕ) → AreOnce xs → AreDistinct xs
once_distinct [] o m n x e f = absurd (none-some x e)
once_distinct (y ∷ xs) o zero zero x e f = refl
once_distinct (y ∷ xs) o zero (suc n) x e f = absurd (both_ways (is_among xs y) o.0 (ap (is_among xs) (same_Some y x e) ∙ among_there xs n x f))
once_distinct (y ∷ xs) o (suc m) zero x e f = absurd (both_ways (is_among xs y) o.0 (ap (is_among xs) (same_Some y x f) ∙ among_there xs m x e))
once_distinct (y ∷ xs) o (suc m) (suc n) x e f = ap suc (once_distinct xs o.1 m n x e f)

-- nor does anything in a list that comes of such numbers, each of its own
pub distinct_mapped : {X : Type 0} (f : ℕ → X) (xs : List ℕ) → AreOnce xs → ((a b : ℕ) → is_among xs a ≡ true → is_among xs b ≡ true → f a ≡ f b → a ≡ b) → AreDistinct (map f xs)
distinct_mapped f xs o one m n x e f' =
    let (a, ga, ea) = slice_get_map_from f xs m x e in
    let (b, gb, eb) = slice_get_map_from f xs n x f' in
    let same : a ≡ b = one a b (among_there xs m a ga) (among_there xs n b gb) (ea ∙ sym eb) in
    once_distinct xs o m n a ga (gb ∙ ap Some (sym same))
