-- Rows in order: each is tested behind the one before it.
use Rattle.std.proofs.Common.{◌≡◌, ℕ, ◌^◌, ◌<◌, ◌≤◌, Bool, true, ltb, ◌&&◌, List, [], ◌∷◌, length, map, Option, Some, None, refl, sym, subst}
use Rattle.std.specs.Prelude.{option_map}
use Rattle.std.specs.List.{AllByRecursion}
use Rattle.std.proofs.lemmas.Bool.{ltb-true, lt-ltb, and_parts, and_from}
use Rattle.std.proofs.lemmas.List.Elements.{All-from_recursion, recursion_from_All}
use Rattle.std.proofs.lemmas.List.{map-id}
use Rattle.certificate.specs.Writability.{Ascends, AreElements}
use Rattle.certificate.specs.Tests.{is_after, ascend, are_elements, all_after}
use Rattle.certificate.proofs.Many.{Chain}
use Rattle.certificate.proofs.RowLaws.{AreSmall, small_chain}

pub chain_from_test : {A K : Type 0} (of : A → K) (test : Option K → A → Bool) (last : Option A) (xs : List A) → all_after of test (option_map of last) xs ≡ true → Chain (λ last x. test (option_map of last) x ≡ true) last xs
chain_from_test of test last [] t = tt
chain_from_test of test last (x ∷ xs) t =
    let p = and_parts (test (option_map of last) x) (all_after of test (Some (of x)) xs) t in
    (p.0, chain_from_test of test (Some x) xs p.1)

pub test_from_chain : {A K : Type 0} (V : Option A → A → Type 0) (of : A → K) (test : Option K → A → Bool) → ((last : Option A) (x : A) → V last x → test (option_map of last) x ≡ true) → (last : Option A) (xs : List A) → Chain V last xs → all_after of test (option_map of last) xs ≡ true
test_from_chain V of test to last [] c = refl
test_from_chain V of test to last (x ∷ xs) c = and_from (test (option_map of last) x) (all_after of test (Some (of x)) xs) (to last x c.0) (test_from_chain V of test to (Some x) xs c.1)

-- a row's own part, and that it comes after the one before
pub chain_each : {A : Type 0} (V : Option A → A → Type 0) (P : A → Type 0) → ((last : Option A) (x : A) → V last x → P x) → (last : Option A) (xs : List A) → Chain V last xs → AllByRecursion P xs
chain_each V P to last [] c = tt
chain_each V P to last (x ∷ xs) c = (to last x c.0, chain_each V P to (Some x) xs c.1)

pub chain_ascends : {A : Type 0} (V : Option A → A → Type 0) (k : A → ℕ) → ((x y : A) → V (Some x) y → k x < k y) → (last : Option A) (xs : List A) → Chain V last xs → Ascends (map k xs)
chain_ascends V k to last [] c = tt
chain_ascends V k to last (x ∷ []) c = tt
chain_ascends V k to last (x ∷ y ∷ ys) c = (to x y c.1.0, chain_ascends V k to (Some x) (y ∷ ys) c.1)

abbrev pub FirstIs : {A : Type 0} → (A → Type 0) → List A → Type 0
FirstIs Q [] = Unit {0}
FirstIs Q (x ∷ xs) = Q x

pub chain_made : {A : Type 0} (V : Option A → A → Type 0) (P : A → Type 0) (k : A → ℕ) → ((x y : A) → P y → k x < k y → V (Some x) y) → (last : Option A) (xs : List A) → FirstIs (V last) xs → AllByRecursion P xs → Ascends (map k xs) → Chain V last xs
chain_made V P k from last [] first a s = tt
chain_made V P k from last (x ∷ []) first a s = (first, tt)
chain_made V P k from last (x ∷ y ∷ ys) first a s = (first, chain_made V P k from (Some x) (y ∷ ys) (from x y a.1.0 s.0) a.1 s.1)

pub first_made : {A : Type 0} (Q P : A → Type 0) → ((x : A) → P x → Q x) → (xs : List A) → AllByRecursion P xs → FirstIs Q xs
first_made Q P from [] a = tt
first_made Q P from (x ∷ xs) a = from x a.0

-- ---- elements

abbrev IsNext : ℕ → Option ℕ → ℕ → Type 0
IsNext d last x = (x < d) × (is_after last x ≡ true)

ascend_means : (d : ℕ) (last : Option ℕ) (xs : List ℕ) → ascend d last xs ≡ true → Chain (IsNext d) last xs
ascend_means d last [] t = tt
ascend_means d last (x ∷ xs) t =
    let p = and_parts (ltb x d && is_after last x) (ascend d (Some x) xs) t in
    let q = and_parts (ltb x d) (is_after last x) p.0 in
    ((ltb-true x d q.0, q.1), ascend_means d (Some x) xs p.1)

ascend_tests : (d : ℕ) (last : Option ℕ) (xs : List ℕ) → Chain (IsNext d) last xs → ascend d last xs ≡ true
ascend_tests d last [] c = refl
ascend_tests d last (x ∷ xs) c =
    and_from (ltb x d && is_after last x) (ascend d (Some x) xs) (and_from (ltb x d) (is_after last x) (lt-ltb x d c.0.0) c.0.1) (ascend_tests d (Some x) xs c.1)

pub elements_mean : (d : ℕ) (xs : List ℕ) → are_elements d xs ≡ true → AreElements d xs
elements_mean d xs t =
    let p = and_parts (ltb 0 (length xs)) (ascend d None xs) t in
    let c = ascend_means d None xs p.1 in
    record {
      some = ltb-true 0 (length xs) p.0;
      within = All-from_recursion (λ x. x < d) xs (chain_each (IsNext d) (λ x. x < d) (λ last x v. v.0) None xs c);
      ascend = subst Ascends (map-id xs) (chain_ascends (IsNext d) (λ x. x) (λ x y v. ltb-true x y v.1) None xs c);
    }

pub elements_test : (d : ℕ) (xs : List ℕ) → d ≤ 2 ^ 32 → AreElements d xs → AreSmall xs × (are_elements d xs ≡ true)
elements_test d xs small h =
    let within = recursion_from_All (λ x. x < d) xs h.within in
    let c = chain_made (IsNext d) (λ x. x < d) (λ x. x) (λ x y v lt. (v, lt-ltb x y lt)) None xs (first_made (IsNext d None) (λ x. x < d) (λ x v. (v, refl)) xs within) within (subst Ascends (sym (map-id xs)) h.ascend) in
    (small_chain d None xs small within, and_from (ltb 0 (length xs)) (ascend d None xs) (lt-ltb 0 (length xs) h.some) (ascend_tests d None xs c))
