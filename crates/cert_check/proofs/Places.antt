-- Members of mapped lists, places in them, and walks.
use Rattle.std.proofs.Common.{◌≡◌, ◌↔◌, ℕ, Bool, true, false, List, get_or, map, slice_get, Some, Option, eqb, Contains, refl, sym, ap, ◌∙◌, arith, ◌<◌, [], ◌∷◌, All, AllPairs, subst, subst₂, inl, inr}
use Rattle.std.specs.List.{IsAnyAnswer, list_all}
use Rattle.std.proofs.lemmas.Bool.{eqb-true, eqb-false, false≢true, cases_order, cases_eq, and_parts, ltb-true}
use Rattle.std.proofs.lemmas.Option.{slice_get_within, get_or_from_slice_get, same_Some}
use Rattle.std.proofs.Math.Dec.{ltb}
use Rattle.std.proofs.lemmas.List.Elements.{All-nil, All-cons}
use Rattle.lemmas.proofs.Mapped.{slice_get_map, slice_get_map_from, mapped}
use Rattle.lemmas.proofs.Members.{Contains-from_slice_get, slice_get-from_Contains}
use Rattle.lemmas.proofs.Places.{slice_get_there}
use Rattle.axioms.specs.Ontology.{Node, And}
use Rattle.certificate.specs.Certificate.{Conclusion}

-- ---- members

-- what a search for a number among numbers of things says
pub contains_answer : {X : Type 0} (f : X → ℕ) (xs : List X) (n : ℕ) (r : Bool) → IsAnyAnswer (λ y b. eqb (f y) n ≡ b) xs r → (r ≡ true) ↔ Contains (map f xs) n
contains_answer f xs n true (k, l, h) =
    let (x, g) = slice_get_there xs k l in
    let e : f x ≡ n = ap f (sym (get_or_from_slice_get xs k x x g)) ∙ eqb-true (f (get_or xs k x)) n (h x) in
    (λ t. Contains-from_slice_get (map f xs) k n (slice_get_map f xs k x g ∙ ap Some e), λ c. refl)
contains_answer f xs n false h = (λ t. absurd (false≢true t), λ c. absurd (missing f xs n h c))
  where
    missing : {X : Type 0} (f : X → ℕ) (xs : List X) (n : ℕ) → IsAnyAnswer (λ y b. eqb (f y) n ≡ b) xs false → Contains (map f xs) n → ⊥
    missing f xs n h c =
        let (k, g) = slice_get-from_Contains (map f xs) n c in
        let (x, gx, e) = slice_get_map_from f xs k n g in
        eqb-false (f (get_or xs k x)) n (h k x (omega arith) (slice_get_within xs k x gx)) (ap f (get_or_from_slice_get xs k x x gx) ∙ e)

-- ---- places

-- the number of the thing at a place
pub number_at : {X : Type 0} (f : X → ℕ) (xs : List X) (k n : ℕ) (d : X) → slice_get (map f xs) k ≡ Some n → f (get_or xs k d) ≡ n
number_at f xs k n d g =
    let (x, gx, e) = slice_get_map_from f xs k n g in ap f (get_or_from_slice_get xs k x d gx) ∙ e

-- what holds of each of a mapped list holds of a member
pub mapped_member : {A B : Type 0} (P : B → Type 0) (f : A → B) (xs : List A) (x : A) → All P (map f xs) → Contains xs x → P (f x)
mapped_member P f xs x all c = let p = slice_get-from_Contains xs x c in mapped P f xs all p.0 x p.1

-- ---- pairs, where the relation is the same both ways

-- at two places
pub at_places : {X : Type 0} (R : X → X → Type 0) → ((a b : X) → R a b → R b a) → (xs : List X) → AllPairs R xs → (m n : ℕ) (x y : X) → (m ≡ n → ⊥) → slice_get xs m ≡ Some x → slice_get xs n ≡ Some y → R x y
at_places R flip xs h m n x y apart gx gy =
    elim (cases_order m n) [
      | inl e ↦ absurd (apart e)
      | inr (inl l) ↦ subst₂ R (get_or_from_slice_get xs m x x gx) (get_or_from_slice_get xs n y x gy) (h m n x l (slice_get_within xs n y gy))
      | inr (inr l) ↦ flip y x (subst₂ R (get_or_from_slice_get xs n y x gy) (get_or_from_slice_get xs m x x gx) (h n m x l (slice_get_within xs m x gx)))
    ]

-- of any two members, where the relation also holds of an element and itself
pub of_elements : {X : Type 0} (R : X → X → Type 0) → ((a : X) → R a a) → ((a b : X) → R a b → R b a) → (xs : List X) → AllPairs R xs → (x y : X) → Contains xs x → Contains xs y → R x y
of_elements R self flip xs h x y c d =
    let (m, gx) = slice_get-from_Contains xs x c in
    let (n, gy) = slice_get-from_Contains xs y d in
    elim (cases_eq m n) [
      | inl e ↦ subst (R x) (same_Some x y (sym gx ∙ ap (slice_get xs) e ∙ gy)) (self x)
      | inr apart ↦ at_places R flip xs h m n x y apart gx gy
    ]

-- ---- bounds

-- a bound that a test of each number passes
pub All-from_test : (bound : ℕ) (ns : List ℕ) → list_all (λ n. ltb n bound) ns ≡ true → All (λ n. n < bound) ns
All-from_test bound [] h = All-nil (λ n. n < bound)
All-from_test bound (n ∷ ns) h =
    let (p, q) = and_parts (ltb n bound) (list_all (λ n. ltb n bound) ns) h in
    All-cons (λ n. n < bound) n ns (ltb-true n bound p) (All-from_test bound ns q)

-- ---- equivalences

pub neither : {A : Type 0} → (A → ⊥) → (false ≡ true) ↔ A
neither f = (λ e. absurd (false≢true e), λ a. absurd (f a))

-- ---- operands

-- the operands of an intersection are those of its one node
pub of_the_operands : (node : Option Node) (xs : List ℕ) (ps : List Conclusion) (f : ℕ → Conclusion) (b : Bool) → node ≡ Some (And xs)
    → (b ≡ true) ↔ (ps ≡ map f xs) → (b ≡ true) ↔ ((ds : List ℕ) × (node ≡ Some (And ds)) × (ps ≡ map f ds))
of_the_operands n xs ps f b e h =
    (λ t. (xs, e, h.0 t), λ (ds, g, k). (let same : ds ≡ xs = cc in h.1 (k ∙ ap (map f) same)))
