-- The operands before one of a list, and those behind it.
use Rattle.std.proofs.Common.{◌≡◌, ℕ, zero, suc, ◌+◌, ◌-◌, ◌<◌, ◌≤◌, ◌⊎◌, inl, inr, ⊎_elim, List, [], ◌∷◌, length, take, drop, get_or, slice_get, Option, Some, None, Contains, IfSome, refl, sym, ap, subst, ◌∙◌, arith}
use Rattle.std.proofs.lemmas.Bool.{cases_lt}
use Rattle.std.proofs.lemmas.Option.{slice_get_past, slice_get_within}
use Rattle.lemmas.proofs.Members.{Contains-from_slice_get, slice_get-from_Contains}
use Rattle.lemmas.proofs.Places.{slice_get_there, slice_get_take, take_slice_get}
use Rattle.indexes.specs.declared.disjoint.Beside.{Beside}
use Rattle.indexes.specs.declared.disjoint.Operand.{Operand}
use Rattle.indexes.specs.declared.keys.Key.{Key}
use Rattle.indexes.specs.Disjoint.{operand_key, AreInLists, AreOfOneList, IsBehind, IsBeside, IsFirstOf, IsOf, IsWith}
use Rattle.indexes.proofs.Pairing.{ArePlacesOf}
use Rattle.indexes.proofs.Operands.{one}

-- ---- a piece of a list

dropped : {X : Type 0} (i : ℕ) (xs : List X) (k : ℕ) → slice_get (drop i xs) k ≡ slice_get xs (i + k)
dropped zero xs k = let e : k ≡ 0 + k = omega arith in ap (slice_get xs) e
dropped {X} (suc i) [] k = let none : List X = [] in slice_get_past none k (omega arith) ∙ sym (slice_get_past none (suc i + k) (omega arith))
dropped (suc i) (x ∷ xs) k = let e : suc (i + k) ≡ suc i + k = omega arith in dropped i xs k ∙ ap (slice_get (x ∷ xs)) e

in_piece : {X : Type 0} (xs : List X) (i j q : ℕ) (x : X) → i ≤ q → q < j → slice_get xs q ≡ Some x → Contains (take (j - i) (drop i xs)) x
in_piece xs i j q x low high at =
    let e : i + (q - i) ≡ q = omega (arith, low) in
    Contains-from_slice_get _ (q - i) x (take_slice_get (j - i) (drop i xs) (q - i) x (omega (arith, low, high)) (dropped i xs (q - i) ∙ ap (slice_get xs) e ∙ at))

pub from_piece : {X : Type 0} (xs : List X) (i j : ℕ) (x : X) → Contains (take (j - i) (drop i xs)) x → (q : ℕ) × (i ≤ q) × (q < j) × (slice_get xs q ≡ Some x)
from_piece xs i j x c =
    let k = slice_get-from_Contains _ x c in
    let w = slice_get_take (j - i) (drop i xs) k.0 x k.1 in
    (i + k.0, omega arith, omega (arith, w.0), sym (dropped i xs k.0) ∙ w.1)

-- ---- the first operand of a list

-- an operand with none behind it is in no list with one that is behind both
none_before : (operands : List Operand) → AreInLists operands → (place : ℕ) (a : Operand) → slice_get operands (place - 1) ≡ Some a → a.behind ≤ 0 → (p : ℕ) (b c : Operand) → IsBehind operands p place b c → ⊥
none_before operands are place a at none p b c w = ⊎_elim
    (λ lt. omega (arith, are.behind p (place - 1) b a (record { first = w.first; second = at; below = lt; within = omega (arith, w.within) }), none, w.within, lt))
    (λ ge.
    let e : p ≡ place - 1 = omega (arith, ge, w.below) in
    let same : b ≡ a = one (slice_get operands (place - 1)) b a (subst (λ (i : ℕ). slice_get operands i ≡ Some b) e w.first) at in
    omega (arith, none, w.below, w.within, ap (λ (o : Operand). o.behind) same))
    (cases_lt p (place - 1))

-- those between are in one list with the one at the place
abbrev pub AreFrom : List Operand → ℕ → ℕ → Type 0
AreFrom operands place first = (q : ℕ) (a : Operand) → slice_get operands q ≡ Some a → first ≤ q → q < place → place ≤ q + a.behind

module _ (operands : List Operand) (are : AreInLists operands) (place : ℕ) (there : place < length operands) where
  module _ (first : ℕ) (below : first ≤ place) (each : AreFrom operands place first) where
    reaches : (a : Operand) → 0 < first → slice_get operands (first - 1) ≡ Some a → 0 < a.behind → place ≤ (first - 1) + a.behind
    reaches a some at more = ⊎_elim
        (λ lt.
        let b = slice_get_there operands first (omega (arith, lt, there)) in
        let chained = are.behind (first - 1) first a b.0 (record { first = at; second = b.1; below = omega (arith, some); within = omega (arith, some, more) }) in
        omega (arith, chained, each first b.0 b.1 (omega arith) lt, some))
        (λ ge. omega (arith, ge, below, some, more))
        (cases_lt first place)

    pub one_more : (a : Operand) → 0 < first → slice_get operands (first - 1) ≡ Some a → 0 < a.behind → AreFrom operands place (first - 1)
    one_more a some at more q b there_b low high = ⊎_elim
        (λ lt.
        let e : q ≡ first - 1 = omega (arith, lt, low, some) in
        let same : b ≡ a = one (slice_get operands (first - 1)) b a (subst (λ (i : ℕ). slice_get operands i ≡ Some b) e there_b) at in
        omega (arith, e, reaches a some at more, ap (λ (o : Operand). o.behind) same))
        (λ ge. each q b there_b ge high)
        (cases_lt q first)

    pub at_end_before : (a : Operand) → slice_get operands (first - 1) ≡ Some a → a.behind ≤ 0 → IsFirstOf operands place first
    at_end_before a at none = record {
      below = below;
      each = each;
      all = λ q b on low within. ⊎_elim
          (λ lt.
          let c = slice_get_there operands first (omega (arith, below, there)) in
          absurd (none_before operands are first a at none q b c.0 (record { first = on; second = c.1; below = lt; within = omega (arith, below, within) })))
          (λ ge. ge)
          (cases_lt q first);
    }

  -- ---- what is beside the operand at the place

  module _ (a : Operand) (at : slice_get operands place ≡ Some a) (first : ℕ) (is : IsFirstOf operands place first) where
    pub all_beside : (q : ℕ) (b : Operand) → IsWith operands place q b → Contains (take (place - first) (drop first operands)) b ⊎ Contains (take ((place + a.behind + 1) - (place + 1)) (drop (place + 1) operands)) b
    all_beside q b w = ⊎_elim
        (λ v.
        let same : v.0 ≡ a = one (slice_get operands place) v.0 a v.1.first at in
        inr (in_piece operands (place + 1) (place + a.behind + 1) q b (omega (arith, v.1.below)) (omega (arith, v.1.within, ap (λ (o : Operand). o.behind) same)) v.1.second))
        (λ v. inl (in_piece operands first place q b (is.all q b v.1.first v.1.below v.1.within) v.1.below v.1.first))
        w

    pub only_beside : (b : Operand) → Contains (take (place - first) (drop first operands)) b ⊎ Contains (take ((place + a.behind + 1) - (place + 1)) (drop (place + 1) operands)) b → (q : ℕ) × IsWith operands place q b
    only_beside b w = ⊎_elim
        (λ c.
        let v = from_piece operands first place b c in
        (v.0, inr (a, record { first = v.3; second = at; below = v.2; within = is.each v.0 b v.3 v.1 v.2 })))
        (λ c.
        let v = from_piece operands (place + 1) (place + a.behind + 1) b c in
        (v.0, inl (a, record { first = at; second = v.3; below = omega (arith, v.1); within = omega (arith, v.2) })))
        w

-- ---- what is beside the class of a key

pub some_to : {X : Type 0} (P Q : X → Type 0) (o : Option X) → ((x : X) → P x → Q x) → IfSome o P → IfSome o Q
some_to P Q None f p = tt
some_to P Q (Some x) f p = f x p

pub one_place : (xs : List ℕ) (d : ℕ) → 1 ≤ length xs → length xs < 2 → get_or xs 0 d ∷ [] ≡ xs
one_place [] d low high = absurd (omega arith)
one_place (x ∷ []) d low high = refl
one_place (x ∷ y ∷ xs) d low high = absurd (omega arith)

module _ {self slice : List Operand} (k : Key) (list : List ℕ) (are : ArePlacesOf self slice k list) (place : ℕ) (alone : place ∷ [] ≡ list) where
  pub place_there : place < length slice
  place_there = are.there place (subst (λ (l : List ℕ). Contains l place) alone (0, omega arith, refl))

  is_place : (p : ℕ) → IsOf self k p → p ≡ place
  is_place p w =
      let c = slice_get-from_Contains (place ∷ []) p (subst (λ (l : List ℕ). Contains l p) (sym alone) (are.all p w)) in
      only_one c.0 c.1
    where
      only_one : (i : ℕ) → slice_get (place ∷ []) i ≡ Some p → p ≡ place
      only_one zero e = sym (one (Some place) place p refl e)
      only_one (suc i) e = absurd (omega (arith, slice_get_within (place ∷ []) (suc i) p e))

  key_of : (l : Key) (q : ℕ) (b : Operand) → slice_get self q ≡ Some b → IsOf self l q → operand_key b ≡ Some l
  key_of l q b at w = ap operand_key (one (slice_get self q) b w.0 at w.1) ∙ w.2

  with_key : (l : Key) → AreOfOneList self k l → (q : ℕ) × (b : Operand) × (operand_key b ≡ Some l) × IsWith self place q b
  with_key l w = ⊎_elim
      (λ v. let p = v.1 in (p.q, p.b, key_of l p.q p.b p.behind.second p.second, subst (λ (i : ℕ). IsWith self i p.q p.b) (is_place p.p p.first) (inl (p.a, p.behind))))
      (λ v. let p = v.1 in (p.p, p.a, key_of l p.p p.a p.behind.first p.first, subst (λ (i : ℕ). IsWith self i p.p p.a) (is_place p.q p.second) (inr (p.b, p.behind))))
      w

  of_one_list : (l : Key) (q : ℕ) (b : Operand) → operand_key b ≡ Some l → IsWith self place q b → AreOfOneList self k l
  of_one_list l q b e w =
      let here : IsOf self k place = are.of place (subst (λ (i : List ℕ). Contains i place) alone (0, omega arith, refl)) in
      ⊎_elim
      (λ v. inl (v.0.list, record { p = place; q = q; a = v.0; b = b; behind = v.1; first = here; second = (b, v.1.second, e); list = refl }))
      (λ v. inr (b.list, record { p = q; q = place; a = b; b = v.0; behind = v.1; first = (b, v.1.first, e); second = here; list = refl }))
      w

  pub all_by_key : (found : Option Beside) → IfSome found (λ beside. (q : ℕ) (b : Operand) → IsWith slice place q b → IsBeside beside b)
      → IfSome found (λ beside. (l : Key) → AreOfOneList self k l → (b : Operand) × (operand_key b ≡ Some l) × IsBeside beside b)
  all_by_key found = some_to _ _ found (λ beside all l w.
      let v = with_key l w in
      (v.1, v.2, all v.0 v.1 (subst (λ (o : List Operand). IsWith o place v.0 v.1) (sym are.same) v.3)))

  pub only_by_key : (found : Option Beside) → IfSome found (λ beside. (b : Operand) → IsBeside beside b → (q : ℕ) × IsWith slice place q b)
      → IfSome found (λ beside. (l : Key) (b : Operand) → operand_key b ≡ Some l → IsBeside beside b → AreOfOneList self k l)
  only_by_key found = some_to _ _ found (λ beside only l b e w.
      let v = only b w in
      of_one_list l v.0 b e (subst (λ (o : List Operand). IsWith o place v.0 b) are.same v.1))
