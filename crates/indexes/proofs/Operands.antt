-- The operands of lists of disjoint classes.
use Rattle.std.proofs.Common.{◌≡◌, ℕ, zero, suc, ◌+◌, ◌<◌, ◌⊎◌, inl, inr, ⊎_elim, List, [], ◌∷◌, ◌++◌, length, slice_get, Option, Some, Contains, refl, sym, ap, subst, ◌∙◌, append_assoc, append-nil, length-append, length-take, take, get_or, arith}
use Rattle.std.proofs.lemmas.List.{take_more}
use Rattle.std.proofs.lemmas.Option.{none-some, same_Some, slice_get_within}
use Rattle.lemmas.proofs.Members.{Contains-first, Contains-from_slice_get, Contains-later, slice_get-from_Contains}
use Rattle.lemmas.proofs.Places.{slice_get_there}
use Rattle.axioms.specs.declared.ids.ExprId.{ExprId}
use Rattle.normal_forms.specs.Apart.{AreListedAt}
use Rattle.indexes.specs.declared.disjoint.Operand.{Operand}
use Rattle.indexes.specs.Disjoint.{operands_from, operands_of_list, AreInLists, IsBehind}

pub one : {X : Type 0} (o : Option X) (x y : X) → o ≡ Some x → o ≡ Some y → x ≡ y
one o x y e f = same_Some x y (sym e ∙ f)

-- ---- what stands at a place of two lists, one behind the other

first_there : {X : Type 0} (xs ys : List X) (k : ℕ) (x : X) → slice_get xs k ≡ Some x → slice_get (xs ++ ys) k ≡ Some x
first_there [] ys k x e = absurd (none-some x e)
first_there (y ∷ xs) ys zero x e = e
first_there (y ∷ xs) ys (suc k) x e = first_there xs ys k x e

behind_there : {X : Type 0} (xs ys : List X) (k : ℕ) → slice_get (xs ++ ys) (length xs + k) ≡ slice_get ys k
behind_there [] ys k = let e : 0 + k ≡ k = omega arith in ap (slice_get ys) e
behind_there (x ∷ xs) ys k = let e : length (x ∷ xs) + k ≡ suc (length xs + k) = omega arith in ap (slice_get (x ∷ (xs ++ ys))) e ∙ behind_there xs ys k

-- it stands in the one or in the other
either : {X : Type 0} (xs ys : List X) (n : ℕ) (x : X) → slice_get (xs ++ ys) n ≡ Some x → ((n < length xs) × (slice_get xs n ≡ Some x)) ⊎ ((k : ℕ) × (n ≡ length xs + k) × (slice_get ys k ≡ Some x))
either [] ys n x e = inr (n, omega arith, e)
either (y ∷ xs) ys zero x e = inl (omega arith, e)
either (y ∷ xs) ys (suc n) x e = ⊎_elim
    (λ w. inl (omega (arith, w.0), w.1))
    (λ w. inr (w.0, omega (arith, w.1), w.2))
    (either xs ys n x e)

-- ---- the operands of one list

pub length_list : (l : ℕ) (xs : List ExprId) → length (operands_of_list l xs) ≡ length xs
length_list l [] = refl
length_list l (x ∷ xs) = ap suc (length_list l xs)

-- what an operand says
record Says (l : ℕ) (xs : List ExprId) (p : ℕ) (a : Operand) : Type 0 where
  class : slice_get xs p ≡ Some a.class
  list : a.list ≡ l
  behind : p + a.behind + 1 ≡ length xs

said : (l : ℕ) (xs : List ExprId) (p : ℕ) (a : Operand) → slice_get (operands_of_list l xs) p ≡ Some a → Says l xs p a
said l [] p a e = absurd (none-some a e)
said l (x ∷ xs) zero a e = subst (λ (o : Operand). Says l (x ∷ xs) 0 o) (same_Some _ a e) (record { class = refl; list = refl; behind = omega arith })
said l (x ∷ xs) (suc p) a e = let w = said l xs p a e in record { class = w.class; list = w.list; behind = omega (arith, w.behind) }

-- the operand of a member
of_member : (l : ℕ) (xs : List ExprId) (p : ℕ) (c : ExprId) → slice_get xs p ≡ Some c → (a : Operand) × (slice_get (operands_of_list l xs) p ≡ Some a) × (a.class ≡ c)
of_member l xs p c e =
    let a = slice_get_there (operands_of_list l xs) p (omega (arith, slice_get_within xs p c e, length_list l xs)) in
    (a.0, a.1, one (slice_get xs p) a.0.class c (said l xs p a.0 a.1).class e)

in_one_list : (l : ℕ) (xs : List ExprId) → AreInLists (operands_of_list l xs)
in_one_list l xs = record {
  within = λ p a at. omega (arith, (said l xs p a at).behind, length_list l xs);
  behind = λ p q a b w. omega (arith, (said l xs p a w.first).behind, (said l xs q b w.second).behind, w.below);
}

-- ---- operands, and others behind them

module _ (xs ys : List Operand) (are : AreInLists xs) where
  -- two of one list both are of the first, or both of the others
  both : (p q : ℕ) (a b : Operand) → IsBehind (xs ++ ys) p q a b → IsBehind xs p q a b ⊎ ((i : ℕ) × (j : ℕ) × (p ≡ length xs + i) × (q ≡ length xs + j) × IsBehind ys i j a b)
  both p q a b w = ⊎_elim
      (λ o. ⊎_elim
      (λ u. inl (record { first = o.1; second = u.1; below = w.below; within = w.within }))
      (λ v. absurd (omega (arith, are.within p a o.1, w.within, v.1)))
      (either xs ys q b w.second))
      (λ v. ⊎_elim
      (λ u. absurd (omega (arith, u.0, v.1, w.below)))
      (λ u. inr (v.0, u.0, v.1, u.1, record { first = v.2; second = u.2; below = omega (arith, v.1, u.1, w.below); within = omega (arith, v.1, u.1, w.within) }))
      (either xs ys q b w.second))
      (either xs ys p a w.first)

  in_both : AreInLists ys → AreInLists (xs ++ ys)
  in_both others = record {
    within = λ p a at. ⊎_elim
        (λ o. omega (arith, are.within p a o.1, length-append xs ys))
        (λ w. omega (arith, w.1, others.within w.0 a w.2, length-append xs ys))
        (either xs ys p a at);
    behind = λ p q a b w. ⊎_elim
        (λ o. are.behind p q a b o)
        (λ v. omega (arith, v.2, v.3, others.behind v.0 v.1 a b v.4))
        (both p q a b w);
  }

in_first : (xs ys : List Operand) (p q : ℕ) (a b : Operand) → IsBehind xs p q a b → IsBehind (xs ++ ys) p q a b
in_first xs ys p q a b w = record { first = first_there xs ys p a w.first; second = first_there xs ys q b w.second; below = w.below; within = w.within }

in_others : (xs ys : List Operand) (p q : ℕ) (a b : Operand) → IsBehind ys p q a b → IsBehind (xs ++ ys) (length xs + p) (length xs + q) a b
in_others xs ys p q a b w = record { first = behind_there xs ys p ∙ w.first; second = behind_there xs ys q ∙ w.second; below = omega (arith, w.below); within = omega (arith, w.within) }

-- ---- the operands of lists

pub in_lists : (l : ℕ) (lists : List (List ExprId)) → AreInLists (operands_from l lists)
in_lists l [] = record { within = λ p a at. absurd (none-some a at); behind = λ p q a b w. absurd (none-some a w.first) }
in_lists l (xs ∷ lists) = in_both (operands_of_list l xs) (operands_from (l + 1) lists) (in_one_list l xs) (in_lists (l + 1) lists)

-- one list more
pub list_added : (l : ℕ) (lists : List (List ExprId)) (xs : List ExprId) → operands_from l (lists ++ xs ∷ []) ≡ operands_from l lists ++ operands_of_list (l + length lists) xs
list_added l [] xs =
    let e : l ≡ l + 0 = omega arith in
    append-nil (operands_of_list l xs) ∙ ap (λ (m : ℕ). operands_of_list m xs) e
list_added l (ys ∷ lists) xs =
    let e : l + 1 + length lists ≡ l + length (ys ∷ lists) = omega arith in
    ap (λ (more : List Operand). operands_of_list l ys ++ more) (list_added (l + 1) lists xs ∙ ap (λ (m : ℕ). operands_from (l + 1) lists ++ operands_of_list m xs) e)
    ∙ sym (append_assoc (operands_of_list l ys) (operands_from (l + 1) lists) (operands_of_list (l + length (ys ∷ lists)) xs))

pub next_list : (lists : List (List ExprId)) (n : ℕ) → n < length lists → operands_from 0 (take (n + 1) lists) ≡ operands_from 0 (take n lists) ++ operands_of_list n (get_or lists n [])
next_list lists n low =
    let e : 0 + length (take n lists) ≡ n = omega (arith, length-take n lists, low) in
    ap (operands_from 0) (take_more lists n [] low) ∙ list_added 0 (take n lists) (get_or lists n []) ∙ ap (λ (m : ℕ). operands_from 0 (take n lists) ++ operands_of_list m (get_or lists n [])) e

-- two operands of one list are of two members, the first at an earlier place
pub pair_listed : (l : ℕ) (lists : List (List ExprId)) (p q : ℕ) (a b : Operand) → IsBehind (operands_from l lists) p q a b → (k : ℕ) × (a.list ≡ l + k) × AreListedAt lists k a.class b.class
pair_listed l [] p q a b w = absurd (none-some a w.first)
pair_listed l (xs ∷ lists) p q a b w = ⊎_elim
    (λ o.
    let one = said l xs p a o.first in
    (0, one.list ∙ omega arith, (xs, refl, (p, q, o.below, one.class, (said l xs q b o.second).class))))
    (λ v.
    let more = pair_listed (l + 1) lists v.0 v.1 a b v.4 in
    (suc more.0, omega (arith, more.1), more.2))
    (both (operands_of_list l xs) (operands_from (l + 1) lists) (in_one_list l xs) p q a b w)

-- the operands of two members
pub record ArePairedAt (operands : List Operand) (l : ℕ) (c d : ExprId) : Type 0 where
  pub p : ℕ
  pub q : ℕ
  pub a : Operand
  pub b : Operand
  pub behind : IsBehind operands p q a b
  pub list : a.list ≡ l
  pub first : a.class ≡ c
  pub second : b.class ≡ d

paired_later : (xs ys : List Operand) (l m : ℕ) (c d : ExprId) → l ≡ m → ArePairedAt ys l c d → ArePairedAt (xs ++ ys) m c d
paired_later xs ys l m c d e w = record { p = length xs + w.p; q = length xs + w.q; a = w.a; b = w.b; behind = in_others xs ys w.p w.q w.a w.b w.behind; list = w.list ∙ e; first = w.first; second = w.second }

pub listed_pair : (l : ℕ) (lists : List (List ExprId)) (k : ℕ) (c d : ExprId) → AreListedAt lists k c d → ArePairedAt (operands_from l lists) (l + k) c d
listed_pair l [] k c d w = absurd (none-some w.0 w.1)
listed_pair l (xs ∷ lists) zero c d (ys, at, (m, n, low, first, second)) =
    let same : ys ≡ xs = sym (same_Some xs ys at) in
    let a = of_member l xs m c (subst (λ (zs : List ExprId). slice_get zs m ≡ Some c) same first) in
    let b = of_member l xs n d (subst (λ (zs : List ExprId). slice_get zs n ≡ Some d) same second) in
    let one = said l xs m a.0 a.1 in
    let end : n < length xs = slice_get_within xs n d (subst (λ (zs : List ExprId). slice_get zs n ≡ Some d) same second) in
    record {
      p = m;
      q = n;
      a = a.0;
      b = b.0;
      behind = in_first (operands_of_list l xs) (operands_from (l + 1) lists) m n a.0 b.0 (record { first = a.1; second = b.1; below = low; within = omega (arith, one.behind, end) });
      list = one.list ∙ omega arith;
      first = a.2;
      second = b.2;
    }
listed_pair l (xs ∷ lists) (suc k) c d w =
    let e : l + 1 + k ≡ l + suc k = omega arith in
    paired_later (operands_of_list l xs) (operands_from (l + 1) lists) (l + 1 + k) (l + suc k) c d e (listed_pair (l + 1) lists k c d w)

-- an operand is of a member
pub operand_listed : (l : ℕ) (lists : List (List ExprId)) (p : ℕ) (a : Operand) → slice_get (operands_from l lists) p ≡ Some a → (cs : List ExprId) × Contains lists cs × Contains cs a.class
operand_listed l [] p a at = absurd (none-some a at)
operand_listed l (xs ∷ lists) p a at = ⊎_elim
    (λ o. (xs, Contains-first xs lists, Contains-from_slice_get xs p a.class (said l xs p a o.1).class))
    (λ w. let v = operand_listed (l + 1) lists w.0 a w.2 in (v.0, Contains-later xs v.0 lists v.1, v.2))
    (either (operands_of_list l xs) (operands_from (l + 1) lists) p a at)

operand_at : (l : ℕ) (lists : List (List ExprId)) (k : ℕ) (cs : List ExprId) (c : ExprId) → slice_get lists k ≡ Some cs → Contains cs c → (p : ℕ) × (a : Operand) × (slice_get (operands_from l lists) p ≡ Some a) × (a.class ≡ c)
operand_at l [] k cs c at there = absurd (none-some cs at)
operand_at l (xs ∷ lists) zero cs c at there =
    let m = slice_get-from_Contains xs c (subst (λ (zs : List ExprId). Contains zs c) (sym (same_Some xs cs at)) there) in
    let a = of_member l xs m.0 c m.1 in
    (m.0, a.0, first_there (operands_of_list l xs) (operands_from (l + 1) lists) m.0 a.0 a.1, a.2)
operand_at l (xs ∷ lists) (suc k) cs c at there =
    let w = operand_at (l + 1) lists k cs c at there in
    (length (operands_of_list l xs) + w.0, w.1, behind_there (operands_of_list l xs) (operands_from (l + 1) lists) w.0 ∙ w.2, w.3)

-- a member has an operand
pub listed_operand : (l : ℕ) (lists : List (List ExprId)) (cs : List ExprId) (c : ExprId) → Contains lists cs → Contains cs c → (p : ℕ) × (a : Operand) × (slice_get (operands_from l lists) p ≡ Some a) × (a.class ≡ c)
listed_operand l lists cs c list there = let k = slice_get-from_Contains lists cs list in operand_at l lists k.0 cs c k.1 there
