-- Classes that lists of disjoint classes put apart.
use Rattle.std.proofs.Common.{◌≡◌, ◌↔◌, ℕ, inl, inr, ⊎_elim, Bool, true, false, not, true≢false, List, slice_get, Option, Some, None, is_some, IfSome, IsNone, refl, sym, ap, subst, ◌∙◌, arith}
use Rattle.std.proofs.lemmas.Option.{same_Some}
use Rattle.axioms.specs.declared.ids.ExprId.{ExprId}
use Rattle.normal_forms.specs.declared.forms.Class2.{Class2}
use Rattle.normal_forms.specs.declared.forms.Class2.TheVariants.{Expr, Partial}
use Rattle.normal_forms.specs.Apart.{AreListedAt}
use Rattle.facts.specs.Closure.{Problem, AreDisjointAt}
use Rattle.indexes.specs.declared.disjoint.Beside.{Beside}
use Rattle.indexes.specs.declared.disjoint.Operand.{Operand}
use Rattle.indexes.specs.declared.keys.Key.{Key}
use Rattle.indexes.specs.Keys.{class_key}
use Rattle.indexes.specs.Disjoint.{operand_key, operands_from, AreOfOneList, IsBehind, IsBeside, IsOf, IsPair}
use Rattle.indexes.specs.Apart.{AreApart, HasClass, IsInList}
use Rattle.indexes.proofs.Operands.{listed_operand, listed_pair, one, operand_listed, pair_listed}
use Rattle.indexes.proofs.Sides.{some_to}

-- the class of a key is one
one_class : (a b : Class2) → class_key a ≡ class_key b → a ≡ b
one_class (Expr m) (Expr n) e = let k : m.0 ≡ n.0 = cc in ap (λ v. Expr (record { 0 = v })) k
one_class (Expr _) (Partial n) e = absurd (cc)
one_class (Partial m) (Expr _) e = absurd (cc)
one_class (Partial m) (Partial n) e = cc

class_is : (o : Operand) (a : Class2) → operand_key o ≡ Some (class_key a) → Expr o.class ≡ a
class_is o a e = one_class (Expr o.class) a (same_Some (class_key (Expr o.class)) (class_key a) e)

-- a key that no place has is in no list with another
pub none_of_one_list : (operands : List Operand) (k : Key) → ((p : ℕ) → IsOf operands k p → ⊥) → (l : Key) → AreOfOneList operands k l → ⊥
none_of_one_list operands k none l w = ⊎_elim (λ v. none v.1.p v.1.first) (λ v. none v.1.q v.1.second) w

pub refused : (b : Bool) → not b ≡ true → b ≡ false
refused true e = absurd (true≢false (sym e))
refused false e = refl

-- what is not found is not there
pub none_found : (operands : List Operand) (k l : Key) (one other : Option ℕ) → is_some one ≡ false → is_some other ≡ false → (IsNone one → (n : ℕ) → IsPair operands (IsOf operands k) (IsOf operands l) n → ⊥)
    → (IsNone other → (n : ℕ) → IsPair operands (IsOf operands l) (IsOf operands k) n → ⊥) → AreOfOneList operands k l → ⊥
none_found operands k l None None e f one_none other_none w = ⊎_elim (λ v. one_none refl v.0 v.1) (λ v. other_none refl v.0 v.1) w
none_found operands k l (Some _) other e f one_none other_none w = absurd (true≢false e)
none_found operands k l None (Some _) e f one_none other_none w = absurd (true≢false f)

-- the classes of what is beside a class
pub all_classes : (operands : List Operand) (k : Key) (found : Option Beside) → IfSome found (λ beside. (l : Key) → AreOfOneList operands k l → (b : Operand) × (operand_key b ≡ Some l) × IsBeside beside b)
    → IfSome found (λ beside. (c : Class2) → AreOfOneList operands k (class_key c) → HasClass beside c)
all_classes operands k found = some_to _ _ found (λ beside all c w. let v = all (class_key c) w in (v.0, sym (class_is v.0 c v.1), v.2))

pub only_classes : (operands : List Operand) (k : Key) (found : Option Beside) → IfSome found (λ beside. (l : Key) (b : Operand) → operand_key b ≡ Some l → IsBeside beside b → AreOfOneList operands k l)
    → IfSome found (λ beside. (c : Class2) → HasClass beside c → AreOfOneList operands k (class_key c))
only_classes operands k found = some_to _ _ found (λ beside only c w. only (class_key c) w.0 (ap (λ (d : Class2). Some (class_key d)) (sym w.1)) w.2)

-- ---- the lists of a problem

-- the class at a place is that of its key
class_at : (operands : List Operand) (a : Class2) (p : ℕ) (o : Operand) → slice_get operands p ≡ Some o → IsOf operands (class_key a) p → a ≡ Expr o.class
class_at operands a p o at w = sym (class_is o a (ap operand_key (one (slice_get operands p) o w.0 at w.1) ∙ w.2))

-- an operand of that class is at its place
is_at : (operands : List Operand) (a : Class2) (p : ℕ) (o : Operand) (c : ExprId) → slice_get operands p ≡ Some o → o.class ≡ c → a ≡ Expr c → IsOf operands (class_key a) p
is_at operands a p o c at is e =
    let same : Some (class_key (Expr o.class)) ≡ Some (class_key a) = ap (λ (d : ExprId). Some (class_key (Expr d))) is ∙ ap (λ (b : Class2). Some (class_key b)) (sym e) in
    (o, at, same)

module _ (k : Problem) (operands : List Operand) (are : operands ≡ operands_from 0 k.apart.classes) where
  behind_in : (p q : ℕ) (o u : Operand) → IsBehind operands p q o u → IsBehind (operands_from 0 k.apart.classes) p q o u
  behind_in p q o u w = subst (λ (list : List Operand). IsBehind list p q o u) are w

  -- two operands of one list are of two classes that it has
  pub pair_apart : (a b : Class2) (l : ℕ) → IsPair operands (IsOf operands (class_key a)) (IsOf operands (class_key b)) l → AreDisjointAt k l a b
  pair_apart a b l w =
      let listed = pair_listed 0 k.apart.classes w.p w.q w.a w.b (behind_in w.p w.q w.a w.b w.behind) in
      let number : listed.0 ≡ l = omega (arith, listed.1, w.list) in (
        w.a.class,
        w.b.class,
        class_at operands a w.p w.a w.behind.first w.first,
        class_at operands b w.q w.b w.behind.second w.second,
        subst (λ (m : ℕ). AreListedAt k.apart.classes m w.a.class w.b.class) number listed.2,
      )

  pub apart_pair : (a b : Class2) (l : ℕ) → AreDisjointAt k l a b → IsPair operands (IsOf operands (class_key a)) (IsOf operands (class_key b)) l
  apart_pair a b l (c, d, e, f, listed) =
      let w = listed_pair 0 k.apart.classes l c d listed in
      let behind : IsBehind operands w.p w.q w.a w.b = subst (λ (list : List Operand). IsBehind list w.p w.q w.a w.b) (sym are) w.behind in
      record {
        p = w.p;
        q = w.q;
        a = w.a;
        b = w.b;
        behind = behind;
        first = is_at operands a w.p w.a c behind.first w.first e;
        second = is_at operands b w.q w.b d behind.second w.second f;
        list = omega (arith, w.list);
      }

  -- the list that is found, if one is
  pub some_apart : (a b : Class2) (found : Option ℕ) → IfSome found (λ l. IsPair operands (IsOf operands (class_key a)) (IsOf operands (class_key b)) l) → IfSome found (λ l. AreDisjointAt k l a b)
  some_apart a b found = some_to _ _ found (pair_apart a b)

  -- in one list are those that it puts apart
  pub apart_when : (a b : Class2) → AreOfOneList operands (class_key a) (class_key b) ↔ AreApart k a b
  apart_when a b = (
    λ w. ⊎_elim (λ v. (v.0, inl (pair_apart a b v.0 v.1))) (λ v. (v.0, inr (pair_apart b a v.0 v.1))) w,
    λ w. ⊎_elim (λ v. inl (w.0, apart_pair a b w.0 v)) (λ v. inr (w.0, apart_pair b a w.0 v)) w.1,
  )

  -- a class is in a list where an operand is of it
  pub in_list : (a : Class2) (p : ℕ) → IsOf operands (class_key a) p → IsInList k a
  in_list a p w =
      let v = operand_listed 0 k.apart.classes p w.0 (subst (λ (list : List Operand). slice_get list p ≡ Some w.0) are w.1) in
      (w.0.class, v.0, class_at operands a p w.0 w.1 w, v.1, v.2)

  pub has_operand : (a : Class2) → IsInList k a → (p : ℕ) × IsOf operands (class_key a) p
  has_operand a (c, cs, e, list, there) =
      let w = listed_operand 0 k.apart.classes cs c list there in
      (w.0, is_at operands a w.0 w.1 c (subst (λ (list : List Operand). slice_get list w.0 ≡ Some w.1) (sym are) w.2) w.3 e)
