-- Operands of lists of disjoint classes, one behind the other.
use Rattle.std.specs.Prelude.{◌≡◌, ℕ, ◌+◌, ◌-◌, ◌<◌, ◌≤◌, ◌⊎◌, List, [], ◌∷◌, ◌++◌, length, slice_get, Option, Some}
use Rattle.std.specs.List.{Contains}
use Rattle.axioms.specs.declared.ids.ExprId.{ExprId}
use Rattle.normal_forms.specs.declared.forms.Class2.TheVariants.{Expr}
use Rattle.indexes.specs.declared.disjoint.Beside.{Beside}
use Rattle.indexes.specs.declared.disjoint.Operand.{Operand}
use Rattle.indexes.specs.declared.keys.Key.{Key}
use Rattle.indexes.specs.Keys.{class_key}
use Rattle.indexes.specs.FormsUnderKeys.{HasKeyAt}

-- the operands of the list of that number: each class, and how many of the list are behind it
abbrev pub operands_of_list : ℕ → List ExprId → List Operand
operands_of_list l [] = []
operands_of_list l (x ∷ xs) = record { class = x; list = l; behind = length xs } ∷ operands_of_list l xs

-- those of lists whose numbers count on from that one, one list behind the other
abbrev pub operands_from : ℕ → List (List ExprId) → List Operand
operands_from l [] = []
operands_from l (xs ∷ lists) = operands_of_list l xs ++ operands_from (l + 1) lists

-- the operand at q is behind that at p in the same list
pub record IsBehind (operands : List Operand) (p q : ℕ) (a b : Operand) : Type 0 where
  pub first : slice_get operands p ≡ Some a
  pub second : slice_get operands q ≡ Some b
  pub below : p < q
  pub within : q ≤ p + a.behind

-- no list ends behind the last operand, and the operands of one list know how many are behind them
pub record AreInLists (operands : List Operand) : Type 0 where
  pub within : (p : ℕ) (a : Operand) → slice_get operands p ≡ Some a → p + a.behind < length operands
  pub behind : (p q : ℕ) (a b : Operand) → IsBehind operands p q a b → b.behind + (q - p) ≡ a.behind

-- the list of that number has an operand at one such place before one at another such place
pub record IsPair (operands : List Operand) (P Q : ℕ → Type 0) (l : ℕ) : Type 0 where
  pub p : ℕ
  pub q : ℕ
  pub a : Operand
  pub b : Operand
  pub behind : IsBehind operands p q a b
  pub first : P p
  pub second : Q q
  pub list : l ≡ a.list

abbrev pub operand_key : Operand → Option Key
operand_key a = Some (class_key (Expr a.class))

-- the class of the operand at the place has the key
abbrev pub IsOf : List Operand → Key → ℕ → Type 0
IsOf operands k p = HasKeyAt operand_key (slice_get operands) k p

-- the operand at p is the first of those with which the one at the place is in one list
pub record IsFirstOf (operands : List Operand) (place p : ℕ) : Type 0 where
  pub below : p ≤ place
  pub each : (q : ℕ) (a : Operand) → slice_get operands q ≡ Some a → p ≤ q → q < place → place ≤ q + a.behind
  pub all : (q : ℕ) (a : Operand) → slice_get operands q ≡ Some a → q < place → place ≤ q + a.behind → p ≤ q

-- the operand at q is in one list with that at p, before it or behind it
abbrev pub IsWith : List Operand → ℕ → ℕ → Operand → Type 0
IsWith operands p q b = ((a : Operand) × IsBehind operands p q a b) ⊎ ((a : Operand) × IsBehind operands q p b a)

abbrev pub IsBeside : Beside → Operand → Type 0
IsBeside beside b = Contains beside.before.now b ⊎ Contains beside.behind.now b

-- the two keys are those of operands at two places of one list, in either order
abbrev pub AreOfOneList : List Operand → Key → Key → Type 0
AreOfOneList operands k l = ((n : ℕ) × IsPair operands (IsOf operands k) (IsOf operands l) n) ⊎ ((n : ℕ) × IsPair operands (IsOf operands l) (IsOf operands k) n)
