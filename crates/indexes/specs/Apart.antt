-- Classes that lists of disjoint classes put apart.
use Rattle.std.specs.Prelude.{◌≡◌, ◌⊎◌, ℕ, List}
use Rattle.std.specs.List.{Contains}
use Rattle.normal_forms.specs.declared.forms.Class2.{Class2}
use Rattle.normal_forms.specs.declared.forms.Class2.TheVariants.{Expr}
use Rattle.axioms.specs.declared.ids.ExprId.{ExprId}
use Rattle.facts.specs.Closure.{Problem, AreDisjointAt}
use Rattle.indexes.specs.declared.apart.Apart.{Apart}
use Rattle.indexes.specs.declared.disjoint.Beside.{Beside}
use Rattle.indexes.specs.declared.disjoint.Operand.{Operand}
use Rattle.indexes.specs.Keys.{class_key}
use Rattle.indexes.specs.Disjoint.{AreOfOneList, IsBeside}

-- the class is apart from that one
abbrev pub IsApart : Apart → Class2 → Type 0
IsApart apart b = AreOfOneList apart.lists.now apart.key (class_key b)

-- the class is that of an operand
abbrev pub HasClass : Beside → Class2 → Type 0
HasClass beside b = (o : Operand) × (b ≡ Expr o.class) × IsBeside beside o

-- a list of disjoint classes has the two, in one order or the other
abbrev pub AreApart : Problem → Class2 → Class2 → Type 0
AreApart k a b = (l : ℕ) × (AreDisjointAt k l a b ⊎ AreDisjointAt k l b a)

-- a list of disjoint classes has the class
abbrev pub IsInList : Problem → Class2 → Type 0
IsInList k a = (c : ExprId) × (cs : List ExprId) × (a ≡ Expr c) × Contains k.apart.classes cs × Contains cs c
