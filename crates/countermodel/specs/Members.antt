-- How the members are found: by the facts, class by class.
use Rattle.std.specs.Prelude.{◌≡◌, ◌↔◌, ◌<◌, ◌≤◌, ◌/◌, ◌%◌, ◌^◌, ℕ, Bool, true, List, [], ◌∷◌, ◌++◌, length, map, slice_get, Some}
use Rattle.std.specs.List.{Contains}
use Rattle.axioms.specs.Ontology.{Ontology}
use Rattle.axioms.specs.declared.ids.ExprId.{ExprId}
use Rattle.certificate.specs.Writability.{Ascends, IsNamedClass}
use Rattle.closure.specs.Closure.{Context, Expression}
use Rattle.facts.specs.declared.contexts.Context as code
use Rattle.facts.specs.declared.contexts.Fact.{Fact}
use Rattle.facts.specs.declared.contexts.Fact.TheVariants.{In}
use Rattle.normal_forms.specs.declared.forms.Class2.TheVariants.{Expr}
use Rattle.closure.specs.Denotations.{context_of}
use Rattle.number_sets.specs.Members.{has}
use Rattle.number_sets.specs.Pieces.{list_at}

abbrev pub expr_id : ℕ → ExprId
expr_id e = record { 0 = e }

-- a named class but owl:Thing and owl:Nothing
abbrev pub IsOwnClass : Ontology → ℕ → Type 0
IsOwnClass o e = (2 ≤ e) × IsNamedClass o e

-- of each expression the row says whether it is one
abbrev pub AreOwnClasses : Ontology → List Bool → Type 0
AreOwnClasses o row = (e : ℕ) → (has row e ≡ true) ↔ IsOwnClass o e

-- the fact puts the element into such a class
abbrev pub IsMember : Ontology → List Context → Fact → ℕ → ℕ → Type 0
IsMember o elements fact e m = IsOwnClass o e × ((x : code.Context) × (fact ≡ In (Expr (expr_id e)) x) × (slice_get elements m ≡ Some (context_of x)))

-- the fact puts no element into such a class
abbrev pub HasNoMember : Ontology → List Context → Fact → Type 0
HasNoMember o elements fact = (e m : ℕ) → IsMember o elements fact e m → ⊥

-- what is said of classes and elements is what the facts say
abbrev pub SayMembers : Ontology → List Context → List Fact → (ℕ → ℕ → Type 0) → Type 0
SayMembers o elements facts Has = (e m : ℕ) → Has e m ↔ ((fact : Fact) × Contains facts fact × IsMember o elements fact e m)

-- the list of each class has the number
abbrev pub HasNumber : List (List ℕ) → ℕ → ℕ → Type 0
HasNumber lists e m = Contains (list_at lists e) m

-- the list of each class has the elements that the facts put into it
abbrev pub AreMembers : Ontology → List Context → List Fact → List (List ℕ) → Type 0
AreMembers o elements facts lists = SayMembers o elements facts (HasNumber lists)

-- a row for each class that has elements, which the row has in order
pub record AreRowsBy (Has : ℕ → ℕ → Type 0) (rows : List (ℕ × List ℕ)) : Type 0 where
  pub ascend : Ascends (map (λ r. r.0) rows)
  pub each : (k : ℕ) (row : ℕ × List ℕ) → slice_get rows k ≡ Some row → (0 < length row.1) × Ascends row.1 × ((m : ℕ) → Contains row.1 m ↔ Has row.0 m)
  pub all : (e m : ℕ) → Has e m → (k : ℕ) × (row : ℕ × List ℕ) × (slice_get rows k ≡ Some row) × (row.0 ≡ e)

-- a row for each list that has numbers, which the row has in order
abbrev pub AreRowsOf : List (List ℕ) → List (ℕ × List ℕ) → Type 0
AreRowsOf lists rows = AreRowsBy (HasNumber lists) rows

-- one of the keys is that of the class with the element
abbrev pub HasKey : List ℕ → ℕ → ℕ → Type 0
HasKey keys e m = (key : ℕ) × Contains keys key × (key / 2 ^ 32 ≡ e) × (key % 2 ^ 32 ≡ m)

-- the last row is of the class
abbrev pub IsLastRow : ℕ → List (ℕ × List ℕ) → Type 0
IsLastRow e rows = (front : List (ℕ × List ℕ)) × (elements : List ℕ) × (rows ≡ front ++ (e, elements) ∷ [])

-- with the element in the last row, where that is of the class, and else in a row of its own
pub data AddsMember (e m : ℕ) (old new : List (ℕ × List ℕ)) : Type 0 where
  to_last : (front : List (ℕ × List ℕ)) (elements : List ℕ) → old ≡ front ++ (e, elements) ∷ [] → new ≡ front ++ (e, elements ++ m ∷ []) ∷ [] → AddsMember e m old new
  as_row : (IsLastRow e old → ⊥) → new ≡ old ++ (e, m ∷ []) ∷ [] → AddsMember e m old new

-- the element of its own of a named class
abbrev pub IsOwnElement : Ontology → List Context → ℕ → ℕ → Type 0
IsOwnElement o elements e m = IsNamedClass o e × (slice_get elements m ≡ Some (Expression e))
