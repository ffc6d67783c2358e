-- Lists of numbers by context.
use Rattle.std.specs.Prelude.{◌≡◌, ℕ, ◌⊎◌, ◌↔◌, List, [], ◌∷◌, ◌++◌}
use Rattle.std.specs.List.{Contains}
use Rattle.facts.specs.declared.contexts.Context.{Context}
use Rattle.facts.specs.declared.contexts.Context.TheVariants.{Expr, Individual}
use Rattle.indexes.specs.Tables.{at, without}
use Rattle.indexes.specs.declared.by_context.ByContext.{ByContext}
use Rattle.indexes.specs.declared.index.Index.{Index}

abbrev pub at_context : ByContext → Context → List ℕ
at_context table (Expr e) = at table.expressions e.0
at_context table (Individual a) = at table.individuals a.0

-- one number more in the list of one context
abbrev pub AddsAt : ByContext → ByContext → Context → ℕ → Type 0
AddsAt old new x number = (y : Context) (n : ℕ) → Contains (at_context new y) n ↔ (Contains (at_context old y) n ⊎ ((y ≡ x) × (n ≡ number)))

-- the number is the last of the list
abbrev pub IsLast : List ℕ → ℕ → Type 0
IsLast list n = (rest : List ℕ) × (list ≡ rest ++ n ∷ [])

-- each list is what it was, but that of the context, where the number was not the last: there it is put at the end
abbrev pub EndsAt : ByContext → ByContext → Context → ℕ → Type 0
EndsAt old new x number = (y : Context) → (at_context new y ≡ at_context old y) ⊎ ((y ≡ x) × (IsLast (at_context old y) number → ⊥) × (at_context new y ≡ at_context old y ++ number ∷ []))

-- each list is what it was, but that of the context: there the number is put at the end, whether it was the last or not
abbrev pub PutsLastAt : ByContext → ByContext → Context → ℕ → Type 0
PutsLastAt old new x number = (y : Context) → ((y ≡ x → ⊥) × (at_context new y ≡ at_context old y)) ⊎ ((y ≡ x) × (at_context new y ≡ at_context old y ++ number ∷ []))

-- each list is what it was, but that of the context: there the number is taken out
abbrev pub RemovesAt : ByContext → ByContext → Context → ℕ → Type 0
RemovesAt old new x number = (y : Context) → ((y ≡ x → ⊥) × (at_context new y ≡ at_context old y)) ⊎ ((y ≡ x) × (at_context new y ≡ without number (at_context old y)))

abbrev pub IsSameAt : ByContext → ByContext → Type 0
IsSameAt old new = (y : Context) → at_context new y ≡ at_context old y

abbrev pub IsEmptyTable : ByContext → Type 0
IsEmptyTable table = (y : Context) → at_context table y ≡ []

pub record IsEmptyIndex (index : Index) : Type 0 where
  pub classes : IsEmptyTable index.classes
  pub from : IsEmptyTable index.from
  pub into : IsEmptyTable index.into
  pub second_premises : IsEmptyTable index.second_premises
  pub fillers : IsEmptyTable index.fillers
