-- What the index lists for a fact.
use Rattle.std.specs.Prelude.{◌≡◌, ℕ, ◌⊎◌, List, ◌++◌, slice_get, Some}
use Rattle.std.specs.List.{Contains}
use Rattle.facts.specs.declared.contexts.Context.{Context}
use Rattle.facts.specs.declared.contexts.Fact.{Fact}
use Rattle.facts.specs.Closure.{Problem}
use Rattle.indexes.specs.declared.by_context.ByContext.{ByContext}
use Rattle.indexes.specs.declared.index.Index.{Index}
use Rattle.indexes.specs.Contexts.{at_context}
use Rattle.indexes.specs.FactIndex.{IsFrom, IsIn, IsIndex}
use Rattle.inference.specs.Derivations.{Derived}
use Rattle.saturate.specs.Turns.{Queued, option_list}
use Rattle.inference.specs.Visits.{IsNotCarried}
use Rattle.inference.specs.Completeness.{IsRedundantAsSecond}

-- facts are listed where they have the context; of the facts of these numbers all that have it, but for those that need not be
pub record ListsNeeded (has : Context → Fact → Type 0) (IsNotNeeded : Fact → Type 0) (facts : List Fact) (whole : List ℕ) (table : ByContext) : Type 0 where
  pub all : (x : Context) (n : ℕ) (f : Fact) → Contains whole n → slice_get facts n ≡ Some f → has x f → Contains (at_context table x) n ⊎ IsNotNeeded f
  pub only : (x : Context) (n : ℕ) → Contains (at_context table x) n → (f : Fact) × (slice_get facts n ≡ Some f) × has x f

-- edges are listed as second premises from their sources, but for those that need not be a second premise
abbrev pub ListsSecondPremises : Problem → Derived → List ℕ → ByContext → Type 0
ListsSecondPremises k d whole table = ListsNeeded IsFrom (IsRedundantAsSecond k d) d.facts whole table

-- classes are listed as fillers in their contexts, but for those for which edges carry nothing
abbrev pub ListsFillers : Problem → List Fact → List ℕ → ByContext → Type 0
ListsFillers k facts whole table = ListsNeeded IsIn (IsNotCarried k) facts whole table

-- the index lists the facts of the first numbers, and none but those of the second
pub record ListsFacts (k : Problem) (d : Derived) (whole most : List ℕ) (index : Index) : Type 0 where
  pub by_context : IsIndex d.facts whole most index
  pub second_premises : ListsSecondPremises k d whole index.second_premises
  pub fillers : ListsFillers k d.facts whole index.fillers

-- the index lists the served facts, and none but those and the one in hand
abbrev pub ListsServed : Problem → Derived → Queued → Index → Type 0
ListsServed k d q index = ListsFacts k d q.served (q.served ++ option_list q.hand) index
