-- Which edges chains that are added need as second premises, and how they come to be listed as such.
use Rattle.std.specs.Prelude.{◌≡◌, ◌⊎◌, ℕ, List, slice_get, Some}
use Rattle.std.specs.List.{Contains}
use Rattle.normal_forms.specs.declared.forms.Form.{Form}
use Rattle.normal_forms.specs.declared.forms.PropId2.{PropId2}
use Rattle.facts.specs.declared.contexts.Context.{Context}
use Rattle.facts.specs.declared.contexts.Fact.{Fact}
use Rattle.facts.specs.declared.contexts.Fact.TheVariants.{Edge}
use Rattle.indexes.specs.declared.index.Index.{Index}
use Rattle.indexes.specs.Contexts.{at_context}
use Rattle.indexes.specs.FactIndex.{IsFrom, IsSameButForSeconds}
use Rattle.facts.specs.Closure.{Problem}
use Rattle.inference.specs.Derivations.{Derived}
use Rattle.inference.specs.Completeness.{EndsAbove, IsRedundantAsSecond}
use Rattle.saturate.specs.Requests.{IsSuchAt}
use Rattle.saturate.specs.Growth.{EachFrom}

-- none of the forms from that number on is a chain that ends with the property, or with one above it
abbrev pub NoneEndsFrom : ℕ → List Form → PropId2 → Type 0
NoneEndsFrom from forms p = EachFrom (λ form. ¬ EndsAbove forms p form) from forms

-- more edges may be listed as second premises, from their sources; else both list the same
pub record ListsMoreSeconds (facts : List Fact) (old new : Index) : Type 0 where
  pub others : IsSameButForSeconds old new
  pub kept : (x : Context) (n : ℕ) → Contains (at_context old.second_premises x) n → Contains (at_context new.second_premises x) n
  pub only : (x : Context) (n : ℕ) → Contains (at_context new.second_premises x) n → Contains (at_context old.second_premises x) n ⊎ IsSuchAt (IsFrom x) facts n

-- where the fact of that number is an edge, it is listed as a second premise, or none of the forms from the other number on needs it as one, or it
-- need not be one for any form
abbrev pub IsListedAsSecond : ℕ → Problem → Derived → Index → ℕ → Type 0
IsListedAsSecond from k d index n = (x : Context) (p : PropId2) (y : Context) → slice_get d.facts n ≡ Some (Edge x p y) → Contains (at_context index.second_premises x) n ⊎ (NoneEndsFrom from k.forms p ⊎ IsRedundantAsSecond k d (Edge x p y))
