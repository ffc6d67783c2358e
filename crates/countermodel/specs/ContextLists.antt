-- Lists of the contexts of which something holds, in their order.
use Rattle.std.specs.Prelude.{◌≡◌, ℕ, ◌<◌, ◌^◌, List, length, slice_get, Option, Some}
use Rattle.std.specs.List.{AllPairs}
use Rattle.axioms.specs.declared.ids.ExprId.{ExprId}
use Rattle.axioms.specs.declared.ids.IndId.{IndId}
use Rattle.facts.specs.declared.contexts.Context as code
use Rattle.facts.specs.declared.contexts.Context.TheVariants.{Expr, Individual as Individual2}
use Rattle.closure.specs.Closure.{Context}
use Rattle.exactness.specs.ListedInterpretation.{IsBefore}
use Rattle.countermodel.specs.declared.elements.Elements.TheInside.{Inside}

-- exactly those before the bound of which P holds, in order
pub record AreBefore (P : Context → Type 0) (bound : Context) (xs : List Context) : Type 0 where
  pub ascend : AllPairs IsBefore xs
  pub before : (m : ℕ) (x : Context) → slice_get xs m ≡ Some x → IsBefore x bound
  pub pass : (m : ℕ) (x : Context) → slice_get xs m ≡ Some x → P x
  pub all : (x : Context) → P x → IsBefore x bound → (m : ℕ) × (slice_get xs m ≡ Some x)

-- exactly those of which P holds, in order
pub record AreAll (P : Context → Type 0) (xs : List Context) : Type 0 where
  pub ascend : AllPairs IsBefore xs
  pub pass : (m : ℕ) (x : Context) → slice_get xs m ≡ Some x → P x
  pub all : (x : Context) → P x → (m : ℕ) × (slice_get xs m ≡ Some x)

-- the expression of that number
abbrev pub expression_at : ℕ → code.Context
expression_at e = Expr (record { 0 = e })

-- the table has the place of each expression of the list
abbrev pub PlacesExpressions : List code.Context → List ℕ → Type 0
PlacesExpressions xs places = (m : ℕ) (e : ExprId) → slice_get xs m ≡ Some (Expr e) → slice_get places e.0 ≡ Some m

-- the table has the place of each individual of the list
abbrev pub PlacesIndividuals : List code.Context → List ℕ → Type 0
PlacesIndividuals xs places = (m : ℕ) (a : IndId) → slice_get xs m ≡ Some (Individual2 a) → slice_get places a.0 ≡ Some m

-- what the tables have for the context
abbrev pub place_in : List ℕ → List ℕ → code.Context → Option ℕ
place_in expressions individuals (Expr e) = slice_get expressions e.0
place_in expressions individuals (Individual2 a) = slice_get individuals a.0

-- fewer contexts than numbers of 32 bits, each at the place that the tables have for it
pub record IsKept (e : Inside) : Type 0 where
  pub few : length e.contexts.items < 2 ^ 32
  pub expressions : PlacesExpressions e.contexts.items e.expressions.items
  pub individuals : PlacesIndividuals e.contexts.items e.individuals.items
