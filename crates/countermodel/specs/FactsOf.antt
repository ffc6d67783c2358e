-- Facts of some contexts.
use Rattle.std.specs.Prelude.{◌≡◌, ◌↔◌, ◌⊎◌, ℕ, List, slice_get, Some}
use Rattle.std.specs.List.{Contains}
use Rattle.facts.specs.declared.contexts.Fact.{Fact}
use Rattle.facts.specs.declared.contexts.Fact.TheVariants.{In, Edge}
use Rattle.closure.specs.Closure as closure
use Rattle.closure.specs.Denotations.{context_of}

-- the fact puts a class into the context, or is an edge from it
abbrev pub IsFactOf : closure.Context → Fact → Type 0
IsFactOf x (In a y) = context_of y ≡ x
IsFactOf x (Edge y r z) = context_of y ≡ x

-- the new facts are the old ones and those of these numbers
abbrev pub AddsFacts : List Fact → List ℕ → List Fact → List Fact → Type 0
AddsFacts all numbers old new = (f : Fact) → Contains new f ↔ (Contains old f ⊎ ((n : ℕ) × Contains numbers n × (slice_get all n ≡ Some f)))

-- some of all facts, among them all those of these contexts
pub record AreFactsOf (contexts : List closure.Context) (all some : List Fact) : Type 0 where
  pub each : (f : Fact) → Contains some f → Contains all f
  pub whole : (x : closure.Context) (f : Fact) → Contains contexts x → IsFactOf x f → Contains all f → Contains some f
