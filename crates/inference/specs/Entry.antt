-- What is there at once, where facts are there already.
use Rattle.std.specs.Prelude.{◌≡◌, ℕ, List, [], ◌∷◌, slice_get, Some}
use Rattle.facts.specs.declared.contexts.Context.{Context}
use Rattle.facts.specs.declared.contexts.Fact.{Fact}
use Rattle.std.specs.List.{Contains}
use Rattle.facts.specs.Closure.{Problem, IsTarget, IsLoop, thing}
use Rattle.facts.specs.declared.contexts.Fact.TheVariants.{In}
use Rattle.inference.specs.Derivations.{Derived, Grows}
use Rattle.inference.specs.Completeness.{AllDrawn, AreLoopsDrawn, DrawnUpToRedundancy, IsEntry}

-- the loops at the target of the fact of that number are there, where it is an edge and owl:Thing is in its target, or the target has an entry
abbrev pub LoopIsDrawn : Problem → List Fact → Derived → ℕ → Type 0
LoopIsDrawn k old new n = (f : Fact) (x : Context) → slice_get old n ≡ Some f → IsTarget f x → Contains old (In thing x) → AreLoopsDrawn k x new

-- it is so for each fact
abbrev pub LoopsAreDrawn : Problem → List Fact → Derived → Type 0
LoopsAreDrawn k old new = (n : ℕ) → LoopIsDrawn k old new n

-- facts are kept, what is there at once is added, and so are the loops at the targets of edges that have no entry
pub record HasBegun (k : Problem) (most : ℕ) (old new : Derived) : Type 0 where
  pub grows : Grows k most old new
  pub given : DrawnUpToRedundancy k [] new
  pub loops : LoopsAreDrawn k old.facts new

-- what the fact of that number gives alone is there, but for loops that are owed, and so are the loops at a context of which it is the entry
pub record IsDrawnAlone (k : Problem) (n : ℕ) (f : Fact) (old new : Derived) : Type 0 where
  pub given : DrawnUpToRedundancy k (f ∷ []) new
  pub loops : (x : Context) → IsEntry old x n → AllDrawn (IsLoop x) k.forms new.facts
