-- Facts in order of birth.
use Rattle.std.specs.Prelude.{◌≡◌, ℕ, ◌<◌, ◌≤◌, List, [], ◌∷◌, ◌++◌, length, slice_get, take, Some}
use Rattle.axioms.specs.WellFormedness.{AreDistinct}
use Rattle.facts.specs.declared.contexts.Fact.{Fact}
use Rattle.facts.specs.Closure.{Problem, IsFact}
use Rattle.facts.specs.Births.{Reason, IsBirth}

-- each element of the first list stands in the second too, at its place
abbrev pub Keeps : {X : Type 0} → List X → List X → Type 0
Keeps {X} xs ys = (n : ℕ) (x : X) → slice_get xs n ≡ Some x → slice_get ys n ≡ Some x

-- facts in order of birth, each with what gave it
pub record Derived : Type 0 where
  pub facts : List Fact
  pub births : List Reason

abbrev pub with_fact : Derived → Fact → Reason → Derived
with_fact d f r = record { facts = d.facts ++ f ∷ []; births = d.births ++ r ∷ [] }

-- each fact is there once, and has a reason in older ones
pub record IsDerived (k : Problem) (d : Derived) : Type 0 where
  pub distinct : AreDistinct d.facts
  pub long : length d.births ≡ length d.facts
  pub born : (n : ℕ) (f : Fact) (r : Reason) → slice_get d.facts n ≡ Some f → slice_get d.births n ≡ Some r → IsBirth k (take n d.facts) f r

-- what was there is at its place, and no fact is added past the limit
pub record Grows (k : Problem) (most : ℕ) (old new : Derived) : Type 0 where
  pub longer : length old.facts ≤ length new.facts
  pub within : length old.facts ≤ most → length new.facts ≤ most
  pub facts : Keeps old.facts new.facts
  pub births : Keeps old.births new.births
  pub derived : IsDerived k new

-- there are more than n facts: a list has so many that differ
pub record HasMoreFactsThan (k : Problem) (n : ℕ) : Type 0 where
  pub facts : List Fact
  pub distinct : AreDistinct facts
  pub each : (m : ℕ) (f : Fact) → slice_get facts m ≡ Some f → IsFact k f
  pub many : n < length facts
