-- How facts and their turns go on after forms, lists and roots were added.
use Rattle.std.specs.Prelude.{◌≡◌, ℕ, ◌<◌, ◌≤◌, List, [], length}
use Rattle.std.specs.List.{Contains}
use Rattle.facts.specs.declared.contexts.Fact.{Fact}
use Rattle.facts.specs.Closure.{Problem}
use Rattle.indexes.specs.declared.index.Index.{Index}
use Rattle.inference.specs.Derivations.{Derived, Grows}
use Rattle.inference.specs.Completeness.{AreEntered, DrawnUpToRedundancy}
use Rattle.inference.specs.Entry.{LoopIsDrawn}
use Rattle.saturate.specs.IndexedFacts.{ListsFacts}
use Rattle.saturate.specs.Turns.{Queued}

-- the numbers that are queued or served are those of facts
pub record HaveTurns (facts : List Fact) (q : Queued) : Type 0 where
  pub queued : q.queued ≤ length facts
  pub served : (n : ℕ) → Contains q.served n → n < length facts

-- facts are kept, what is there at once is added, and so are the loops at the targets that have no entry of those edges that were served
pub record IsBegun (k : Problem) (most : ℕ) (served : List ℕ) (old new : Derived) : Type 0 where
  pub grows : Grows k most old new
  pub given : DrawnUpToRedundancy k [] new
  pub loops : (n : ℕ) → Contains served n → LoopIsDrawn k old.facts new n

-- what is in each context is in the first so many roots, and the loops at the targets that have no entry of those edges that were served are there
pub record HasEntered (k : Problem) (many : ℕ) (served : List ℕ) (d : Derived) : Type 0 where
  pub roots : AreEntered k many d
  pub loops : (n : ℕ) → Contains served n → LoopIsDrawn k d.facts d n

-- what is there at once is added, what waits in the list of work stays there, and the index lists the facts that are served now
pub record GoOn (k : Problem) (most : ℕ) (old new : Derived) (q r : Queued) (index : Index) : Type 0 where
  pub begun : IsBegun k most q.served old new
  pub queued : r.queued ≤ length new.facts
  pub waiting : r.waiting ≡ q.waiting
  pub listed : ListsFacts k new r.served r.served index

-- facts and their turns are what they were
pub record Stay (old new : Derived) (q r : Queued) : Type 0 where
  pub facts : new ≡ old
  pub queue : r ≡ q
