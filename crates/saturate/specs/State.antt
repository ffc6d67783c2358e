-- The engine's state.
use Rattle.std.specs.Prelude.{◌≡◌, ℕ, ◌<◌, ◌≤◌, List, [], length, slice_get, take, Some}
use Rattle.std.specs.List.{Contains}
use Rattle.normal_forms.specs.Apart.{no_lists}
use Rattle.facts.specs.declared.contexts.Fact.{Fact}
use Rattle.facts.specs.Closure.{Problem}
use Rattle.facts.specs.Births.{Reason, IsBirth}
use Rattle.inference.specs.Derivations.{Derived, IsDerived, Keeps}
use Rattle.saturate.specs.Turns.{Queued}
use Rattle.inference.specs.Completeness.{IsCompleteUpToRedundancy}

-- what callers see: the problem, the facts in order of birth with what gave them, and the numbers of those served, in order
pub record Seen : Type 0 where
  pub problem : Problem
  pub facts : List Fact
  pub births : List Reason
  pub served : List ℕ

-- the problem, and facts in order of birth with what gave each, whichever of them were served
pub record Ended : Type 0 where
  pub problem : Problem
  pub facts : List Fact
  pub births : List Reason

abbrev pub ended : Seen → Ended
ended s = record { problem = s.problem; facts = s.facts; births = s.births }

-- no forms, no lists, no contexts, no facts
abbrev pub nothing_seen : Seen
nothing_seen = record { problem = record { forms = []; apart = no_lists; roots = [] }; facts = []; births = []; served = [] }

-- what a state keeps: facts with reasons, of which some are queued; and what served facts give is there, but for what is redundant
pub record IsUnderWay (k : Problem) (d : Derived) (q : Queued) : Type 0 where
  pub derived : IsDerived k d
  pub queued : q.queued ≤ length d.facts
  pub within : (n : ℕ) → Contains q.served n → n < length d.facts
  pub complete : IsCompleteUpToRedundancy k d q.served

-- facts, what gave them, and those that were served are kept, each at its place
pub record Extends (old new : Seen) : Type 0 where
  pub problem : new.problem ≡ old.problem
  pub facts : Keeps old.facts new.facts
  pub births : Keeps old.births new.births
  pub served : Keeps old.served new.served

-- the reason is one of the fact of that number in older ones
abbrev pub GaveFact : Ended → ℕ → Reason → Type 0
GaveFact e n r = (f : Fact) → slice_get e.facts n ≡ Some f → IsBirth e.problem (take n e.facts) f r

-- each fact is there once, with a reason in older ones
abbrev pub AreBorn : Seen → Type 0
AreBorn s = IsDerived s.problem (record { facts = s.facts; births = s.births })
