-- Runs: facts are served one after the other, whichever of those that wait is next.
use Rattle.std.specs.Prelude.{◌≡◌, ◌↔◌, ℕ, zero, suc, ◌+◌, ◌<◌, ◌≤◌, [], ◌∷◌, ◌++◌, length, Result, Err, OnOk, OnErr}
use Rattle.std.specs.List.{Contains}
use Rattle.axioms.specs.WellFormedness.{AreDistinct}
use Rattle.facts.specs.declared.contexts.Fact.{Fact}
use Rattle.inference.specs.declared.known_facts.Stop.{Stop}
use Rattle.inference.specs.declared.known_facts.Stop.TheVariants.{Limit, Memory}
use Rattle.inference.specs.Derivations.{HasMoreFactsThan}
use Rattle.inference.specs.Completeness.{IsCompleteUpToRedundancy, IsClosure}
use Rattle.saturate.specs.State.{Seen, AreBorn, Extends}

-- a state at any time: facts of the closure, each once and born of older ones, some of them served, each once; and what served facts
-- give, or no fact is needed for, is there, or it is redundant: the conclusion that is owed comes by the older two edges that gave
-- its second, or is a loop at a context with an entry, and comes when that is served
pub record IsState (s : Seen) : Type 0 where
  pub born : AreBorn s
  pub within : (n : ℕ) → Contains s.served n → n < length s.facts
  pub once : AreDistinct s.served
  pub complete : IsCompleteUpToRedundancy s.problem (record { facts = s.facts; births = s.births }) s.served

-- the fact of that number is there, and was not served
pub record IsPending (s : Seen) (n : ℕ) : Type 0 where
  pub there : n < length s.facts
  pub unserved : ¬ Contains s.served n

-- one pending fact is served, whichever it is; others may come, as pending
pub record IsStep (old new : Seen) : Type 0 where
  pub number : ℕ
  pub was_pending : IsPending old number
  pub extends : Extends old new
  pub served : new.served ≡ old.served ++ number ∷ []
  pub state : IsState new

-- so many steps lead from one state to another
pub data AreSteps : ℕ → Seen → Seen → Type 0 where
  none : {s : Seen} → AreSteps zero s s
  more : {steps : ℕ} {s u : Seen} (t : Seen) → AreSteps steps s t → IsStep t u → AreSteps (suc steps) s u

-- a run: some number of steps
pub record IsRun (old new : Seen) : Type 0 where
  pub steps : ℕ
  pub are : AreSteps steps old new

-- no fact is served, and others may have come, as pending
pub record IsLeft (old new : Seen) : Type 0 where
  pub extends : Extends old new
  pub served : new.served ≡ old.served
  pub state : IsState new

-- a run that was given up in the step behind its last: some conclusions may have been drawn in that one
pub record IsRunUntil (old new : Seen) : Type 0 where
  pub last : Seen
  pub run : IsRun old last
  pub left : IsLeft last new

-- what a run leads to that may have so many facts, and how it ends
pub record HasRun (max_facts : ℕ) (old new : Seen) (result : Result Unit Stop) : Type 0 where
  pub extends : Extends old new
  pub state : IsState new
  -- it is a run; or one that was given up, whose last facts are pending
  pub whole : OnOk result (IsRun old new)
  pub until : OnErr result (IsRunUntil old new)
  pub done : OnOk result (IsClosure new.problem new.facts)
  pub served : OnOk result (length new.served ≡ length new.facts)
  pub within : OnOk result (length new.facts ≤ max_facts)
  pub few : OnOk result (HasMoreFactsThan new.problem max_facts → ⊥)
  pub limit : result ≡ Err Limit → HasMoreFactsThan old.problem max_facts
  -- what was drawn up to the limit stays
  pub full : result ≡ Err Limit → max_facts ≤ length new.facts
  pub most : length old.facts ≤ max_facts → length new.facts ≤ max_facts
  -- with nothing pending nothing changes, and memory is not refused
  pub idle : length old.served ≡ length old.facts → (new ≡ old) × ¬ (result ≡ Err Memory)

-- as many facts were served as there are
abbrev pub IsFinished : Seen → Type 0
IsFinished s = length s.served ≡ length s.facts

-- ---- laws

-- where nothing is pending, the facts are the closure, though redundant conclusions were not drawn
abbrev pub FinishedIsClosure : Type 0
FinishedIsClosure = (s : Seen) → IsState s → IsFinished s → IsClosure s.problem s.facts

-- each step serves one fact: a run from nothing served to the end has as many steps as the closure has facts
abbrev pub StepsServe : Type 0
StepsServe = (s t : Seen) (run : IsRun s t) → length t.served ≡ length s.served + run.steps

-- a run keeps what was there, and what was served
abbrev pub RunsExtend : Type 0
RunsExtend = (s t : Seen) → IsRun s t → Extends s t

-- any two runs over the same forms and roots end with the same facts
abbrev pub OrderDoesNotMatter : Type 0
OrderDoesNotMatter =
    (s t s' t' : Seen) → s.problem ≡ s'.problem → IsState s → IsRun s t → IsFinished t → IsState s' → IsRun s' t' → IsFinished t' →
    (f : Fact) → Contains t.facts f ↔ Contains t'.facts f
