-- What a saturation has.
use Rattle.std.specs.Prelude.{◌≡◌, ◌↔◌, ℕ, ◌<◌, ◌≤◌, ◌^◌, List, [], length, map, Result, Err, OnOk, OnErr}
use Rattle.std.specs.List.{All, Contains}
use Rattle.axioms.specs.Ontology.{Ontology}
use Rattle.axioms.specs.WellFormedness.{AreDistinct, IsOntology}
use Rattle.axioms.specs.declared.ids.ExprId.{ExprId}
use Rattle.axioms.specs.declared.ids.IndId.{IndId}
use Rattle.axioms.specs.declared.lengths.Lengths.{Lengths}
use Rattle.normal_forms.specs.declared.forms.Form.{Form}
use Rattle.facts.specs.declared.contexts.Context.{Context}
use Rattle.facts.specs.declared.contexts.Fact as code
use Rattle.facts.specs.Closure.{Problem}
use Rattle.closure.specs.Closure.{AreAsked, Fact, IsFact}
use Rattle.closure.specs.Denotations.{Prefixes, SaysFact, IsProblemOf}
use Rattle.normalise.specs.Entries.{form_in}
use Rattle.normalise.specs.Growth.{Grown, Grows, IsNormalFor}
use Rattle.normalise.specs.Listing.{Listing}
use Rattle.normalise.specs.Problem.{prefixes_of}
use Rattle.normalise.specs.Roots.{HasMoreNames}
use Rattle.inference.specs.declared.known_facts.Stop.{Stop}
use Rattle.inference.specs.declared.known_facts.Stop.TheVariants.{Limit, Memory}
use Rattle.inference.specs.Derivations.{IsDerived, Keeps}
use Rattle.saturate.specs.Growth.{KeepsServed}
use Rattle.saturate.specs.Requests.{IsAskedAt}
use Rattle.saturate.specs.Run.{IsPending, IsRun, IsRunUntil, IsState}
use Rattle.saturate.specs.State.{Ended, Seen, Extends, ended}

-- normal forms, what they lead to so far, and which of it was served
pub record Saturating : Type 0 where
  pub normal : Listing
  pub state : Seen

-- normal forms, and facts that they lead to with what gave each, whichever of them were served
pub record Saturated : Type 0 where
  pub normal : Listing
  pub state : Ended

abbrev pub as_ended : Saturating → Saturated
as_ended s = record { normal = s.normal; state = ended s.state }

-- nothing is asked about
abbrev pub IsUnasked : Saturated → Type 0
IsUnasked s = s.normal.asked ≡ []

-- the facts over numbers say facts of the closure of the ontology and of what is asked about
abbrev pub SayFactsOfTheClosure : Ontology → List ℕ → Prefixes → List code.Fact → Type 0
SayFactsOfTheClosure o asked b facts = (f : code.Fact) → Contains facts f → (g : Fact) × SaysFact b f g × IsFact o asked g

-- the normal forms are those of the ontology and of what is asked about, and the facts are of their closure, each once and with what
-- gave it, and some of them are served, each once: there may be more
pub record IsSound (o : Ontology) (s : Saturating) : Type 0 where
  pub normal : IsNormalFor o s.normal
  -- what is asked about is there
  pub asked : AreAsked o s.normal.asked
  -- the forms of the state are those of the entries, in the same order
  pub forms : s.state.problem.forms ≡ map form_in s.normal.entries
  -- and so are the lists of what is apart
  pub apart : s.state.problem.apart ≡ s.normal.apart
  pub problem : IsProblemOf o s.normal.asked (prefixes_of s.normal) s.state.problem
  pub facts : SayFactsOfTheClosure o s.normal.asked (prefixes_of s.normal) s.state.facts
  pub state : IsState s.state

-- all facts are served
abbrev pub IsFinished : Saturating → Type 0
IsFinished s = length s.state.served ≡ length s.state.facts

-- of a sound saturation, as many facts are served as there are exactly where none is pending
abbrev pub FinishedHasNonePending : Type 0
FinishedHasNonePending = (o : Ontology) (s : Saturating) → IsSound o s → IsFinished s ↔ ((n : ℕ) → ¬ IsPending s.state n)

-- the facts over numbers say exactly the facts of the closure of the ontology and of what is asked about
pub record SayTheClosure (o : Ontology) (asked : List ℕ) (b : Prefixes) (facts : List code.Fact) : Type 0 where
  pub each : (f : code.Fact) → Contains facts f → (g : Fact) × SaysFact b f g × IsFact o asked g
  pub all : (g : Fact) → IsFact o asked g → (f : code.Fact) × Contains facts f × SaysFact b f g

-- the normal forms are those of the ontology and of what is asked about, and the facts all that they lead to, each once and with what
-- gave it; 32 bits count them
pub record IsSaturated (o : Ontology) (s : Saturated) : Type 0 where
  pub normal : IsNormalFor o s.normal
  -- what is asked about is there
  pub asked : AreAsked o s.normal.asked
  -- the forms of the state are those of the entries, in the same order
  pub forms : s.state.problem.forms ≡ map form_in s.normal.entries
  -- and so are the lists of what is apart
  pub apart : s.state.problem.apart ≡ s.normal.apart
  pub problem : IsProblemOf o s.normal.asked (prefixes_of s.normal) s.state.problem
  pub facts : SayTheClosure o s.normal.asked (prefixes_of s.normal) s.state.facts
  pub born : IsDerived s.state.problem (record { facts = s.state.facts; births = s.state.births })
  pub few : length s.state.facts < 2 ^ 32

-- the closure of the ontology and of what is asked about has more than n facts: a list has so many that differ
pub record HasMoreFactsThan (o : Ontology) (asked : List ℕ) (n : ℕ) : Type 0 where
  pub facts : List Fact
  pub distinct : AreDistinct facts
  pub each : All (IsFact o asked) facts
  pub many : n < length facts

-- what a run leads to that may have so many facts, and how it ends
pub record HasResumed (max_facts : ℕ) (old new : Saturating) (result : Result Unit Stop) : Type 0 where
  -- the forms are the same, and each fact stays at its place, with what gave it, and is served if it was
  pub normal : new.normal ≡ old.normal
  pub extends : Extends old.state new.state
  -- it is a run; or one that was given up, whose last facts are pending
  pub whole : OnOk result (IsRun old.state new.state)
  pub until : OnErr result (IsRunUntil old.state new.state)
  pub finished : OnOk result (IsFinished new)
  pub within : OnOk result (length new.state.facts ≤ max_facts)
  pub most : length old.state.facts ≤ max_facts → length new.state.facts ≤ max_facts
  -- what was drawn up to the limit stays
  pub full : result ≡ Err Limit → max_facts ≤ length new.state.facts
  -- with nothing pending nothing changes, and memory is not refused
  pub idle : IsFinished old → (new ≡ old) × ¬ (result ≡ Err Memory)

-- what such a run of the saturation of the ontology, and of what is asked about, says of their closure
pub record Saturates (o : Ontology) (max_facts : ℕ) (new : Saturating) (result : Result Unit Stop) : Type 0 where
  pub sound : IsSound o new
  pub saturated : OnOk result (IsSaturated o (as_ended new))
  pub limit : result ≡ Err Limit → HasMoreFactsThan o new.normal.asked max_facts

-- each form is equal to one that was there, and so is each list of what is apart, and each context that is there from the start was
pub record BringsNothing (old new : Problem) : Type 0 where
  pub forms : (form : Form) → Contains new.forms form → Contains old.forms form
  pub disjoint : (cs : List ExprId) → Contains new.apart.classes cs → Contains old.apart.classes cs
  pub different : (is : List IndId) → Contains new.apart.individuals is → Contains old.apart.individuals is
  pub roots : (x : Context) → Contains new.roots x → Contains old.roots x

-- no form and no list of disjoint classes to which none was equal before asks for a served fact
abbrev pub AsksForNoServed : (old new : Seen) → Type 0
AsksForNoServed old new = (n : ℕ) → Contains old.served n → ¬ IsAskedAt old.problem new.problem old.facts n

-- forms, lists of what is apart, and what fresh names stand for, keep their numbers; facts stay at their places, with what gave them; and
-- exactly the served facts that a form or a list of disjoint classes asks for to which none was equal before are pending again
pub record KeepsFacts (old new : Saturating) : Type 0 where
  pub forms : Grown old.normal new.normal
  pub facts : Keeps old.state.facts new.state.facts
  pub births : Keeps old.state.births new.state.births
  pub served : KeepsServed old.state.problem new.state.problem old.state.facts old.state.served new.state.served
  -- where none of these asks for a served fact, as many are served as before
  pub stay : AsksForNoServed old.state new.state → length new.state.served ≡ length old.state.served
  -- where nothing is new, all facts are served if they were
  pub idle : BringsNothing old.state.problem new.state.problem → IsFinished old → IsFinished new

-- the saturation is that of an ontology that had so much, and from which the new one has grown
pub record Continues (s : Saturating) (lengths : Lengths) (new : Ontology) : Type 0 where
  pub old : Ontology
  pub whole : IsOntology old
  pub sound : IsSound old s
  pub grows : Grows old new lengths.axioms
  pub names : HasMoreNames old new lengths.classes lengths.individuals
