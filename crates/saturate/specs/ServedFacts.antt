-- Which of the served facts are of a kind.
use Rattle.std.specs.Prelude.{◌≡◌, ℕ, ◌↔◌, List, slice_get, Some}
use Rattle.std.specs.List.{Contains}
use Rattle.axioms.specs.WellFormedness.{AreDistinct}
use Rattle.facts.specs.declared.contexts.Fact.{Fact}
use Rattle.indexes.specs.Parts.{ArePartOf}
use Rattle.saturate.specs.State.{Seen}

-- the numbers are those of the facts of this kind
abbrev pub AreNumbersOf : (Fact → Type 0) → List Fact → List ℕ → Type 0
AreNumbersOf P facts numbers = (n : ℕ) → Contains numbers n ↔ ((f : Fact) × (slice_get facts n ≡ Some f) × P f)

-- the numbers are those of the served facts of this kind, each once, in the order in which they were served
pub record AreExactly (P : Fact → Type 0) (s : Seen) (numbers : List ℕ) : Type 0 where
  pub once : AreDistinct numbers
  pub each : (n : ℕ) → Contains numbers n ↔ (Contains s.served n × (f : Fact) × (slice_get s.facts n ≡ Some f) × P f)
  pub order : ArePartOf numbers s.served
