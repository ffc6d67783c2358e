-- What is proved of derivations.
use Rattle.std.specs.Prelude.{◌≡◌, ℕ, ◌↔◌, List, Some}
use Rattle.axioms.specs.Ontology.{Ontology}
use Rattle.axioms.specs.WellFormedness.{IsOntology}
use Rattle.certificate.specs.Certificate.{Conclusion}
use Rattle.certificate.specs.Certificate.{Line}
use Rattle.cert_check.specs.Derivation.{IsDerivation, HasLine}
use Rattle.exactness.specs.Trimming.{EndsWith}
use Rattle.axioms.specs.View.{at_number}
use Rattle.closure.specs.Closure.{Fact, IsFact}
use Rattle.exactness.specs.Derivability.{IsDerivable, FactIsDerivable}
use Rattle.exactness.specs.Trimming.{IsTrimmed, EachServes, trimmed}

-- what is derivable is what some derivation has
abbrev pub DerivableHasDerivation : Type 0
DerivableHasDerivation =
    (o : Ontology) (conclusion : Conclusion) →
    IsDerivable o conclusion ↔ ((lines : List Line) × IsDerivation o lines × HasLine lines conclusion)

-- each fact of the closure is derivable, with no fresh name left
abbrev pub FactsAreDerivable : Type 0
FactsAreDerivable =
    (o : Ontology) (asked : List ℕ) → IsOntology o → (fact : Fact) → IsFact o asked fact → FactIsDerivable o fact

-- what is left of a derivation for a goal is a derivation that ends in the goal, and each other line serves a later one
abbrev pub TrimmedIsDerivation : Type 0
TrimmedIsDerivation =
    (o : Ontology) (lines : List Line) (goal : ℕ) (line : Line) → IsDerivation o lines → at_number lines goal ≡ Some line →
    (left : List Line) → IsTrimmed lines goal left → IsDerivation o left × EndsWith left line.conclusion × EachServes left

-- the function computes what is left of a derivation for a goal
abbrev pub TrimmedIsTrimmed : Type 0
TrimmedIsTrimmed =
    (o : Ontology) (lines : List Line) (goal : ℕ) (line : Line) → IsDerivation o lines → at_number lines goal ≡ Some line →
    IsTrimmed lines goal (trimmed lines goal)
