-- The fact whose lines come next.
use Rattle.std.specs.Prelude.{◌≡◌, ℕ, ◌<◌, List, length, slice_get, Some}
use Rattle.axioms.specs.Ontology.{Ontology}
use Rattle.certificate.specs.Certificate.{Line}
use Rattle.cert_check.specs.Derivation.{IsDerivation}
use Rattle.engine.specs.Saturations.{Saturated}
use Rattle.explain.specs.LinesOfFacts.{Lengthens, ShowsFact}
use Rattle.explain.specs.OlderFacts.{AreOlderShown}
use Rattle.explain.specs.Uses.{EachIsUsed}
use Rattle.facts.specs.Births.{Reason}

-- the n-th fact has that birth, and the lines of a derivation show each older fact that its own line rests on
pub record IsNext (o : Ontology) (s : Saturated) (lines : List Line) (shown : List (List ℕ)) (n : ℕ) (r : Reason) : Type 0 where
  pub there : n < length s.state.facts
  pub birth : slice_get s.state.births n ≡ Some r
  pub derivation : IsDerivation o lines
  pub older : AreOlderShown s lines shown n

-- with new lines behind the old ones these are a derivation in which the lines of these numbers show the n-th fact, and each new line,
-- and each that shows an older fact that its line rests on, is a premise of a later line or has one of these numbers
pub record ShowsNext (o : Ontology) (s : Saturated) (known : List (List ℕ)) (n : ℕ) (old new : List Line) (numbers : List ℕ) : Type 0 where
  pub derivation : IsDerivation o new
  pub longer : Lengthens old new
  pub shown : ShowsFact s new n numbers
  pub used : EachIsUsed s known n old new numbers
