-- Why a certificate does not show that texts are right.
use Rattle.std.specs.Prelude.{◌≡◌, ℕ, ◌+◌, ◌<◌, ◌≤◌, List, length, slice_get, take, Some}
use Rattle.axioms.specs.Ontology.{Ontology}
use Rattle.certificate.specs.Certificate.{Line}
use Rattle.cert_check.specs.Derivation.{IsDerived}

-- the line of that number, counted from 1, does not follow from lines before it, but each line before it does
pub record IsFirstBadLine (o : Ontology) (lines : List Line) (number : ℕ) : Type 0 where
  pub place : ℕ
  pub number_is : number ≡ place + 1
  pub line : Line
  pub there : slice_get lines place ≡ Some line
  pub bad : IsDerived o (take place lines) line → ⊥
  pub before : (n : ℕ) (earlier : Line) → n < place → slice_get lines n ≡ Some earlier → IsDerived o (take n lines) earlier

-- the texts agree before that place, and not there
pub record DifferFirstAt (text other : List ℕ) (at : ℕ) : Type 0 where
  pub before : take at text ≡ take at other
  pub within : (at ≤ length text) × (at ≤ length other)
  pub there : slice_get text at ≡ slice_get other at → ⊥
