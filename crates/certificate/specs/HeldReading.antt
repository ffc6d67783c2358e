-- What is held of the elements of a row that is read.
use Rattle.std.specs.Prelude.{◌≡◌, ℕ, List, Some, None, true}
use Rattle.certificate.specs.Certificate.{Format, One, Two}
use Rattle.certificate.specs.Held.{held_in, spread}
use Rattle.certificate.specs.ListedReading.{elements_at}
use Rattle.certificate.specs.Tests.{ascend}

-- the elements that are read in format 2 are those of runs with these ends, and they ascend below d
pub record HoldsRuns (d : ℕ) (bytes ends rest : List ℕ) : Type 0 where
  pub read : elements_at Two d bytes ≡ Some (spread ends, rest)
  pub held : held_in ends ≡ spread ends
  pub ascend : ascend d None (spread ends) ≡ true

-- .. are those that the list holds
pub record HoldsElements (d : ℕ) (bytes numbers rest : List ℕ) : Type 0 where
  pub read : elements_at Two d bytes ≡ Some (held_in numbers, rest)
  pub ascend : ascend d None (held_in numbers) ≡ true

-- the elements of a list that is read in the format
abbrev pub read_in : Format → List ℕ → List ℕ
read_in One numbers = numbers
read_in Two numbers = held_in numbers

-- those of format 2 ascend below d
abbrev pub Ascended : Format → ℕ → List ℕ → Type 0
Ascended One d numbers = Unit {0}
Ascended Two d numbers = ascend d None (held_in numbers) ≡ true

pub record AreReadElements (format : Format) (d : ℕ) (bytes numbers rest : List ℕ) : Type 0 where
  pub read : elements_at format d bytes ≡ Some (read_in format numbers, rest)
  pub ascended : Ascended format d numbers
