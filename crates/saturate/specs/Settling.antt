-- Numbers that are settled: all below a bound were served.
use Rattle.std.specs.Prelude.{◌≡◌, ◌↔◌, ◌⊎◌, ℕ, ◌<◌, Bool, true, false, List, length}
use Rattle.std.specs.List.{Contains}
use Rattle.axioms.specs.WellFormedness.{AreDistinct}
use Rattle.saturate.specs.Flags.{is_flagged, kept}

-- all numbers below a bound, each once
pub record AreAllOnce (numbers : List ℕ) : Type 0 where
  pub distinct : AreDistinct numbers
  pub all : (n : ℕ) → Contains numbers n ↔ (n < length numbers)

-- the numbers of the second list, each once
pub record AreEachOnce (numbers all : List ℕ) : Type 0 where
  pub distinct : AreDistinct numbers
  pub each : (n : ℕ) → Contains numbers n ↔ Contains all n

-- of all numbers below a bound, each of which has a flag, so many are left that are not gone
pub record IsSettled (numbers : List ℕ) (gone : List Bool) (left : ℕ) : Type 0 where
  pub whole : AreAllOnce numbers
  pub long : length gone ≡ length numbers
  pub count : left ≡ length (kept gone numbers)

-- those of the numbers that have a flag and were not gone are gone too, and these are they, each once
pub record TakesOut (numbers : List ℕ) (old new : List Bool) (out : List ℕ) : Type 0 where
  pub long : length new ≡ length old
  pub distinct : AreDistinct out
  pub each : (n : ℕ) → Contains out n ↔ ((n < length old) × (is_flagged old n ≡ false) × Contains numbers n)
  pub gone : (n : ℕ) → (is_flagged new n ≡ true) ↔ ((is_flagged old n ≡ true) ⊎ Contains out n)
