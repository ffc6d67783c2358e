-- What a line of a derivation rests on, and the derivation that is left of it. Lines have their numbers, from 1.
use Rattle.std.specs.Prelude.{◌≡◌, ℕ, zero, suc, ◌<◌, ◌↔◌, List, [], ◌∷◌, ◌++◌, map, length, slice_get, Some, None, Option, if◌then◌else◌, ◌==◌, Contains, unwrap_or}
use Rattle.std.specs.List.{list_any}
use Rattle.certificate.specs.Certificate.{Conclusion, Line}
use Rattle.certificate.specs.Writability.{Ascends}
use Rattle.axioms.specs.View.{at_number}
use Rattle.cert_check.specs.Derivation.{at_numbers}

-- the last line has the conclusion
pub record EndsWith (lines : List Line) (conclusion : Conclusion) : Type 0 where
  pub front : List Line
  pub last : Line
  pub lines_are : lines ≡ front ++ last ∷ []
  pub says : last.conclusion ≡ conclusion

-- the line of number goal rests on the line of that number: itself, and the premises of what it rests on
pub data RestsOn (lines : List Line) (goal : ℕ) : ℕ → Type 0 where
  itself : RestsOn lines goal goal
  premise : {m : ℕ} (n : ℕ) (line : Line) → RestsOn lines goal n → at_number lines n ≡ Some line → Contains line.premises m → RestsOn lines goal m

-- the place of m among the numbers, from 1
abbrev pub place : List ℕ → ℕ → ℕ
place [] m = 0
place (n ∷ ns) m = if n == m then 1 else suc (place ns m)

-- with premises by their places
abbrev pub renumbered_line : List ℕ → Line → Line
renumbered_line numbers line = record line { premises = map (place numbers) line.premises }

-- the lines that the goal rests on and no others, in their order, with premises by their new numbers
pub record IsTrimmed (lines : List Line) (goal : ℕ) (trimmed : List Line) : Type 0 where
  pub numbers : List ℕ
  pub ascend : Ascends numbers
  pub exact : (n : ℕ) → Contains numbers n ↔ RestsOn lines goal n
  pub kept : List Line
  pub kept_at : at_numbers lines numbers ≡ Some kept
  pub trimmed_is : trimmed ≡ map (renumbered_line numbers) kept

-- each line but the last is a premise of a later one
abbrev pub EachServes : List Line → Type 0
EachServes lines = (n : ℕ) → suc n < length lines → (m : ℕ) × (line : Line) × (n < m) × (slice_get lines m ≡ Some line) × Contains line.premises (suc n)

-- ---- the same as a function

abbrev pub premises_of : Option Line → List ℕ
premises_of None = []
premises_of (Some line) = line.premises

-- the numbers up to n that are wanted, or that a wanted line up to n rests on, ascending
abbrev pub wanted_below : List Line → List ℕ → ℕ → List ℕ
wanted_below lines wanted zero = []
wanted_below lines wanted (suc n) =
    if list_any (λ m. m == suc n) wanted
    then wanted_below lines (premises_of (at_number lines (suc n)) ++ wanted) n ++ suc n ∷ []
    else wanted_below lines wanted n

abbrev pub trimmed_numbers : List Line → ℕ → List ℕ
trimmed_numbers lines goal = wanted_below lines (goal ∷ []) goal

-- what is left for the goal
abbrev pub trimmed : List Line → ℕ → List Line
trimmed lines goal =
    let numbers = trimmed_numbers lines goal in
    map (renumbered_line numbers) (unwrap_or (at_numbers lines numbers) [])
