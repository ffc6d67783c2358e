-- Marks on lines. The n-th line, from 0, has the number n + 1.
use Rattle.std.specs.Prelude.{◌≡◌, ◌↔◌, ℕ, zero, suc, ◌<◌, ◌≤◌, List, [], ◌∷◌, ◌++◌, Bool, false, length, map, slice_get, slice_index_or, Some, if◌then◌else◌}
use Rattle.std.specs.List.{Contains}
use Rattle.certificate.specs.Certificate.{Line}
use Rattle.cert_check.specs.Derivation.{at_numbers}
use Rattle.exactness.specs.Trimming.{RestsOn, renumbered_line}
use Rattle.explain.specs.Marks.{IsMarked}

-- each premise is a line before
abbrev pub ArePremisesBefore : List Line → Type 0
ArePremisesBefore lines = (n m : ℕ) (line : Line) → slice_get lines n ≡ Some line → Contains line.premises m → (0 < m) × (m ≤ n)

-- exactly what the goal rests on is marked
abbrev pub MarksRests : List Line → ℕ → List Bool → Type 0
MarksRests lines goal marks = (n : ℕ) → IsMarked marks n ↔ RestsOn lines goal (suc n)

-- each premise of a marked line is a marked line before it
abbrev pub ArePremisesMarked : List Line → List Bool → Type 0
ArePremisesMarked lines marks =
    (n m : ℕ) (line : Line) → IsMarked marks n → slice_get lines n ≡ Some line → Contains line.premises m →
    (k : ℕ) × (m ≡ suc k) × (k < n) × IsMarked marks k

-- the numbers of the marked lines among the first n
abbrev pub marked_numbers : List Bool → ℕ → List ℕ
marked_numbers marks zero = []
marked_numbers marks (suc n) = if slice_index_or marks n false then marked_numbers marks n ++ suc n ∷ [] else marked_numbers marks n

-- the marked lines, with premises by their places among them
pub record AreKept (lines : List Line) (marks : List Bool) (kept : List Line) : Type 0 where
  pub old : List Line
  pub old_at : at_numbers lines (marked_numbers marks (length marks)) ≡ Some old
  pub kept_are : kept ≡ map (renumbered_line (marked_numbers marks (length marks))) old
