-- Lines that no line needs yet.
use Rattle.std.specs.Prelude.{◌≡◌, ℕ, suc, ◌<◌, ◌≤◌, ◌⊎◌, List, length, slice_get, Some}
use Rattle.std.specs.List.{Contains}
use Rattle.certificate.specs.Certificate.{Line}
use Rattle.engine.specs.Saturations.{Saturated}
use Rattle.explain.specs.Conditions.{by_different, by_disjoint}
use Rattle.explain.specs.OlderFacts.{rests_on}
use Rattle.facts.specs.Births.{Reason}
use Rattle.number_sets.specs.Pieces.{list_at}

-- a later line has the n-th as a premise
abbrev pub IsPremise : List Line → ℕ → Type 0
IsPremise lines n = (m : ℕ) × (later : Line) × (n < m) × (slice_get lines m ≡ Some later) × Contains later.premises (suc n)

-- the number of the n-th line, counted from 1, is among these
abbrev pub IsAmong : List ℕ → ℕ → Type 0
IsAmong numbers n = Contains numbers (suc n)

-- the number of the n-th line, counted from 1, is in the list of one of the facts of these numbers
abbrev pub IsAmongThose : List (List ℕ) → List ℕ → ℕ → Type 0
IsAmongThose shown facts n = (m : ℕ) × Contains facts m × IsAmong (list_at shown m) n

-- each new line, and each of the given ones, is a premise of a later line, or its number is among these
abbrev pub Uses : List Line → List Line → (ℕ → Type 0) → List ℕ → Type 0
Uses old new Given numbers = (n : ℕ) → n < length new → (length old ≤ n) ⊎ Given n → IsPremise new n ⊎ IsAmong numbers n

-- the number that a birth by such a condition names, if any, is that of a form, and not that of a list of what is apart
abbrev pub NamesForm : ℕ → Type 0
NamesForm condition = (condition ≡ by_different → ⊥) × (condition ≡ by_disjoint → ⊥)

-- the form or list of that number gave the n-th fact, by that condition
abbrev pub IsBornBy : Saturated → ℕ → ℕ → ℕ → Type 0
IsBornBy s n condition number = (r : Reason) × (slice_get s.state.births n ≡ Some r) × (r.condition ≡ condition) × (r.form ≡ Some number)

-- the line of the n-th fact rests on the m-th
abbrev pub RestsOn : Saturated → ℕ → ℕ → Type 0
RestsOn s n m = (r : Reason) × (slice_get s.state.births n ≡ Some r) × Contains (rests_on s.normal.entries r) m

-- the n-th line shows an older fact on which the line of this one rests
abbrev pub ShowsOlder : Saturated → List (List ℕ) → ℕ → ℕ → Type 0
ShowsOlder s shown fact n = (m : ℕ) × RestsOn s fact m × Contains (list_at shown m) (suc n)

-- each new line, and each that shows an older fact that this one rests on, is a premise of a later line, or the fact is shown by it
abbrev pub EachIsUsed : Saturated → List (List ℕ) → ℕ → List Line → List Line → List ℕ → Type 0
EachIsUsed s shown fact old new numbers = Uses old new (ShowsOlder s shown fact) numbers
