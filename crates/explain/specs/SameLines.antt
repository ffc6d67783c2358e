-- Lines that say that two individuals are one, and the table that keeps their numbers.
use Rattle.std.specs.Prelude.{◌≡◌, ◌/◌, ◌%◌, ◌^◌, ℕ, List, map, Some}
use Rattle.std.specs.BTreeMap.{BTreeMap, get}
use Rattle.std.specs.Ordering.{nat_cmp}
use Rattle.axioms.specs.View.{at_number}
use Rattle.axioms.specs.declared.ids.IndId.{IndId}
use Rattle.certificate.specs.Certificate.{Same, Line}

-- the line of that number says that the two are one
abbrev pub SaysSame : List Line → ℕ → IndId → IndId → Type 0
SaysSame lines n i j = at_number (map (λ l. l.conclusion) lines) n ≡ Some (Same i.0 j.0)

-- each number that is kept, by a number for two individuals, is that of such a line
abbrev pub AreSameLines : List Line → BTreeMap ℕ ℕ → Type 0
AreSameLines lines kept = (key n : ℕ) → get nat_cmp kept key ≡ Some n → at_number (map (λ l. l.conclusion) lines) n ≡ Some (Same (key / 2 ^ 32) (key % 2 ^ 32))
