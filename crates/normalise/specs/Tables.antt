-- Prefixes by a shorter one and a member more.
use Rattle.std.specs.Prelude.{◌≡◌, ℕ, ◌-◌, ◌<◌, ◌^◌, List, [], ◌∷◌, ◌++◌, length, slice_get, slice_index, Some, None}
use Rattle.std.specs.declared.option.Option.{Option}
use Rattle.axioms.specs.WellFormedness.{AreDistinct}
use Rattle.normalise.specs.declared.start.Start.{Start}
use Rattle.normalise.specs.declared.start.Start.TheVariants.{One, Longer}
use Rattle.normalise.specs.declared.spans.Span.{Span}
use Rattle.normalise.specs.Spans.{IsSpanOf, list_at}

-- each prefix is a shorter one, or a first member, with one member more
abbrev pub Table : Type 0
Table = List (Start × ℕ)

-- the prefix of that number is this list
pub data Spells (table : Table) : ℕ → List ℕ → Type 0 where
  two : {n : ℕ} (c d : ℕ) → slice_get table n ≡ Some (One c, d) → Spells table n (c ∷ d ∷ [])
  longer : {n : ℕ} (m d : ℕ) (ds : List ℕ) → slice_get table n ≡ Some (Longer m, d) → Spells table m ds → Spells table n (ds ++ d ∷ [])

abbrev pub Starts : Table → Start → List ℕ → Type 0
Starts table (One c) ds = ds ≡ c ∷ []
Starts table (Longer n) ds = Spells table n ds

-- the table spells the lists that stand at these places
pub record IsKept {T : Type 0} (number : T → ℕ) (table : Table) (spans : List Span) (members : List T) : Type 0 where
  pub long : length spans ≡ length table
  pub within : (n : ℕ) (s : Span) → slice_get spans n ≡ Some s → IsSpanOf members s
  pub spelled : (n : ℕ) (s : Span) → slice_get spans n ≡ Some s → Spells table n (list_at number members s)
  pub distinct : AreDistinct table
  pub small : length spans < 2 ^ 32

-- what a list is longer than, by the number of that or its first member
abbrev pub start_in : Option ℕ → List ℕ → Start
start_in None list = One (slice_index list 0)
start_in (Some n) list = Longer n

-- what a list is longer than, by the number of that or its first member, and its last member
abbrev pub key_in : Option ℕ → List ℕ → Start × ℕ
key_in shorter list = (start_in shorter list, slice_index list (length list - 1))
