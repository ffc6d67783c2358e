-- Lists of numbers by key, all in one piece.
use Rattle.std.specs.Prelude.{◌≡◌, ℕ, zero, suc, ◌+◌, ◌-◌, ◌<◌, ◌≤◌, ◌↔◌, List, [], length, take, drop, slice_index, slice_set}
use Rattle.std.specs.List.Sorted.{IsNonDecreasing}
use Rattle.indexes.specs.declared.lists.Filling.{Filling}

-- the list of a key: what stands from where it starts up to where that of the next key does, and nothing where there is no next
abbrev pub list_at : {X : Type 0} → List ℕ → List X → ℕ → List X
list_at starts items key = take (slice_index starts (key + 1) - slice_index starts key) (drop (slice_index starts key) items)

-- no list starts behind the next, nor behind the end of what is listed
abbrev pub IsWithin : {X : Type 0} → List ℕ → List X → Type 0
IsWithin starts items = (key : ℕ) → key + 1 < length starts → (slice_index starts key ≤ slice_index starts (key + 1)) × (slice_index starts (key + 1) ≤ length items)

-- where no list has a number, there is none
abbrev pub AreAllListed : List ℕ → List ℕ → Type 0
AreAllListed starts numbers = ((key : ℕ) → list_at starts numbers key ≡ []) → numbers ≡ []

-- how many the keys below have together
abbrev pub before : (ℕ → ℕ) → ℕ → ℕ
before count zero = 0
before count (suc key) = before count key + count key

-- each list starts behind those of the keys below, where each has so many numbers
pub record AreStarts (starts counts : List ℕ) : Type 0 where
  pub at : (key : ℕ) → key < length starts → slice_index starts key ≡ before (slice_index counts) key
  pub long : (key : ℕ) → key < length counts ↔ key + 1 < length starts

-- there is room for so many numbers of each key, and none is placed
pub record IsRoomFor (counts : List ℕ) (filling : Filling) : Type 0 where
  pub starts : AreStarts filling.starts.items counts
  pub next : filling.next.items ≡ filling.starts.items
  pub long : length filling.numbers.items ≡ before (slice_index counts) (length counts)

-- a number of the key has a place where it goes
pub record HasPlace (filling : Filling) (key : ℕ) : Type 0 where
  pub there : key < length filling.next.items
  pub room : slice_index filling.next.items key < length filling.numbers.items
  pub few : length filling.numbers.items ≤ 4294967295

-- the number goes there, and the next of the key behind it
pub record Places (old new : Filling) (key number : ℕ) : Type 0 where
  pub starts : new.starts.items ≡ old.starts.items
  pub next : new.next.items ≡ slice_set old.next.items key (slice_index old.next.items key + 1)
  pub numbers : new.numbers.items ≡ slice_set old.numbers.items (slice_index old.next.items key) number

-- the lists are full: they stand one behind the other up to the end, and each ascends
pub record IsFull (filling : Filling) : Type 0 where
  pub within : IsWithin filling.starts.items filling.numbers.items
  pub listed : AreAllListed filling.starts.items filling.numbers.items
  pub ascending : (key : ℕ) → IsNonDecreasing (list_at filling.starts.items filling.numbers.items key)
