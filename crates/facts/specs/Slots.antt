-- Where facts are found by their hashes: in slots, which hold one more than the place of a fact, or 0 where they are free.
use Rattle.std.specs.Prelude.{◌≡◌, ℕ, suc, ◌-◌, ◌%◌, ◌^◌, ◌<◌, ◌≤◌, List, length, slice_index, slice_get, Some, bit_and}
use Rattle.facts.specs.declared.contexts.Fact.{Fact}
use Rattle.facts.specs.Hashes.{hash_of}
use Rattle.facts.specs.declared.seeds.Seeds.{Seeds}
use Rattle.facts.specs.declared.slots.Found.{Found}
use Rattle.facts.specs.declared.slots.Found.TheVariants.{At, Free}
use Rattle.facts.specs.declared.slots.Slots.{Slots}
use Rattle.facts.specs.declared.slots.Slots.TheVariants.{Few, Many}
use Rattle.facts.specs.declared.slots.TheConstants.{FEW}

-- the bucket of the fact, of so many
unfoldable pub bucket_of : Seeds → ℕ → Fact → ℕ
bucket_of seeds count fact = bit_and (hash_of seeds fact) (count - 1)

-- how many buckets slots of that size have
abbrev pub count_of : ℕ → ℕ
count_of size = 2 ^ (size % 64)

-- what the slots hold
abbrev pub numbers_of : Slots → List ℕ
numbers_of (Few numbers) = numbers
numbers_of (Many size used numbers) = numbers.items

-- how many buckets there are, of few facts one
abbrev pub buckets_of : Slots → ℕ
buckets_of (Few numbers) = 1
buckets_of (Many size used numbers) = count_of size

-- the slots hold the same numbers, in as many buckets
abbrev pub AreSame : Slots → Slots → Type 0
AreSame t u = (numbers_of u ≡ numbers_of t) × (buckets_of u ≡ buckets_of t)

-- the number is in a slot from the bucket on, and none before it is free
pub record Stands (slots : List ℕ) (bucket number : ℕ) : Type 0 where
  pub slot : ℕ
  pub from : bucket ≤ slot
  pub holds : slice_index slots slot ≡ number
  pub no_gap : (i : ℕ) → bucket ≤ i → i < slot → slice_index slots i ≡ 0 → ⊥

-- the slot is free, as none before it from the bucket on
pub record IsFirstFree (slots : List ℕ) (bucket slot : ℕ) : Type 0 where
  pub from : bucket ≤ slot
  pub within : slot ≤ length slots
  pub free : slice_index slots slot ≡ 0
  pub no_gap : (i : ℕ) → bucket ≤ i → i < slot → slice_index slots i ≡ 0 → ⊥

-- what stands in the first slots stands in the second
abbrev pub StillStand : List ℕ → List ℕ → Type 0
StillStand old new = (b n : ℕ) → 0 < n → Stands old b n → Stands new b n

-- where the slot was the first that is free, the number stands
abbrev pub StandsIn : List ℕ → List ℕ → ℕ → ℕ → Type 0
StandsIn old new slot number = (b : ℕ) → IsFirstFree old b slot → Stands new b number

-- no number that leads to the fact stands there
abbrev pub StandsNowhere : List Fact → List ℕ → ℕ → Fact → Type 0
StandsNowhere facts slots bucket fact = (place : ℕ) → slice_get facts place ≡ Some fact → Stands slots bucket (suc place) → ⊥

-- no slot from the bucket on up to this one is free or leads to the fact
pub record HasPassed (facts : List Fact) (slots : List ℕ) (bucket : ℕ) (fact : Fact) (slot : ℕ) : Type 0 where
  pub from : bucket ≤ slot
  pub within : slot ≤ length slots
  pub no_gap : (i : ℕ) → bucket ≤ i → i < slot → slice_index slots i ≡ 0 → ⊥
  pub others : (i place : ℕ) → bucket ≤ i → i < slot → slice_index slots i ≡ suc place → slice_get facts place ≡ Some fact → ⊥

-- P holds of the place, where a search comes to one
abbrev pub IfAt : Found → (ℕ → Type 0) → Type 0
IfAt (At place) P = P place
IfAt (Free slot) P = Unit {0}

-- P holds of the free slot, where a search comes to one
abbrev pub IfFree : Found → (ℕ → Type 0) → Type 0
IfFree (At place) P = Unit {0}
IfFree (Free slot) P = P slot

-- the fact that is at the place is found in the slots
abbrev pub Holds : Seeds → Slots → Fact → ℕ → Type 0
Holds seeds table fact place = Stands (numbers_of table) (bucket_of seeds (buckets_of table) fact) (suc place)

-- the facts that are found in the first slots are found in the second
abbrev pub StillHolds : Seeds → List Fact → Slots → Slots → Type 0
StillHolds seeds facts old new = (place : ℕ) (fact : Fact) → slice_get facts place ≡ Some fact → Holds seeds old fact place → Holds seeds new fact place

-- the fact is not found in the slots
abbrev pub HoldsNot : Seeds → List Fact → Slots → Fact → Type 0
HoldsNot seeds facts table fact = (place : ℕ) → slice_get facts place ≡ Some fact → Holds seeds table fact place → ⊥

-- there are as many slots as buckets, or more
abbrev pub HasSlots : Slots → Type 0
HasSlots table = buckets_of table ≤ length (numbers_of table)

-- there is room for one number more: of few the last slot is free
abbrev pub HasRoom : Slots → Type 0
HasRoom (Few numbers) = slice_index numbers (FEW - 1) ≡ 0
HasRoom (Many size used numbers) = Unit {0}

-- the slot is one of the few, or one of many or the next behind them
abbrev pub CanHold : Slots → ℕ → Type 0
CanHold (Few numbers) slot = slot < FEW
CanHold (Many size used numbers) slot = slot ≤ length numbers.items
