-- What stands for the numbers of the lines that show a fact.
use Rattle.std.specs.Prelude.{◌≡◌, ℕ, ◌+◌, ◌-◌, ◌/◌, ◌%◌, ◌^◌, ◌<◌, List, [], ◌∷◌, ◌++◌, length, ltb, map, ◌==◌, if◌then◌else◌, slice_index_or}
use Rattle.std.specs.List.{range_with_len}
use Rattle.number_sets.specs.Pieces.{list_at}

-- none for 0, the number itself where it is below 2^31, and else the list of the number behind that
abbrev pub numbers_at : List (List ℕ) → ℕ → List ℕ
numbers_at lists entry = if ltb entry (2 ^ 31) then (if entry == 0 then [] else (entry ∷ [])) else list_at lists (entry - 2 ^ 31)

-- what stands for the fact of that number: each block has 256 facts, and 0 stands for the last ones of a block that has fewer entries
abbrev pub entry_at : List (List ℕ) → ℕ → ℕ
entry_at blocks fact = slice_index_or (list_at blocks (fact / 256)) (fact % 256) 0

-- the numbers of the lines of each of so many facts
abbrev pub numbers_by_fact : List (List ℕ) → List (List ℕ) → ℕ → List (List ℕ)
numbers_by_fact lists blocks facts = map (λ fact. numbers_at lists (entry_at blocks fact)) (range_with_len 0 facts)

-- what stands for so many facts: each list that is named is there, and the next entry of its block is that of the next fact
pub record AreEntries (lists : ℕ) (blocks : List (List ℕ)) (facts : ℕ) : Type 0 where
  pub named : (fact : ℕ) → entry_at blocks fact < 2 ^ 31 + lists
  pub next : length (list_at blocks (facts / 256)) ≡ facts % 256
  pub later : (block : ℕ) → facts / 256 < block → list_at blocks block ≡ []

-- it stands for these numbers, whatever the lists are
abbrev pub IsEntryOf : List ℕ → ℕ → Type 0
IsEntryOf numbers entry = (entry < 2 ^ 31) × ((lists : List (List ℕ)) → numbers_at lists entry ≡ numbers)

-- the new lists are the old ones and others behind them
abbrev pub IsGrownBy : List (List ℕ) → List (List ℕ) → Type 0
IsGrownBy old new = (more : List (List ℕ)) × (new ≡ old ++ more)
