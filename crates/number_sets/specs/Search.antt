-- The search for the numbers that steps lead to: each number has a list of steps, and each step leads to a number.
use Rattle.std.specs.Prelude.{◌≡◌, ℕ, ◌<◌, Bool, true, List, [], ◌∷◌, ◌++◌, if◌then◌else◌, length, fold, slice_get, slice_set, Some}
use Rattle.std.specs.List.{Contains}
use Rattle.number_sets.specs.Members.{has}
use Rattle.number_sets.specs.Pieces.{list_at}
use Rattle.number_sets.specs.declared.search.NumberSearch.{NumberSearch}

-- it is one of the first, or a step in the list of a number that they lead to leads to it
pub data LeadsTo {T F : Type 0} (number : F → ℕ) (target : T → ℕ) (starts : List F) (lists : List (List T)) : ℕ → Type 0 where
  itself : (x : F) → Contains starts x → LeadsTo number target starts lists (number x)
  onward : (b : ℕ) (step : T) → LeadsTo number target starts lists b → Contains (list_at lists b) step → LeadsTo number target starts lists (target step)

-- each step leads to a number that has a list
abbrev pub IsBounded : {T : Type 0} → (T → ℕ) → List (List T) → Type 0
IsBounded {T} target lists = (b : ℕ) (step : T) → Contains (list_at lists b) step → target step < length lists

-- ---- what was found

-- the number was found, at that place
abbrev pub StandsAt : {F : Type 0} → (F → ℕ) → List F → ℕ → ℕ → Type 0
StandsAt {F} number found d place = (x : F) × (slice_get found place ≡ Some x) × (number x ≡ d)

-- it is one of the first, or a step led to it from what was found at an earlier place
pub data IsWay {T F : Type 0} (number : F → ℕ) (by : T → ℕ → F) (starts : List F) (lists : List (List T)) (found : List F) (place : ℕ) : F → Type 0 where
  first : (x : F) → Contains starts x → IsWay number by starts lists found place x
  step : (from : ℕ) (b : F) (step : T) → from < place → slice_get found from ≡ Some b → Contains (list_at lists (number b)) step → IsWay number by starts lists found place (by step from)

abbrev pub AreWays : {T F : Type 0} → (F → ℕ) → (T → ℕ → F) → List F → List (List T) → List F → Type 0
AreWays {T} {F} number by starts lists found = (place : ℕ) (x : F) → slice_get found place ≡ Some x → IsWay number by starts lists found place x

-- these are the numbers that the first lead to, each with the last step to it
pub record AreFound {T F : Type 0} (number : F → ℕ) (target : T → ℕ) (by : T → ℕ → F) (starts : List F) (lists : List (List T)) (found : List F) : Type 0 where
  pub ways : AreWays number by starts lists found
  pub all : (d : ℕ) → LeadsTo number target starts lists d → (place : ℕ) × StandsAt number found d place

-- ---- the search

-- what was found, in order, and its numbers as a set
pub record Search (F : Type 0) : Type 0 where
  pub found : List F
  pub seen : List Bool

abbrev pub search_of : {F : Type 0} → NumberSearch F → Search F
search_of s = record { found = s.found.items; seen = s.seen }

-- with one number more, unless it is there
abbrev pub with_number : {F : Type 0} → Search F → ℕ → F → Search F
with_number f d x = if has f.seen d then f else record { found = f.found ++ x ∷ []; seen = slice_set f.seen d true }

abbrev pub with_starts : {F : Type 0} → (F → ℕ) → Search F → List F → Search F
with_starts number f xs = fold (λ g x. with_number g (number x) x) f xs

-- with what the steps lead to from what was found at that place
abbrev pub with_steps : {T F : Type 0} → (F → ℕ) → (T → ℕ → F) → ℕ → Search F → List T → Search F
with_steps number by place f steps = fold (λ g step. with_number g (number (by step place)) (by step place)) f steps
