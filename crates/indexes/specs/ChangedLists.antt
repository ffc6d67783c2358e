-- Lists of keys that have changed.
use Rattle.std.specs.Prelude.{◌≡◌, ◌<◌, ◌≤◌, ℕ, List, [], ◌∷◌, length, slice_get, if◌then◌else◌, Option, Some, None}
use Rattle.std.specs.List.{Contains}
use Rattle.indexes.specs.declared.key_lists.KeyLists.{KeyLists}
use Rattle.indexes.specs.declared.keys.Key.{Key}
use Rattle.indexes.specs.declared.keys.Key.TheVariants.{Whole}
use Rattle.indexes.specs.FormsUnderKeys.{is_key}
use Rattle.indexes.specs.Lists.{list_at}

-- the list of the key, if it has changed
abbrev pub changed_at : {T : Type 0} → List (Key × List T) → Key → Option (List T)
changed_at [] k = None
changed_at (c ∷ cs) k = if is_key k (Some c.0) then Some c.1 else changed_at cs k

-- the list that has changed, or else that one
abbrev pub changed_or : {T : Type 0} → Option (List T) → List T → List T
changed_or None list = list
changed_or (Some changed) list = changed

-- each has an item
abbrev pub AreUsed : {T : Type 0} → List (Key × List T) → Type 0
AreUsed {T} changed = (c : Key × List T) → Contains changed c → 0 < length c.1

-- the list at the place is that of the key, and none before it is
pub record HasKeyFirst {T : Type 0} (changed : List (Key × List T)) (k : Key) (place : ℕ) : Type 0 where
  pub items : List T
  pub there : slice_get changed place ≡ Some (k, items)
  pub first : (i : ℕ) (c : Key × List T) → i < place → slice_get changed i ≡ Some c → ¬ (c.0 ≡ k)

-- from that number on no whole key has a list with an item, neither among those that are shared nor among those that have changed
abbrev pub EndsAt : {T : Type 0} → ℕ → KeyLists → List (Key × List T) → Type 0
EndsAt end lists changed = (number : ℕ) → end ≤ number → (list_at lists.wholes.starts.items lists.wholes.numbers.items number ≡ []) × (changed_at changed (Whole number) ≡ None)

-- the list of the key is that one then, and the others are what they were
pub record ChangesOne {T : Type 0} (old new : List (Key × List T)) (k : Key) (list : List T) : Type 0 where
  pub here : changed_at new k ≡ Some list
  pub elsewhere : (j : Key) → ¬ (j ≡ k) → changed_at new j ≡ changed_at old j
