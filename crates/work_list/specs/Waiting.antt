-- Facts that wait, in a list for each context, and the contexts on a stack.
use Rattle.std.specs.Prelude.{◌≡◌, ◌⊎◌, ℕ, suc, ◌<◌, Bool, true, List, [], ◌∷◌, ◌++◌, Contains, Option, Some, length, map, slice_index_or}
use Rattle.number_sets.specs.Members.{has}
use Rattle.work_list.specs.declared.begun.Begun.{Begun}
use Rattle.work_list.specs.declared.item.Item.{Item}
use Rattle.work_list.specs.Groups.{Grouped}

abbrev pub item_of : ℕ → ℕ → Item
item_of context fact = record { fact = fact; context = context }

-- the facts of a context, as items
abbrev pub items_of : ℕ → List ℕ → List Item
items_of context facts = map (item_of context) facts

-- the items of contexts from this one on, whose facts stand one list behind the other
abbrev pub items_from : ℕ → List (List ℕ) → List Item
items_from context [] = []
items_from context (facts ∷ lists) = items_of context facts ++ items_from (suc context) lists

abbrev pub items_in : List (List ℕ) → List Item
items_in lists = items_from 0 lists

-- the facts of a context, of which there are none past the end
abbrev pub list_at : List (List ℕ) → ℕ → List ℕ
list_at lists context = slice_index_or lists context []

-- each context has the same facts
abbrev pub IsSame : (old new : List (List ℕ)) → Type 0
IsSame old new = (c : ℕ) → list_at new c ≡ list_at old c

-- each context has the same facts, but this one
abbrev pub IsSameBut : ℕ → (old new : List (List ℕ)) → Type 0
IsSameBut context old new = (c : ℕ) → (c ≡ context → ⊥) → list_at new c ≡ list_at old c

-- each context that has facts stands on the stack
abbrev pub AllStand : List (List ℕ) → List ℕ → Type 0
AllStand lists stack = (c : ℕ) → 0 < length (list_at lists c) → Contains stack c

-- each context that has facts stands on the stack, or it is its turn
abbrev pub AreStacked : List (List ℕ) → List ℕ → Option ℕ → Type 0
AreStacked lists stack last = (c : ℕ) → 0 < length (list_at lists c) → (last ≡ Some c) ⊎ Contains stack c

-- the context whose turn it is has had one, and for each context that has facts there is room among those that may have had one
pub record HaveRoom (lists : List (List ℕ)) (last : Option ℕ) (begun : List Bool) : Type 0 where
  pub last_has : (c : ℕ) → last ≡ Some c → has begun c ≡ true
  pub room : (c : ℕ) → 0 < length (list_at lists c) → c < length begun

-- what is seen of them
abbrev pub grouped : List (List ℕ) → Option ℕ → Begun → Grouped
grouped groups last begun = record { items = items_in groups; last = last; begun = begun.contexts.items }
