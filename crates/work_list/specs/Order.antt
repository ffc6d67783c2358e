-- Which item of a list is popped, where the list has its items in the order in which they were pushed.
use Rattle.std.specs.Prelude.{◌≡◌, List, [], ◌∷◌, ◌++◌, Option, Some, None, Result, Ok, Err}
use Rattle.work_list.specs.declared.item.Item.{Item}

-- the item comes last, or is handed back and the list stays
abbrev pub PushesLast : Item → Result Unit Item → (old new : List Item) → Type 0
PushesLast item (Ok _) old new = new ≡ old ++ item ∷ []
PushesLast item (Err back) old new = (back ≡ item) × (new ≡ old)

-- the first of the list is popped
abbrev pub PopsFirst : Option Item → (old new : List Item) → Type 0
PopsFirst (Some item) old new = old ≡ item ∷ new
PopsFirst None old new = (old ≡ []) × (new ≡ [])

-- the last of the list is popped
abbrev pub PopsLast : Option Item → (old new : List Item) → Type 0
PopsLast (Some item) old new = old ≡ new ++ item ∷ []
PopsLast None old new = (old ≡ []) × (new ≡ [])
