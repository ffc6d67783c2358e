-- Items that are popped context by context.
use Rattle.std.specs.Prelude.{◌≡◌, ℕ, Bool, true, false, List, [], Contains, Option, Some, None, Result, Ok, Err}
use Rattle.number_sets.specs.Members.{has}
use Rattle.work_list.specs.declared.item.Item.{Item}
use Rattle.work_list.specs.Bag.{Adds, HasItemOf}

-- the items that wait, in no order that means anything, and the context whose turn it is: that of the one that was popped last, or one
-- that the list was led to since; and of contexts, by number, whether they have had a turn: none past the end has
pub record Grouped : Type 0 where
  pub items : List Item
  pub last : Option ℕ
  pub begun : List Bool

-- the same contexts have had a turn
abbrev pub HaveSame : (old new : List Bool) → Type 0
HaveSame old new = (c : ℕ) → has new c ≡ has old c

-- the same contexts have had a turn, and this one
pub record Begins (context : ℕ) (old new : List Bool) : Type 0 where
  pub itself : has new context ≡ true
  pub others : (c : ℕ) → (c ≡ context → ⊥) → has new c ≡ has old c

-- new is old with the item, or the item is handed back and nothing changes
abbrev pub PushesInto : Item → Result Unit Item → (old new : List Item) → Type 0
PushesInto item (Ok _) old new = Adds item old new
PushesInto item (Err back) old new = (back ≡ item) × (new ≡ old)

-- the item is of the context whose turn it is, if any of the items is
abbrev pub StaysWith : Option ℕ → List Item → Item → Type 0
StaysWith last items item = (other : Item) → Contains items other → last ≡ Some other.context → last ≡ Some item.context

-- new is old without the item, which is of the context whose turn it was if any is, and whose context has its turn now
pub record PopsNext (item : Item) (old new : Grouped) : Type 0 where
  pub items : Adds item new.items old.items
  pub together : StaysWith old.last old.items item
  pub last : new.last ≡ Some item.context
  pub begun : Begins item.context old.begun new.begun

-- the same, and none is popped exactly where none was there
abbrev pub PopsTogether : Option Item → (old new : Grouped) → Type 0
PopsTogether (Some item) old new = PopsNext item old new
PopsTogether None old new = (old.items ≡ []) × (new ≡ old)

-- it is the turn of the context, which has had none before and of which an item waits, or nothing changes; in either case the same
-- items wait
abbrev pub LeadsTo : ℕ → Bool → (old new : Grouped) → Type 0
LeadsTo context true old new = (new.items ≡ old.items) × (new.last ≡ Some context) × HasItemOf context new.items × (has old.begun context ≡ false) × Begins context old.begun new.begun
LeadsTo context false old new = new ≡ old
