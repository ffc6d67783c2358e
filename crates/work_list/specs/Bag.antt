-- Lists of items whose order means nothing: how often each item is there, and how many there are.
use Rattle.std.specs.Prelude.{◌≡◌, ℕ, ◌+◌, List, [], Contains, length, Bool, ◌&&◌, nat_eq, count_by, Option, Some, None, if◌then◌else◌}
use Rattle.work_list.specs.declared.item.Item.{Item}

-- two items are one: the same fact and context
abbrev pub is_item : Item → Item → Bool
is_item x y = nat_eq x.fact y.fact && nat_eq x.context y.context

-- how often x is in the list
abbrev pub often : List Item → Item → ℕ
often items x = count_by (is_item x) items

-- new has the items of old and one more x, in any order
pub record Adds (x : Item) (old new : List Item) : Type 0 where
  pub each : (y : Item) → often new y ≡ often old y + (if is_item y x then 1 else 0)
  pub total : length new ≡ length old + 1

-- new has the items of old but the one that is popped; none is popped exactly where none was there
abbrev pub Pops : Option Item → (old new : List Item) → Type 0
Pops (Some x) old new = Adds x new old
Pops None old new = (old ≡ []) × (new ≡ [])

-- the lists have the same items, each as often
pub record HaveSameItems (xs ys : List Item) : Type 0 where
  pub each : (x : Item) → often xs x ≡ often ys x
  pub total : length xs ≡ length ys

-- an item of the context is in the list
pub record HasItemOf (context : ℕ) (items : List Item) : Type 0 where
  pub item : Item
  pub there : Contains items item
  pub is_of : item.context ≡ context
