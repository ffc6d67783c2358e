-- Lists of two kinds of keys, as they are filled.
use Rattle.std.specs.Prelude.{◌≡◌, ℕ, Option, Some, None}
use Rattle.normal_forms.specs.declared.forms.Form.{Form}
use Rattle.indexes.specs.declared.keys.Key.{Key}
use Rattle.indexes.specs.declared.keys.Key.TheVariants.{Whole, Partial}
use Rattle.indexes.specs.declared.key_counts.KeyCounts.{KeyCounts}
use Rattle.indexes.specs.declared.key_lists.KeyFilling.{KeyFilling}
use Rattle.indexes.specs.declared.key_lists.KeyLists.{KeyLists}
use Rattle.indexes.specs.declared.roles.ByRole.{ByRole}
use Rattle.indexes.specs.declared.lists.Filling.{Filling}
use Rattle.indexes.specs.declared.lists.Lists.{Lists}
use Rattle.indexes.specs.Lists.{HasPlace, IsFull, IsRoomFor, Places}
use Rattle.indexes.specs.Roles.{ForEach, ForEachTwo}

-- there is room for so many numbers of each key, and none is placed
pub record IsRoomUnder (counts : KeyCounts) (filling : KeyFilling) : Type 0 where
  pub wholes : IsRoomFor counts.wholes.items filling.wholes
  pub partials : IsRoomFor counts.partials.items filling.partials

-- a number of the key has a place where it goes, if there is a key
abbrev pub HasPlaceUnder : KeyFilling → Option Key → Type 0
HasPlaceUnder filling None = Unit {0}
HasPlaceUnder filling (Some (Whole k)) = HasPlace filling.wholes k
HasPlaceUnder filling (Some (Partial k)) = HasPlace filling.partials k

-- the number goes there
abbrev pub PlacesUnder : KeyFilling → KeyFilling → Option Key → ℕ → Type 0
PlacesUnder old new None number = new ≡ old
PlacesUnder old new (Some (Whole k)) number = Places old.wholes new.wholes k number × (new.partials ≡ old.partials)
PlacesUnder old new (Some (Partial k)) number = (new.wholes ≡ old.wholes) × Places old.partials new.partials k number

-- a number of the form has a place under each key that it has
abbrev pub HasPlaces : ByRole KeyFilling → Form → Type 0
HasPlaces filling form = ForEach (λ key by. HasPlaceUnder by (key form)) filling

-- the number goes to each of them
abbrev pub PlacesForm : ByRole KeyFilling → ByRole KeyFilling → Form → ℕ → Type 0
PlacesForm old new form number = ForEachTwo (λ key before after. PlacesUnder before after (key form) number) old new

-- the lists of both kinds are full
pub record AreFull (filling : KeyFilling) : Type 0 where
  pub wholes : IsFull filling.wholes
  pub partials : IsFull filling.partials

-- the lists are those that were filled
pub record IsListsOf (filling : Filling) (lists : Lists) : Type 0 where
  pub starts : lists.starts.items ≡ filling.starts.items
  pub numbers : lists.numbers.items ≡ filling.numbers.items

-- .. of both kinds
pub record AreListsOf (filling : KeyFilling) (lists : KeyLists) : Type 0 where
  pub wholes : IsListsOf filling.wholes lists.wholes
  pub partials : IsListsOf filling.partials lists.partials
