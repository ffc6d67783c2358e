-- Numbers that have their turns.
use Rattle.std.specs.Prelude.{◌≡◌, ℕ, ◌+◌, ◌<◌, ◌≤◌, ◌⊎◌, List, [], ◌∷◌, ◌++◌, length, slice_get, Option, Some, None}
use Rattle.std.specs.List.{Contains}
use Rattle.axioms.specs.WellFormedness.{AreDistinct}
use Rattle.facts.specs.declared.contexts.Context.{Context}
use Rattle.facts.specs.declared.contexts.Context.TheVariants.{Expr, Individual}
use Rattle.facts.specs.declared.contexts.Fact.{Fact}
use Rattle.facts.specs.declared.contexts.Fact.TheVariants.{In, Edge}
use Rattle.indexes.specs.Contexts.{IsLast}
use Rattle.work_list.specs.declared.item.Item.{Item}
use Rattle.work_list.specs.Bag.{Adds, often}

-- the number of the context that a fact is of, as its source or that of a class in it
abbrev pub number_of_context : Context → ℕ
number_of_context (Expr e) = e.0
number_of_context (Individual i) = i.0

abbrev pub context_number : Fact → ℕ
context_number (In a x) = number_of_context x
context_number (Edge x r y) = number_of_context x

-- the number of the context that a fact leads to, if it is an edge
abbrev pub target_number : Fact → Option ℕ
target_number (In a x) = None
target_number (Edge x r y) = Some (number_of_context y)

-- so many numbers were queued; what waits in the list of work; the numbers that were served, in order; and the one in hand, that has its
-- turn next
pub record Queued : Type 0 where
  pub queued : ℕ
  pub waiting : List Item
  pub served : List ℕ
  pub hand : Option ℕ

-- each item that waits has the number of a fact, and that of the fact's context
abbrev pub NameTheirContexts : List Fact → List Item → Type 0
NameTheirContexts facts waiting = (x : Item) → 0 < often waiting x → (f : Fact) × (slice_get facts x.fact ≡ Some f) × (x.context ≡ context_number f)

-- the items of the first list are of the second
abbrev pub AreAmong : List Item → List Item → Type 0
AreAmong some all = (x : Item) → 0 < often some x → 0 < often all x

abbrev pub option_list : Option ℕ → List ℕ
option_list None = []
option_list (Some n) = n ∷ []

abbrev pub item : ℕ → ℕ → Item
item n c = record { fact = n; context = c }

-- the next number waits, under the context
pub record HasOneMore (context : ℕ) (old new : Queued) : Type 0 where
  pub queued : new.queued ≡ old.queued + 1
  pub waiting : Adds (item old.queued context) old.waiting new.waiting
  pub served : new.served ≡ old.served
  pub hand : new.hand ≡ old.hand

-- whatever has the items of old and one more x has those of new and one more y
abbrev pub StillAdds : Item → List Item → Item → List Item → Type 0
StillAdds x old y new = (all : List Item) → Adds x old all → Adds y new all

-- each number either is in the list, once, or was taken
pub record IsQueue (waiting : List Item) (queued : ℕ) (taken : List ℕ) (served : ℕ) : Type 0 where
  pub contexts : List ℕ
  pub long : length contexts ≡ queued
  pub each : (n c : ℕ) → slice_get contexts n ≡ Some c → ((often waiting (item n c) ≡ 1) × (Contains taken n → ⊥)) ⊎ ((often waiting (item n c) ≡ 0) × Contains taken n)
  pub known : (x : Item) → 0 < often waiting x → slice_get contexts x.fact ≡ Some x.context
  pub within : (n : ℕ) → Contains taken n → n < queued
  pub distinct : AreDistinct taken
  pub tally : length waiting + length taken ≡ queued
  pub low : served ≤ length taken

-- it is the turn of the number, if there is one that was not served
pub record HasTurn (size : ℕ) (served : List ℕ) (hand : Option ℕ) : Type 0 where
  pub some : (n : ℕ) → hand ≡ Some n → (n < size) × (length served < size)
  pub none : hand ≡ None → (length served ≡ size) × ((n : ℕ) → n < size → Contains served n)

-- no number was served twice, and the one in hand was not served
pub record IsServedOnce (q : Queued) : Type 0 where
  pub distinct : AreDistinct q.served
  pub fresh : (n : ℕ) → q.hand ≡ Some n → Contains q.served n → ⊥

-- the list without the number, where that is its last
abbrev pub IsWithoutLast : ℕ → List ℕ → List ℕ → Type 0
IsWithoutLast n list rest = (list ≡ rest ++ n ∷ []) ⊎ ((rest ≡ list) × (IsLast list n → ⊥))

-- the list without the number in hand, if there is one and it is the last of the list
abbrev pub IsWithoutHand : Option ℕ → List ℕ → List ℕ → Type 0
IsWithoutHand None list rest = rest ≡ list
IsWithoutHand (Some n) list rest = IsWithoutLast n list rest
