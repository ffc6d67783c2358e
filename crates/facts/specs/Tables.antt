-- A table of facts: linked by home, some homes with slots, and the facts of one home found by their ends.
use Rattle.std.specs.Prelude.{◌≡◌, ℕ, ◌+◌, List, length, slice_index, slice_get, Some}
use Rattle.std.specs.List.{Contains}
use Rattle.axioms.specs.WellFormedness.{AreDistinct}
use Rattle.facts.specs.Chains.{home_of, Chained}
use Rattle.facts.specs.Slots.{HasSlots, Holds}
use Rattle.facts.specs.declared.contexts.Fact.{Fact}
use Rattle.facts.specs.declared.homes.Key.TheVariants.{Home}
use Rattle.facts.specs.declared.links.Links.{Links}
use Rattle.facts.specs.declared.links.TheConstants.{MANY}
use Rattle.facts.specs.declared.marks.Marks.{Marks}
use Rattle.facts.specs.declared.seeds.Seeds.{Seeds}
use Rattle.facts.specs.declared.slots.Slots.{Slots}

-- the slots hold each of the facts that is of the home
abbrev pub HoldHome : Seeds → List Fact → ℕ → Slots → Type 0
HoldHome seeds facts home table = (place : ℕ) (fact : Fact) → slice_get facts place ≡ Some fact → home_of fact ≡ home → Holds seeds table fact place

-- the slots at the place hold each of the facts that is of the home
pub record HasHome (seeds : Seeds) (facts : List Fact) (slots : List Slots) (home place : ℕ) : Type 0 where
  pub table : Slots
  pub at : slice_get slots place ≡ Some table
  pub has : HasSlots table
  pub holds : HoldHome seeds facts home table

-- the slots that homes lead to, by numbers from MANY on, hold the facts of each
abbrev pub AreLinked : Seeds → List Fact → Links → Type 0
AreLinked seeds facts links = (home place : ℕ) → slice_index links.numbers.items home ≡ place + MANY → HasHome seeds facts links.slots.items home place

-- the facts that are marked stand at their places, and are all those of the owner, if there is one
pub record AreMarked (facts : List Fact) (marks : Marks) : Type 0 where
  pub long : length marks.places.items ≡ length marks.facts.facts
  pub right : (n place : ℕ) (fact : Fact) → slice_get marks.facts.facts n ≡ Some fact → slice_get marks.places.items n ≡ Some place → slice_get facts place ≡ Some fact
  pub all : (home : ℕ) → marks.owner ≡ Some home → (fact : Fact) → Contains facts fact → home_of fact ≡ home → Contains marks.facts.facts fact

-- what holds of a table
pub record IsTable (seeds : Seeds) (chained : Chained) (links : Links) (marks : Marks) : Type 0 where
  pub home : chained.by ≡ Home
  pub distinct : AreDistinct chained.facts
  pub linked : AreLinked seeds chained.facts links
  pub marked : AreMarked chained.facts marks
