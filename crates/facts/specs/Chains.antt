-- Facts in order, those with one key linked: each with the one before, whose number is one more than its place.
use Rattle.std.specs.Prelude.{◌≡◌, ℕ, suc, ◌+◌, ◌^◌, ◌<◌, ◌≤◌, List, length, slice_index, slice_get, Some}
use Rattle.facts.specs.declared.contexts.Context.{Context}
use Rattle.facts.specs.declared.contexts.Context.TheVariants as contexts
use Rattle.facts.specs.declared.contexts.Fact.{Fact}
use Rattle.facts.specs.declared.contexts.Fact.TheVariants as facts
use Rattle.facts.specs.declared.homes.Key.{Key}
use Rattle.facts.specs.declared.homes.Key.TheVariants as keys
use Rattle.normal_forms.specs.declared.forms.Class2.{Class2}
use Rattle.normal_forms.specs.declared.forms.Class2.TheVariants as classes
use Rattle.normal_forms.specs.declared.forms.PropId2.{PropId2}
use Rattle.normal_forms.specs.declared.forms.PropId2.TheVariants as properties

-- the number of the context: an expression and an individual may have the same
abbrev pub number_of : Context → ℕ
number_of (contexts.Expr e) = e.0
number_of (contexts.Individual a) = a.0

-- the number of the context that the fact is of, an edge of its source
abbrev pub home_of : Fact → ℕ
home_of (facts.In c x) = number_of x
home_of (facts.Edge x p y) = number_of x

abbrev pub class_number : Class2 → ℕ
class_number (classes.Expr e) = e.0
class_number (classes.Partial n) = n

abbrev pub property_number : PropId2 → ℕ
property_number (properties.Property p) = p.0
property_number (properties.Partial n) = n

-- the number of the class, or the sum of those of the property and the target
abbrev pub end_of : Fact → ℕ
end_of (facts.In c x) = class_number c
end_of (facts.Edge x p y) = property_number p + number_of y

-- the number of the fact by which it is linked
abbrev pub key_of : Key → Fact → ℕ
key_of keys.Home fact = home_of fact
key_of keys.End fact = end_of fact

-- facts, and by which number they are linked
pub record Chained : Type 0 where
  pub by : Key
  pub facts : List Fact

-- the fact of that number, where it is not 0, has the key
abbrev pub LeadsTo : Chained → ℕ → ℕ → Type 0
LeadsTo c key number = (place : ℕ) → number ≡ suc place → (fact : Fact) × (slice_get c.facts place ≡ Some fact) × (key_of c.by fact ≡ key)

-- the number of the newest fact with that key among the first so many, or 0
pub record IsNewest (c : Chained) (key bound number : ℕ) : Type 0 where
  pub within : number ≤ bound
  pub leads : LeadsTo c key number
  pub newest : (place : ℕ) (fact : Fact) → place < bound → slice_get c.facts place ≡ Some fact → key_of c.by fact ≡ key → place < number

-- by key the number of the newest fact, and by place that of the fact before with the same key
pub record AreChained (c : Chained) (newest before : List ℕ) : Type 0 where
  pub few : length c.facts < 2 ^ 32
  pub long : length before ≡ length c.facts
  pub first : (key : ℕ) → IsNewest c key (length c.facts) (slice_index newest key)
  pub next : (place : ℕ) (fact : Fact) → slice_get c.facts place ≡ Some fact → IsNewest c (key_of c.by fact) place (slice_index before place)

-- facts with that key, which have the property or stand before that number
abbrev pub AllBut : Chained → ℕ → ℕ → (ℕ → Fact → Type 0) → Type 0
AllBut c key number P = (place : ℕ) (fact : Fact) → slice_get c.facts place ≡ Some fact → key_of c.by fact ≡ key → number ≤ place → P place fact
