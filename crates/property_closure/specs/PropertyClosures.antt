-- What a closure of properties is of, and how it is kept.
use Rattle.std.specs.Prelude.{◌≡◌, ℕ, ◌≤◌, ◌^◌, ◌↔◌, List, length, slice_get, Some, true}
use Rattle.std.specs.List.{All}
use Rattle.normal_forms.specs.declared.forms.PropId2.{PropId2}
use Rattle.normal_forms.specs.declared.forms.PropId2.TheVariants.{Partial}
use Rattle.normal_forms.specs.declared.forms.Form.{Form}
use Rattle.normal_forms.specs.Properties.{IsPropertyFormOf, IsPropertyOf, IsReflexive}
use Rattle.number_sets.specs.Members.{has}
use Rattle.property_closure.specs.declared.closure.PropertyClosure.TheInside.{Inside}
use Rattle.property_closure.specs.declared.related.Related.{Related}
use Rattle.property_closure.specs.Growth.{AreSupers, lists_of}
use Rattle.property_closure.specs.Relations.{as_property}
use Rattle.property_closure.specs.Chains.{AreChains, chains_at}

-- how many properties and prefixes of chains there are, and the forms of properties
pub record Known : Type 0 where
  pub properties : ℕ
  pub partials : ℕ
  pub forms : List Form

-- p is in range
abbrev pub Has : Known → PropId2 → Type 0
Has k p = IsPropertyOf k.properties k.partials p

-- each property at its place
abbrev pub AreProperties : List PropId2 → Type 0
AreProperties list = (n : ℕ) (p : PropId2) → slice_get list n ≡ Some p → p ≡ as_property n

-- each prefix of chains at its place
abbrev pub ArePrefixes : List PropId2 → Type 0
ArePrefixes list = (n : ℕ) (p : PropId2) → slice_get list n ≡ Some p → p ≡ Partial n

-- the lists are what the forms say, over so many properties and prefixes of chains or fewer
pub record IsRelated (properties partials : ℕ) (r : Related) : Type 0 where
  pub within : All (IsPropertyFormOf properties partials) r.forms.value.items
  pub covered : length (lists_of r.supers) ≤ properties
  -- past the lists a property is below itself alone
  pub supers : AreSupers r.forms.value.items r.supers.base.value r.supers.more
  pub reflexive : (p : ℕ) → (has r.reflexive.value p ≡ true) ↔ IsReflexive r.forms.value.items (as_property p)
  pub chains : (p : PropId2) → AreChains r.forms.value.items p (chains_at r.chains.value p)

-- both say the same
pub record IsSame (old new : Related) : Type 0 where
  pub forms : new.forms.value.items ≡ old.forms.value.items
  pub base : new.supers.base.value ≡ old.supers.base.value
  pub more : new.supers.more ≡ old.supers.more
  pub reflexive : new.reflexive.value ≡ old.reflexive.value
  pub chains : new.chains.value ≡ old.chains.value

abbrev pub known_by : Inside → Known
known_by c = record { properties = length c.properties.items; partials = length c.partials.items; forms = c.related.forms.value.items }

pub record IsKept (c : Inside) : Type 0 where
  pub properties : AreProperties c.properties.items
  pub partials : ArePrefixes c.partials.items
  pub few_properties : length c.properties.items ≤ 2 ^ 32
  pub few_partials : length c.partials.items ≤ 2 ^ 32
  pub related : IsRelated (length c.properties.items) (length c.partials.items) c.related
