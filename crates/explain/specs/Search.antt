-- The search along forms from one number, with the way to each number that it reaches: from a property to those above it, or from an
-- individual to those that are one with it.
use Rattle.std.specs.Prelude.{◌≡◌, ℕ, ◌<◌, ◌≤◌, ◌^◌, ◌⊎◌, ◌↔◌, List, [], ◌∷◌, ◌++◌, length, slice_get, Option, Some, None}
use Rattle.std.specs.BTreeMap.{BTreeMap, get}
use Rattle.std.specs.List.{Contains}
use Rattle.std.specs.Ordering.{nat_cmp}
use Rattle.axioms.specs.declared.ids.IndId.{IndId}
use Rattle.axioms.specs.declared.ids.PropId.{PropId}
use Rattle.facts.specs.Closure.{Links}
use Rattle.indexes.specs.FormsUnderKeys.{IsUnder}
use Rattle.indexes.specs.Keys.{by_linked_first, by_linked_second, individual_key}
use Rattle.normal_forms.specs.declared.forms.Form.{Form}
use Rattle.normal_forms.specs.declared.forms.Form.TheVariants.{N5}
use Rattle.number_sets.specs.Pieces.{list_at}
use Rattle.explain.specs.declared.told.Told.{Told}
use Rattle.explain.specs.declared.reached.Reached.{Reached}
use Rattle.explain.specs.declared.reached.Way.{Way}

abbrev pub as_id : ℕ → PropId
as_id p = record { 0 = p }

abbrev pub as_individual : ℕ → IndId
as_individual i = record { 0 = i }

-- ---- which forms lead from which number to which

-- the form of that number leads from r to s, which is above
abbrev pub LeadsUp : List Form → ℕ → ℕ → ℕ → Type 0
LeadsUp forms n r s = slice_get forms n ≡ Some (N5 (as_id r) (as_id s))

-- the form of that number makes the two one, in either order
abbrev pub LinksBy : List Form → ℕ → IndId → IndId → Type 0
LinksBy forms n i j = (form : Form) × (slice_get forms n ≡ Some form) × Links form i j

abbrev pub LeadsOver : List Form → ℕ → ℕ → ℕ → Type 0
LeadsOver forms n i j = LinksBy forms n (as_individual i) (as_individual j)

-- the form of that number makes the individual one with another, as its first or as its second
abbrev pub IsLinkOf : List Form → IndId → ℕ → Type 0
IsLinkOf forms i n = IsUnder by_linked_first forms (individual_key i) n ⊎ IsUnder by_linked_second forms (individual_key i) n

-- the numbers that such forms lead to from c
pub data IsLedTo (Leads : ℕ → ℕ → ℕ → Type 0) (c : ℕ) : ℕ → Type 0 where
  itself : IsLedTo Leads c c
  onward : {d : ℕ} (n b : ℕ) → IsLedTo Leads c b → Leads n b d → IsLedTo Leads c d

-- what the forms name is below the bound
abbrev pub AreLeadsWithin : ℕ → (ℕ → ℕ → ℕ → Type 0) → Type 0
AreLeadsWithin bound Leads = (n r s : ℕ) → Leads n r s → (r < bound) × (s < bound)

-- these are the forms that lead from r, with what they lead to
abbrev pub AreToldOf : (ℕ → ℕ → ℕ → Type 0) → ℕ → List Told → Type 0
AreToldOf Leads r list = (t : Told) → Contains list t ↔ Leads t.form r t.to

-- for each number below the bound the forms that lead from it
pub record AreTold (bound : ℕ) (Leads : ℕ → ℕ → ℕ → Type 0) (lists : List (List Told)) : Type 0 where
  pub long : length lists ≡ bound
  pub exact : (r : ℕ) → AreToldOf Leads r (list_at lists r)

-- .. or no list was made
abbrev pub AreToldOrNone : ℕ → (ℕ → ℕ → ℕ → Type 0) → List (List Told) → Type 0
AreToldOrNone bound Leads lists = (lists ≡ []) ⊎ AreTold bound Leads lists

-- what the form of that number leads to from r is there too
abbrev pub AddsTold : (ℕ → ℕ → ℕ → Type 0) → (n r : ℕ) → (old new : List Told) → Type 0
AddsTold Leads n r old new = (t : Told) → Contains new t ↔ (Contains old t ⊎ ((t.form ≡ n) × Leads n r t.to))

-- ---- what was reached

-- the last step to d, which stands at that place: none where d is c
abbrev pub IsWay : (ℕ → ℕ → ℕ → Type 0) → ℕ → List Reached → ℕ → ℕ → Option Way → Type 0
IsWay Leads c found place d None = d ≡ c
IsWay Leads c found place d (Some way) = (b : Reached) × (way.from < place) × (slice_get found way.from ≡ Some b) × Leads way.form b.number d

abbrev pub AreWays : (ℕ → ℕ → ℕ → Type 0) → ℕ → List Reached → Type 0
AreWays Leads c found = (place : ℕ) (r : Reached) → slice_get found place ≡ Some r → IsWay Leads c found place r.number r.way

-- each way comes from an earlier place
abbrev pub AreEarlier : List Reached → Type 0
AreEarlier found = (place : ℕ) (r : Reached) (way : Way) → slice_get found place ≡ Some r → r.way ≡ Some way → way.from < place

-- the number was reached, at that place
abbrev pub StandsAt : List Reached → ℕ → ℕ → Type 0
StandsAt found d place = (r : Reached) × (slice_get found place ≡ Some r) × (r.number ≡ d)

-- the number was reached at no place
abbrev pub HasNo : List Reached → ℕ → Type 0
HasNo found d = (place : ℕ) → StandsAt found d place → ⊥

-- these are c and all that forms lead to from it, with the ways to them
pub record AreReached (Leads : ℕ → ℕ → ℕ → Type 0) (c : ℕ) (found : List Reached) : Type 0 where
  pub ways : AreWays Leads c found
  pub all : (d : ℕ) → IsLedTo Leads c d → (place : ℕ) × StandsAt found d place

-- the ways back from that place go by the forms of these numbers, the last step first
pub data IsTrace (found : List Reached) : ℕ → List ℕ → Type 0 where
  start : (place : ℕ) (r : Reached) → slice_get found place ≡ Some r → r.way ≡ None → IsTrace found place []
  step : {numbers : List ℕ} (place : ℕ) (r : Reached) (way : Way) → slice_get found place ≡ Some r → r.way ≡ Some way → IsTrace found way.from numbers → IsTrace found place (numbers ++ way.form ∷ [])

-- ---- the search

abbrev pub start_of : ℕ → Reached
start_of c = record { number = c; way = None }

-- what the form leads to from what was reached at that place
abbrev pub step_from : ℕ → Told → Reached
step_from from t = record { number = t.to; way = Some (record { form = t.form; from = from }) }

-- ---- what is kept

-- the list that is kept for a property is of it and of those above it, with the ways to them
abbrev pub AreKept : List Form → BTreeMap ℕ ℕ → List (List Reached) → Type 0
AreKept forms places lists = (p place : ℕ) → get nat_cmp places p ≡ Some place → (place < length lists) × AreReached (LeadsUp forms) p (list_at lists place)

-- the plain forms that lead from each of so many properties, or no lists, and ways from properties
pub record AreWaysUp (forms : List Form) (properties : ℕ) (told : List (List Told)) (places : BTreeMap ℕ ℕ) (lists : List (List Reached)) : Type 0 where
  pub few : properties ≤ 2 ^ 32
  pub within : AreLeadsWithin properties (LeadsUp forms)
  pub leads : AreToldOrNone properties (LeadsUp forms) told
  pub kept : AreKept forms places lists
