-- How the lists of what is above each property grow.
use Rattle.std.specs.Prelude.{◌≡◌, ℕ, ◌<◌, ◌≤◌, ◌⊎◌, ◌↔◌, List, [], ◌∷◌, ◌++◌, length}
use Rattle.std.specs.List.{AllPairs, Contains}
use Rattle.normal_forms.specs.declared.forms.PropId2.{PropId2}
use Rattle.normal_forms.specs.declared.forms.Form.{Form}
use Rattle.normal_forms.specs.Properties.{ComesBefore}
use Rattle.number_sets.specs.Pieces.{list_at}
use Rattle.property_closure.specs.declared.super_lists.SuperLists.{SuperLists}
use Rattle.property_closure.specs.Relations.{AreAbove, ArePlainWithin, Tells, as_property}

-- the lists of all properties that have one
abbrev pub lists_of : SuperLists → List (List PropId2)
lists_of l = l.base.value ++ l.more

-- the lists are what plain forms say: those of the first properties, and those of the properties behind
pub record AreSupers (forms : List Form) (base more : List (List PropId2)) : Type 0 where
  pub within : ArePlainWithin (length (base ++ more)) forms
  -- no property behind is above one of the first
  pub apart : (r s : ℕ) → Tells forms r s → r < length base → s < length base
  pub each : (p : ℕ) → p < length (base ++ more) → AreAbove forms (as_property p) (list_at (base ++ more) p)

-- plain forms put something above properties from this number on alone
abbrev pub BeginBehind : ℕ → List Form → Type 0
BeginBehind number forms = (r s : ℕ) → Tells forms r s → number ≤ r

-- the same lists, and behind them those of properties that are above themselves alone, until there are n
pub record IsLengthened (old new : List (List PropId2)) (n : ℕ) : Type 0 where
  pub longer : length old ≤ length new
  pub enough : n ≤ length new
  pub most : (m : ℕ) → length old ≤ m → n ≤ m → length new ≤ m
  pub same : (p : ℕ) → p < length old → list_at new p ≡ list_at old p
  pub alone : (p : ℕ) → length old ≤ p → p < length new → list_at new p ≡ as_property p ∷ []

-- what is in one of both lists, ascending
pub record IsUnion (first second list : List PropId2) : Type 0 where
  pub ascending : AllPairs ComesBefore list
  pub exact : (q : PropId2) → Contains list q ↔ (Contains first q ⊎ Contains second q)

-- a list that has sub and lacks sup has those above sup too, and another stays
abbrev pub IsRaised : PropId2 → PropId2 → List PropId2 → List PropId2 → List PropId2 → Type 0
IsRaised sub sup above old new = (Contains old sub × IsUnion old above new) ⊎ ((Contains old sub → Contains old sup) × (new ≡ old))

-- so it is for each of the first n lists, and the others stay
pub record AreRaised (sub sup : PropId2) (above : List PropId2) (n : ℕ) (old new : List (List PropId2)) : Type 0 where
  pub long : length new ≡ length old
  pub raised : (k : ℕ) → k < n → IsRaised sub sup above (list_at old k) (list_at new k)
  pub same : (k : ℕ) → n ≤ k → list_at new k ≡ list_at old k
