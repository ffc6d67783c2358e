-- The chains that begin with a property, or with one above it, listed with what they give.
use Rattle.std.specs.Prelude.{◌≡◌, ◌==◌, ℕ, Bool, true, false, if◌then◌else◌, List, [], ◌∷◌, slice_get, Some}
use Rattle.std.specs.List.{Contains}
use Rattle.normal_forms.specs.declared.forms.Form.{Form}
use Rattle.normal_forms.specs.declared.forms.Form.TheVariants.{N6}
use Rattle.normal_forms.specs.declared.forms.PropId2.{PropId2}
use Rattle.normal_forms.specs.declared.forms.PropId2.TheVariants.{Property}
use Rattle.normal_forms.specs.Properties.{IsAtOrBelow}
use Rattle.facts.specs.declared.contexts.Fact.{Fact}
use Rattle.facts.specs.Closure.{Problem}
use Rattle.indexes.specs.Keys.{by_chain, property_key}
use Rattle.indexes.specs.FormsUnderKeys.{IsUnder}
use Rattle.inference.specs.declared.plans.PlannedChain.{PlannedChain}
use Rattle.inference.specs.Completeness.{IsDrawnFrom}
use Rattle.inference.specs.Marks.{HasAboveOf}

-- whether one of the chains has the number
abbrev pub has_number : List PlannedChain → ℕ → Bool
has_number [] n = false
has_number (c ∷ plan) n = if c.number == n then true else has_number plan n

-- the chain is the form of its number
abbrev pub SaysItsChain : List Form → PlannedChain → Type 0
SaysItsChain forms c = slice_get forms c.number ≡ Some (N6 c.first c.second c.whole)

abbrev pub SayTheirChains : List Form → List PlannedChain → Type 0
SayTheirChains forms plan = (c : PlannedChain) → Contains plan c → SaysItsChain forms c

-- the chains that begin with r are there
abbrev pub HasChainsFrom : List Form → List PlannedChain → PropId2 → Type 0
HasChainsFrom forms plan r = (n : ℕ) → IsUnder by_chain forms (property_key r) n → has_number plan n ≡ true

-- the chains are those of their numbers, and those that begin with p, or with a property above it, are there
pub record IsPlan (forms : List Form) (p : PropId2) (plan : List PlannedChain) : Type 0 where
  pub say : SayTheirChains forms plan
  pub has : (r : PropId2) → IsAtOrBelow forms p r → HasChainsFrom forms plan r

-- each plan is that of the property whose number is its place
abbrev pub ArePlans : List Form → List (List PlannedChain) → Type 0
ArePlans forms plans = (n : ℕ) (plan : List PlannedChain) → slice_get plans n ≡ Some plan → IsPlan forms (Property (record { 0 = n })) plan

-- a plan grows by chains of the forms, and has those with these numbers
pub record PlansAlso (forms : List Form) (IsNumber : ℕ → Type 0) (old new : List PlannedChain) : Type 0 where
  pub say : SayTheirChains forms old → SayTheirChains forms new
  pub keeps : (n : ℕ) → has_number old n ≡ true → has_number new n ≡ true
  pub has : (n : ℕ) → IsNumber n → (r s t : PropId2) → slice_get forms n ≡ Some (N6 r s t) → has_number new n ≡ true

-- the facts are two, the second is an edge, and the mask has the bits of its property and of those above it
abbrev pub HasAboveBehind : List Form → ℕ → List Fact → Type 0
HasAboveBehind forms mask (f ∷ g ∷ []) = HasAboveOf forms mask g
HasAboveBehind forms mask _ = ⊥

-- what the chains of the plan give from these facts is there
abbrev pub IsPlanDrawn : Problem → List Fact → List Fact → List PlannedChain → Type 0
IsPlanDrawn k older facts plan = (c : PlannedChain) → Contains plan c → IsDrawnFrom k older facts c.number
