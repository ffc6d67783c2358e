-- The chains that forms say to begin with each property, by lists.
use Rattle.std.specs.Prelude.{◌≡◌, ℕ, ◌<◌, ◌⊎◌, ◌↔◌, List, length}
use Rattle.std.specs.List.{AllPairs, Contains}
use Rattle.normal_forms.specs.declared.forms.PropId2.{PropId2}
use Rattle.normal_forms.specs.declared.forms.PropId2.TheVariants.{Property, Partial}
use Rattle.normal_forms.specs.declared.forms.Form.{Form}
use Rattle.normal_forms.specs.Properties.{ChainComesBefore, IsChainFrom, IsPropertyOf}
use Rattle.number_sets.specs.Pieces.{list_at}
use Rattle.property_closure.specs.declared.chains.OpenChains.{OpenChains}
use Rattle.property_closure.specs.declared.chains.Chains.{Chains}

-- what follows p in a chain with what is above both, ascending
pub record AreChains (forms : List Form) (p : PropId2) (list : List (PropId2 × PropId2)) : Type 0 where
  pub ascending : AllPairs ChainComesBefore list
  pub exact : (c : PropId2 × PropId2) → Contains list c ↔ IsChainFrom forms p c

-- chains begin with what is there
abbrev pub AreChainsWithin : ℕ → ℕ → List Form → Type 0
AreChainsWithin properties partials forms = (p : PropId2) (c : PropId2 × PropId2) → IsChainFrom forms p c → IsPropertyOf properties partials p

-- no form says that something begins a chain
abbrev pub AreNoChains : List Form → Type 0
AreNoChains forms = (p : PropId2) (c : PropId2 × PropId2) → IsChainFrom forms p c → ⊥

abbrev pub open_chains_at : OpenChains → PropId2 → List (PropId2 × PropId2)
open_chains_at o (Property p) = list_at o.properties p.0
open_chains_at o (Partial n) = list_at o.partials n

abbrev pub chains_at : Chains → PropId2 → List (PropId2 × PropId2)
chains_at c (Property p) = list_at c.properties p.0
chains_at c (Partial n) = list_at c.partials n

-- one chain more
pub record AddsChain (old new : OpenChains) (first : PropId2) (chain : PropId2 × PropId2) : Type 0 where
  pub properties : length new.properties ≡ length old.properties
  pub partials : length new.partials ≡ length old.partials
  pub each : (p : PropId2) (c : PropId2 × PropId2) → Contains (open_chains_at new p) c ↔ (Contains (open_chains_at old p) c ⊎ ((p ≡ first) × (c ≡ chain)))

-- the chains of the forms
abbrev pub AreChainsOf : List Form → OpenChains → Type 0
AreChainsOf forms o = (p : PropId2) (c : PropId2 × PropId2) → Contains (open_chains_at o p) c ↔ IsChainFrom forms p c

-- the first n lists, each ascending
pub record ArePacked (lists : List (List (PropId2 × PropId2))) (n : ℕ) (packed : List (List (PropId2 × PropId2))) : Type 0 where
  pub long : length packed ≡ n
  pub ascending : (k : ℕ) → k < n → AllPairs ChainComesBefore (list_at packed k)
  pub same : (k : ℕ) (c : PropId2 × PropId2) → k < n → Contains (list_at packed k) c ↔ Contains (list_at lists k) c
