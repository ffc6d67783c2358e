-- The pairs that edges give.
use Rattle.std.specs.Prelude.{◌≡◌, ◌↔◌, ◌⊎◌, ℕ, List, slice_get, Some}
use Rattle.std.specs.List.{Contains}
use Rattle.normal_forms.specs.declared.forms.PropId2.{PropId2}
use Rattle.normal_forms.specs.declared.forms.PropId2.TheVariants.{Property, Partial}
use Rattle.normal_forms.specs.Properties.{IsAtOrBelow}
use Rattle.property_closure.specs.PropertyClosures.{Known, Has}
use Rattle.facts.specs.declared.contexts.Fact.{Fact}
use Rattle.facts.specs.declared.contexts.Fact.TheVariants.{In, Edge}
use Rattle.closure.specs.Closure.{Context}
use Rattle.closure.specs.Denotations.{context_of}
use Rattle.countermodel.specs.Keys.{HasPair}
use Rattle.countermodel.specs.declared.pair.Pair.{Pair}

-- the pair q is p with that property in place of its own
abbrev pub IsWith : PropId2 → Pair → Pair → Type 0
IsWith r p q = (r ≡ Property q.property) × (q.source ≡ p.source) × (q.target ≡ p.target)

-- q is at or above p
abbrev pub IsSuper : Known → PropId2 → PropId2 → Type 0
IsSuper k p q = Has k p × IsAtOrBelow k.forms p q

-- the pair q with a property at or above that of p
abbrev pub IsAboveIn : Known → Pair → Pair → Type 0
IsAboveIn k p q = IsSuper k (Property p.property) (Property q.property) × (q.source ≡ p.source) × (q.target ≡ p.target)

-- the edge's ends are the elements of the pair, and the pair's property is at or above its own
abbrev pub IsGivenBy : Known → List Context → Fact → Pair → Type 0
IsGivenBy k elements (Edge x (Property q) y) p = (slice_get elements p.source ≡ Some (context_of x)) × (slice_get elements p.target ≡ Some (context_of y)) × IsSuper k (Property q) (Property p.property)
IsGivenBy k elements (Edge x (Partial n) y) p = ⊥
IsGivenBy k elements (In a x) p = ⊥

-- one of the facts is an edge whose ends are the elements of the pair, and the pair's property is at or above its own
abbrev pub IsGiven : Known → List Context → List Fact → Pair → Type 0
IsGiven k elements facts p = (fact : Fact) × Contains facts fact × IsGivenBy k elements fact p

-- the lists have the pairs that they had, and these
abbrev pub AddsPairs : (Pair → Type 0) → List (List ℕ) → List (List ℕ) → Type 0
AddsPairs adds old new = (p : Pair) → HasPair new p ↔ (HasPair old p ⊎ adds p)
