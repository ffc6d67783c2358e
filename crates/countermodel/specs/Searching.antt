-- The search for the contexts that edges lead to, by facts over numbers.
use Rattle.std.specs.Prelude.{◌≡◌, ◌↔◌, ◌⊎◌, ℕ, ◌<◌, List, slice_get, Some, true}
use Rattle.std.specs.List.{Contains}
use Rattle.axioms.specs.Ontology.{Ontology}
use Rattle.axioms.specs.declared.ids.PropId.{PropId}
use Rattle.facts.specs.declared.contexts.Context.{Context}
use Rattle.facts.specs.declared.contexts.Context.TheVariants.{Individual}
use Rattle.facts.specs.declared.contexts.Fact.{Fact}
use Rattle.facts.specs.declared.contexts.Fact.TheVariants.{Edge}
use Rattle.normal_forms.specs.declared.forms.PropId2.TheVariants.{Property}
use Rattle.closure.specs.Denotations.{context_of}
use Rattle.closure.specs.Groups.{least_same}
use Rattle.exactness.specs.ListedInterpretation.{IsSatisfiable, Leads}
use Rattle.countermodel.specs.Sets.{HasRoom, holds}
use Rattle.countermodel.specs.declared.context_set.ContextSet.{ContextSet}
use Rattle.countermodel.specs.declared.search.ContextSearch.{ContextSearch}

-- the set has room for the contexts of the ontology, and exactly those that were found
pub record AreMarked (o : Ontology) (found : List Context) (seen : ContextSet) : Type 0 where
  pub room : HasRoom o seen
  pub same : (x : Context) → (holds seen (context_of x) ≡ true) ↔ Contains found x

abbrev pub IsSearch : Ontology → ContextSearch → Type 0
IsSearch o s = AreMarked o s.found.items s.seen

-- the contexts that were found keep their places, and exactly those of which P holds are found too
pub record AddsContexts (P : Context → Type 0) (old new : List Context) : Type 0 where
  pub kept : (k : ℕ) (x : Context) → slice_get old k ≡ Some x → slice_get new k ≡ Some x
  pub each : (x : Context) → Contains new x → Contains old x ⊎ P x
  pub all : (x : Context) → P x → Contains new x

-- the context, and of each of the first n individuals the least of its group
abbrev pub IsStart : Ontology → Context → ℕ → Context → Type 0
IsStart o from n x = (x ≡ from) ⊎ ((a : ℕ) × (a < n) × (x ≡ Individual (record { 0 = least_same o a })))

-- the context has an element of its own
abbrev pub HasElement : Ontology → List ℕ → Context → Type 0
HasElement o asked x = IsSatisfiable o asked (context_of x) × Leads o asked (context_of x)

-- the fact is an edge of a property to the context, which has an element
abbrev pub IsEdgeTo : Ontology → List ℕ → Fact → Context → Type 0
IsEdgeTo o asked fact y = (x : Context) × (q : PropId) × (fact ≡ Edge x (Property q) y) × HasElement o asked y

-- so is the fact of one of the numbers
abbrev pub LeadByFacts : Ontology → List ℕ → List Fact → List ℕ → Context → Type 0
LeadByFacts o asked facts numbers y = (n : ℕ) × Contains numbers n × (fact : Fact) × (slice_get facts n ≡ Some fact) × IsEdgeTo o asked fact y
