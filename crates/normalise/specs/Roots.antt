-- The contexts that are there from the start.
use Rattle.std.specs.Prelude.{◌≡◌, ◌↔◌, ◌⊎◌, ◌<◌, ◌≤◌, ◌++◌, ℕ, List, length}
use Rattle.std.specs.List.{Contains}
use Rattle.axioms.specs.Ontology.{Ontology, IsClassAt}
use Rattle.axioms.specs.WellFormedness.{IsOntology}
use Rattle.axioms.specs.declared.ids.ExprId.{ExprId}
use Rattle.axioms.specs.declared.ids.IndId.{IndId}
use Rattle.facts.specs.declared.contexts.Context as code
use Rattle.facts.specs.declared.contexts.Context.TheVariants as contexts
use Rattle.closure.specs.Closure.{AreAsked, Context, IsRoot}
use Rattle.closure.specs.Denotations.{SaysContext}
use Rattle.normalise.specs.View.{Keeps}

-- the contexts are exactly the roots: named classes, individuals and what is asked about
pub record AreRoots (o : Ontology) (asked : List ℕ) (roots : List code.Context) : Type 0 where
  pub each : (x : code.Context) → Contains roots x → (y : Context) × SaysContext x y × IsRoot o asked y
  pub all : (y : Context) → IsRoot o asked y → (x : code.Context) × Contains roots x × SaysContext x y

-- new has the contexts of old and those with P, and no others
abbrev pub AddsThose : (code.Context → Type 0) → List code.Context → List code.Context → Type 0
AddsThose P old new = (x : code.Context) → Contains new x ↔ (Contains old x ⊎ P x)

-- the expression of a named class from one number on and below another
abbrev pub IsNamedWithin : Ontology → ℕ → ℕ → code.Context → Type 0
IsNamedWithin o from k x = (c : ℕ) × (e : ExprId) × (from ≤ c) × (c < k) × IsClassAt o c e.0 × (x ≡ contexts.Expr e)

abbrev pub IsNamedFrom : Ontology → ℕ → code.Context → Type 0
IsNamedFrom o from x = IsNamedWithin o from (length o.names.classes) x

-- an individual from one number on and below another
abbrev pub IsIndividualWithin : ℕ → ℕ → code.Context → Type 0
IsIndividualWithin from k x = (i : IndId) × (from ≤ i.0) × (i.0 < k) × (x ≡ contexts.Individual i)

abbrev pub IsIndividualFrom : Ontology → ℕ → code.Context → Type 0
IsIndividualFrom o from x = IsIndividualWithin from (length o.names.individuals) x

-- the contexts are exactly the named classes and the individuals from these numbers on
abbrev pub AreRootsFrom : Ontology → ℕ → ℕ → List code.Context → Type 0
AreRootsFrom o classes individuals roots = (x : code.Context) → Contains roots x ↔ (IsNamedFrom o classes x ⊎ IsIndividualFrom o individuals x)

-- the classes and the individuals of o have the same numbers in p
pub record KeepsNames (o p : Ontology) : Type 0 where
  pub classes : Keeps o.names.classes p.names.classes
  pub individuals : Keeps o.names.individuals p.names.individuals

-- p is o with more expressions, and with more names: classes and individuals from these numbers on
pub record HasMoreNames (o p : Ontology) (classes individuals : ℕ) : Type 0 where
  pub nodes : Keeps o.nodes p.nodes
  pub names : KeepsNames o p
  pub new_classes : classes ≡ length o.names.classes
  pub new_individuals : individuals ≡ length o.names.individuals

-- behind the roots of an ontology, which has become p with more names from these numbers on, they are those of p
abbrev pub AreRootsAgain : Ontology → ℕ → ℕ → List code.Context → Type 0
AreRootsAgain p classes individuals more = (o : Ontology) (asked : List ℕ) (roots : List code.Context) → IsOntology o → AreAsked o asked →
    HasMoreNames o p classes individuals → AreRoots o asked roots → AreRoots p asked (roots ++ more)
