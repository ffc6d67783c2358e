-- Which facts are to have lines.
use Rattle.std.specs.Prelude.{◌≡◌, ℕ, suc, ◌<◌, ◌⊎◌, List, All, Bool, true, length, slice_get, Option, Some, MatchOption}
use Rattle.std.specs.List.{Contains}
use Rattle.axioms.specs.Ontology.{Ontology, IsClassAt, thing, nothing}
use Rattle.axioms.specs.View.{at_number}
use Rattle.certificate.specs.Certificate.{Line}
use Rattle.engine.specs.Saturations.{Saturated}
use Rattle.explain.specs.Uses.{IsPremise, RestsOn}
use Rattle.explain.specs.LinesOfFacts.{AreShowing}
use Rattle.facts.specs.declared.contexts.Context.{Context}
use Rattle.facts.specs.declared.contexts.Context.TheVariants as contexts
use Rattle.facts.specs.declared.contexts.Fact.{Fact}
use Rattle.facts.specs.declared.contexts.Fact.TheVariants as facts
use Rattle.normal_forms.specs.declared.forms.Class2.TheVariants as classes
use Rattle.normalise.specs.Problem.{prefixes_of}
use Rattle.number_sets.specs.Pieces.{list_at}

-- ---- facts that are wanted

abbrev pub IsClass : Ontology → ℕ → Type 0
IsClass o e = (c : ℕ) × IsClassAt o c e

-- a named class or an expression that is asked about
abbrev pub IsClassOrAsked : Ontology → List ℕ → ℕ → Type 0
IsClassOrAsked o asked e = IsClass o e ⊎ Contains asked e

-- a named class, an individual or an expression that is asked about
abbrev pub IsNamedOrAsked : Ontology → List ℕ → Context → Type 0
IsNamedOrAsked o asked (contexts.Expr e) = IsClassOrAsked o asked e.0
IsNamedOrAsked o asked (contexts.Individual a) = a.0 < length o.names.individuals

-- the fact puts a named class, an individual or an expression that is asked about in a named class or in such an expression
abbrev pub IsWantedFact : Ontology → List ℕ → Fact → Type 0
IsWantedFact o asked (facts.In (classes.Expr e) x) = IsClassOrAsked o asked e.0 × IsNamedOrAsked o asked x
IsWantedFact o asked (facts.In (classes.Partial n) x) = ⊥
IsWantedFact o asked (facts.Edge x r y) = ⊥

-- owl:Thing or an individual
abbrev pub IsTopContext : Ontology → Context → Type 0
IsTopContext o (contexts.Expr e) = e.0 ≡ thing
IsTopContext o (contexts.Individual a) = a.0 < length o.names.individuals

-- the fact puts owl:Thing or an individual in owl:Nothing
abbrev pub IsContradictoryFact : Ontology → Fact → Type 0
IsContradictoryFact o (facts.In (classes.Expr e) x) = (e.0 ≡ nothing) × IsTopContext o x
IsContradictoryFact o (facts.In (classes.Partial n) x) = ⊥
IsContradictoryFact o (facts.Edge x r y) = ⊥

-- ---- a fact that is a goal

-- the fact of that number, counted from 1, is so
abbrev pub IsGoal : (Fact → Type 0) → List Fact → ℕ → Type 0
IsGoal P facts number = (f : Fact) × (at_number facts number ≡ Some f) × P f

-- the number of a fact that is so, where there is one
abbrev pub FindsGoal : (Fact → Type 0) → List Fact → Option ℕ → Type 0
FindsGoal P facts found = MatchOption found (All (λ f. P f → ⊥) facts) (IsGoal P facts)

-- ---- facts that are marked, by their numbers

abbrev pub IsMarked : List Bool → ℕ → Type 0
IsMarked marks n = slice_get marks n ≡ Some true

-- what the line of a marked fact rests on is marked
abbrev pub AreClosed : Saturated → List Bool → Type 0
AreClosed s marks = (n m : ℕ) → IsMarked marks n → RestsOn s n m → IsMarked marks m

-- the line of a later fact that is marked rests on the fact
abbrev pub ServesLater : Saturated → List Bool → ℕ → Type 0
ServesLater s marks n = (m : ℕ) × (n < m) × IsMarked marks m × RestsOn s m n

-- the fact is marked and serves no later one that is marked
abbrev pub IsLastMarked : Saturated → List Bool → ℕ → Type 0
IsLastMarked s marks n = IsMarked marks n × (ServesLater s marks n → ⊥)

-- lines show each marked fact, and each line is a premise of a later one or shows a marked fact that is so
pub record ShowMarked (s : Saturated) (marks : List Bool) (P : ℕ → Type 0) (lines : List Line) : Type 0 where
  -- of each fact the numbers of the lines that show it
  pub numbers : List (List ℕ)
  pub each : (n : ℕ) (f : Fact) → IsMarked marks n → slice_get s.state.facts n ≡ Some f → AreShowing (prefixes_of s.normal) lines (list_at numbers n) f
  pub needed : (n : ℕ) → n < length lines → IsPremise lines n ⊎ ((m : ℕ) × P m × Contains (list_at numbers m) (suc n))
