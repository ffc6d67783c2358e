-- Individuals that are one with another of a list of individuals that differ.
use Rattle.std.specs.Prelude.{ℕ, List}
use Rattle.axioms.specs.declared.ids.IndId.{IndId}
use Rattle.engine.specs.Saturations.{Saturated}
use Rattle.explain.specs.Paths.{IsChain}
use Rattle.facts.specs.Closure.{AreSame}
use Rattle.normal_forms.specs.Apart.{AreListedAt}

-- the forms make none of those that stand behind the individual in that list one with it
abbrev pub HasNoneBehind : Saturated → ℕ → IndId → Type 0
HasNoneBehind s list i = (j : IndId) → AreListedAt s.normal.apart.individuals list i j → AreSame s.state.problem.forms i j → ⊥

-- the forms of these numbers make the individual one with another that stands behind it in that list
abbrev pub LeadBehind : Saturated → ℕ → IndId → List ℕ → Type 0
LeadBehind s list i numbers = (j : IndId) × AreListedAt s.normal.apart.individuals list i j × IsChain s.state.problem.forms i numbers j
