use Rattle.std.proofs.Common.{map, take}
use Rattle.axioms.specs.View.{axiom_of}
use Rattle.normalise.specs.FreshNames.{NameChains}
use Rattle.normalise.specs.Steps.{StatedFrom}
use Rattle.normalise.specs.View.{Adds}
use Rattle.normalise.proofs.made.Made.state_all.Given as goal

abbrev pub invariant-loop-k : goal.invariant-loop-k
invariant-loop-k l =
    Adds l.initial.self l.self (StatedFrom (map axiom_of l.axioms) l.from l.k)
    × (NameChains (take l.from (map axiom_of l.axioms)) l.initial.self.steps → NameChains (take l.k (map axiom_of l.axioms)) l.self.steps)
