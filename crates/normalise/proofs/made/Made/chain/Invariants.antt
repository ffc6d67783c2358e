use Rattle.std.proofs.Common.{◌<◌, length, take}
use Rattle.axioms.specs.View.{prop_numbers}
use Rattle.normal_forms.specs.Origins.{ChainGives}
use Rattle.normalise.specs.Steps.{NamesTo}
use Rattle.normalise.specs.View.{Adds, Below, From, StartsProperty}
use Rattle.normalise.proofs.made.Made.chain.Given as goal

abbrev pub invariant-loop-k : goal.invariant-loop-k
invariant-loop-k l = (l.k < length l.steps → StartsProperty l.self.steps l.shorter (take l.k (prop_numbers l.steps))) × Adds l.initial.self l.self (From l.origin (Below (ChainGives (prop_numbers l.steps) l.whole.0) l.k)) × NamesTo l.initial.self.steps l.self.steps (prop_numbers l.steps) l.k
