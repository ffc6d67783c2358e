use Rattle.std.proofs.Common.{take}
use Rattle.generated_part.specs.Elements.{AddsTargets}
use Rattle.generated_part.proofs.by_element.push_targets.Given as goal

abbrev pub invariant-loop-target : goal.invariant-loop-target
invariant-loop-target l = AddsTargets l.initial.found.items l.property (take l.target-index l.targets) l.found.items
