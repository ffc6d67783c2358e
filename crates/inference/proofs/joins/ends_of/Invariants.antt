use Rattle.std.proofs.Common.{take, Contains}
use Rattle.normal_forms.specs.declared.forms.PropId2.{PropId2}
use Rattle.inference.specs.Marks.{HasEnd}
use Rattle.inference.proofs.joins.ends_of.Given as goal

abbrev pub invariant-loop-above : goal.invariant-loop-above
invariant-loop-above l = (s : PropId2) → Contains (take l.above-index l.above-items) s → HasEnd l.problem.forms l.mask s
