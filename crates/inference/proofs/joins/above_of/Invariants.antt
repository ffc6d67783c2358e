use Rattle.std.proofs.Common.{take, Contains}
use Rattle.normal_forms.specs.declared.forms.PropId2.{PropId2}
use Rattle.inference.specs.Marks.{HasBit}
use Rattle.inference.proofs.joins.above_of.Given as goal

abbrev pub invariant-loop-above : goal.invariant-loop-above
invariant-loop-above l = (r : PropId2) → Contains (take l.above-index l.above-items) r → HasBit l.mask r
