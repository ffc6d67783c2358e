use Rattle.std.proofs.Common.{take, Contains}
use Rattle.normal_forms.specs.declared.forms.PropId2.{PropId2}
use Rattle.inference.specs.Visits.{NoneNeeds}
use Rattle.inference.proofs.spared.is_whole_spared.Given as goal

abbrev pub invariant-loop-above : goal.invariant-loop-above
invariant-loop-above l = (s : PropId2) → Contains (take l.above-index l.above-items) s → NoneNeeds l.problem.forms l.older.0 l.older.1 s
