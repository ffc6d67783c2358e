use Rattle.std.proofs.Common.{take, Contains}
use Rattle.normal_forms.specs.declared.forms.PropId2.{PropId2}
use Rattle.indexes.specs.Keys.{property_key, by_chain}
use Rattle.inference.specs.Visits.{NoneUnder}
use Rattle.inference.proofs.visits.begins_chain.Given as goal

abbrev pub invariant-loop-above : goal.invariant-loop-above
invariant-loop-above l = (r : PropId2) → Contains (take l.above-index l.above-items) r → NoneUnder by_chain l.problem.forms (property_key r)
