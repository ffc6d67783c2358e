use Rattle.std.proofs.Common.{take, Contains}
use Rattle.normal_forms.specs.declared.forms.PropId2.{PropId2}
use Rattle.indexes.specs.Keys.{by_end, property_key}
use Rattle.inference.specs.Visits.{NoneUnder}
use Rattle.inference.proofs.second_premises.ends_chain.Given as goal

abbrev pub invariant-loop-above : goal.invariant-loop-above
invariant-loop-above l = (s : PropId2) → Contains (take l.above-index l.above-items) s → NoneUnder by_end l.problem.forms (property_key s)
