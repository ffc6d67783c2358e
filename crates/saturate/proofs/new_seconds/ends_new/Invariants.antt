use Rattle.std.proofs.Common.{◌<◌, ℕ, take, Contains}
use Rattle.normal_forms.specs.declared.forms.PropId2.{PropId2}
use Rattle.indexes.specs.FormsUnderKeys.{IsUnder}
use Rattle.indexes.specs.Keys.{by_end, property_key}
use Rattle.saturate.proofs.new_seconds.ends_new.Given as goal

abbrev pub invariant-loop-above : goal.invariant-loop-above
invariant-loop-above l = (s : PropId2) → Contains (take l.above-index l.above-items) s → (n : ℕ) → IsUnder by_end l.problem.forms (property_key s) n → n < l.from
