use Rattle.std.proofs.Common.{take, Contains}
use Rattle.saturate.proofs.new_lists.has_list.Given as goal

abbrev pub invariant-loop-number : goal.invariant-loop-number
invariant-loop-number l = Contains (take l.number l.lists) l.list → ⊥
