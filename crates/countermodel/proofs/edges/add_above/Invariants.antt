use Rattle.std.proofs.Common.{◌≡◌, length, take}
use Rattle.countermodel.specs.Edges.{AddsPairs}
use Rattle.countermodel.specs.Ranges.{Within}
use Rattle.countermodel.proofs.Above.{IsListedAbove}
use Rattle.countermodel.proofs.edges.add_above.Given as goal

abbrev pub invariant-loop-above : goal.invariant-loop-above
invariant-loop-above l = (length l.keys ≡ length l.fn.keys) × AddsPairs (Within (length l.fn.keys) l.range (IsListedAbove (take l.above-index l.above-items) l.pair)) l.fn.keys l.keys
