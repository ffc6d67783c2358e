use Rattle.std.proofs.Common.{◌+◌, ◌-◌, length}
use Rattle.normalise.specs.Marks.{unmarked}
use Rattle.normalise.proofs.Marking.{IsClosing}
use Rattle.normalise.proofs.marks.Marked.close.Given as goal

abbrev pub invariant-loop-next : goal.invariant-loop-next
invariant-loop-next l = IsClosing l.ontology.nodes l.initial.self l.self l.next

abbrev pub decreases-loop-next : goal.decreases-loop-next
decreases-loop-next l = (unmarked l.initial.self.marks + length l.initial.self.noted.items) - l.next
