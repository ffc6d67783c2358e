use Rattle.certificate.specs.View.{lines_of}
use Rattle.explain.proofs.HandedOn.{AreHandedOn}
use Rattle.explain.proofs.resting.mark_premises.Given as goal

abbrev pub invariant-loop-place : goal.invariant-loop-place
invariant-loop-place l = AreHandedOn (lines_of l.lines) l.fn.marks l.marks l.place
