use Rattle.certificate.specs.View.{lines_of}
use Rattle.explain.proofs.Renumbering.{AreKeptSoFar}
use Rattle.explain.proofs.kept.kept.Given as goal

abbrev pub invariant-loop-place : goal.invariant-loop-place
invariant-loop-place l = AreKeptSoFar (lines_of l.lines) l.marks l.place (lines_of l.kept.items) l.places.items
