use Rattle.std.proofs.Common.{◌≡◌, length}
use Rattle.inference.specs.Marks.{AreMarks}
use Rattle.inference.proofs.known_facts.mark_all.Given as goal

abbrev pub invariant-loop-place : goal.invariant-loop-place
invariant-loop-place l = record {
  are : AreMarks l.facts l.marks.items;
  long : length l.marks.items ≡ l.place;
}
