use Rattle.std.proofs.Common.{◌≡◌, ◌≤◌, length}
use Rattle.listed_model.specs.Keeping.{AreKept}
use Rattle.listed_model.proofs.keeping.kept_of.Given as goal

abbrev pub invariant-loop-number : goal.invariant-loop-number
invariant-loop-number l = record {
  kept : AreKept l.ontology l.listed l.kept;
  places : length l.kept.places.items ≡ l.number;
  lists : length l.kept.lists ≤ l.number;
  next : l.next ≤ l.number;
}
