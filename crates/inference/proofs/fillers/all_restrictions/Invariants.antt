use Rattle.std.proofs.Common.{length}
use Rattle.inference.specs.Marks.{AreRestrictionsBefore, AreRestrictionsWithin}
use Rattle.inference.proofs.fillers.all_restrictions.Given as goal

abbrev pub invariant-loop-number : goal.invariant-loop-number
invariant-loop-number l = record {
  within : AreRestrictionsWithin l.forms (length l.lists);
  before : AreRestrictionsBefore l.forms l.number l.lists;
}
