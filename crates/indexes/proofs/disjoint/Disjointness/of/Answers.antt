use Rattle.std.proofs.Common.{List, slice_get, subst, sym}
use Rattle.indexes.specs.declared.disjoint.Operand.{Operand}
use Rattle.indexes.specs.Disjoint.{operand_key, AreInLists}
use Rattle.indexes.specs.FormIndex.{at_key, ListsNumbers}
use Rattle.indexes.proofs.Operands.{in_lists}
use Rattle.indexes.proofs.disjoint.Disjointness.of.Goals as goal

pub invariant_of-result : goal.invariant_of-result
invariant_of-result c = record {
  lists = subst AreInLists (sym c.in_ok-operands.ensures.operands) (in_lists 0 c.args.lists.now);
  listed = subst (λ (operands : List Operand). ListsNumbers operand_key (slice_get operands) (at_key c.in_ok-places.places)) c.deref.ensures.value c.in_ok-places.ensures.listed;
  ascend = c.in_ok-places.ensures.ascend;
}
