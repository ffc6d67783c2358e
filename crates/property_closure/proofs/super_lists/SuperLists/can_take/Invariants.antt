use Rattle.std.proofs.Common.{take}
use Rattle.property_closure.specs.Growth.{BeginBehind}
use Rattle.property_closure.proofs.super_lists.SuperLists.can_take.Given as goal

abbrev pub invariant-loop-form : goal.invariant-loop-form
invariant-loop-form l = BeginBehind l.base (take l.form-index l.forms)
