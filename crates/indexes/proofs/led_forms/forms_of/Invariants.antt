use Rattle.std.proofs.Common.{take}
use Rattle.indexes.specs.ListedForms.{AreChangedForms}
use Rattle.indexes.proofs.led_forms.forms_of.Given as goal

abbrev pub invariant-loop-list : goal.invariant-loop-list
invariant-loop-list l = AreChangedForms l.forms (take l.list-index l.lists) l.changed
