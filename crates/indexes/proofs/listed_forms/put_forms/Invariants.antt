use Rattle.std.proofs.Common.{take}
use Rattle.indexes.specs.ListedForms.{AreOf}
use Rattle.indexes.proofs.listed_forms.put_forms.Given as goal

abbrev pub invariant-loop-number : goal.invariant-loop-number
invariant-loop-number l = AreOf l.forms (take l.number-index l.numbers) l.listed.items
