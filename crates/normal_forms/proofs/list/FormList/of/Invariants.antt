use Rattle.std.proofs.Common.{◌≡◌, take}
use Rattle.normal_forms.proofs.list.FormList.of.Given as goal

abbrev pub invariant-loop-form : goal.invariant-loop-form
invariant-loop-form l = l.list ≡ take l.form-index l.forms
