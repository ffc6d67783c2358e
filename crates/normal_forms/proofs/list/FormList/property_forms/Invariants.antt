use Rattle.std.proofs.Common.{◌≡◌, take}
use Rattle.normal_forms.specs.Properties.{property_forms}
use Rattle.normal_forms.proofs.list.FormList.property_forms.Given as goal

abbrev pub invariant-loop-number : goal.invariant-loop-number
invariant-loop-number l = l.kept.items ≡ property_forms (take l.number l.self)
