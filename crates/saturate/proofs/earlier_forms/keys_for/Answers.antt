use Rattle.std.proofs.Common.{List, subst}
use Rattle.normal_forms.specs.declared.forms.Form.{Form}
use Rattle.saturate.specs.FormKeys.{AreKeysOf}
use Rattle.saturate.proofs.earlier_forms.keys_for.Goals as goal

pub returns : goal.returns
returns c = subst (λ (forms : List Form). AreKeysOf forms c.in_ok-keys_in_order.field-0.items) c.forms-2.ensures c.in_ok-keys_in_order.ensures
