use Rattle.std.proofs.Common.{◌≡◌, map, take}
use Rattle.saturate.specs.FormKeys.{form_key}
use Rattle.saturate.proofs.form_keys.keys_in_order.Given as goal

abbrev pub invariant-loop-number : goal.invariant-loop-number
invariant-loop-number l = l.keys.items ≡ map form_key (take l.number l.forms)
