use Rattle.std.proofs.Common.{Contains}
use Rattle.normal_forms.specs.declared.forms.Form.{Form}
use Rattle.saturate.specs.Requests.{IsNew}
use Rattle.saturate.proofs.NewForms.{AreListed}
use Rattle.saturate.proofs.new_forms.new_forms.Given as goal

abbrev pub invariant-loop-number : goal.invariant-loop-number
invariant-loop-number l = record {
  each : (form : Form) → Contains l.new form → IsNew l.earlier.forms l.forms form;
  listed : AreListed l.earlier.forms l.forms l.from l.number l.new;
}
