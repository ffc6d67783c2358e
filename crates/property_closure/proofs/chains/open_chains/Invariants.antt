use Rattle.std.proofs.Common.{◌≡◌, ◌↔◌, length, take, Contains}
use Rattle.normal_forms.specs.declared.forms.PropId2.{PropId2}
use Rattle.normal_forms.specs.Properties.{IsChainFrom}
use Rattle.property_closure.specs.Chains.{open_chains_at}
use Rattle.property_closure.proofs.chains.open_chains.Given as goal

abbrev pub invariant-loop-form : goal.invariant-loop-form
invariant-loop-form l = record {
  properties : length l.unsorted.properties ≡ l.properties;
  partials : length l.unsorted.partials ≡ l.partials;
  each : (p : PropId2) (c : PropId2 × PropId2) → Contains (open_chains_at l.unsorted p) c ↔ IsChainFrom (take l.form-index l.forms) p c;
}
