use Rattle.std.proofs.Common.{◌≡◌, ◌↔◌, ℕ, length, take, true, Contains}
use Rattle.normal_forms.specs.declared.forms.Form.TheVariants.{N7}
use Rattle.normal_forms.specs.Properties.{IsAtOrBelow}
use Rattle.number_sets.specs.Members.{has}
use Rattle.property_closure.specs.Relations.{as_id, as_property}
use Rattle.property_closure.proofs.reflexive.reflexive_properties.Given as goal

abbrev pub invariant-loop-form : goal.invariant-loop-form
invariant-loop-form l = record {
  long : length l.reflexive ≡ l.properties;
  each : (p : ℕ) → (has l.reflexive p ≡ true) ↔ ((q : ℕ) × Contains (take l.form-index l.forms) (N7 (as_id q)) × IsAtOrBelow l.forms (as_property q) (as_property p));
}
