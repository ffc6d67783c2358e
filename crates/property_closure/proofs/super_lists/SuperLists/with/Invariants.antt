use Rattle.std.proofs.Common.{◌≡◌, ◌++◌, ◌≤◌, List, length, take}
use Rattle.normal_forms.specs.declared.forms.Form.{Form}
use Rattle.property_closure.specs.Growth.{AreSupers, lists_of}
use Rattle.property_closure.proofs.super_lists.SuperLists.with.Given as goal

abbrev pub invariant-loop-form : goal.invariant-loop-form
invariant-loop-form l = record {
  base : l.lists.base.value ≡ l.self.base.value;
  few : length (lists_of l.lists) ≤ l.properties;
  supers : (before : List Form) → AreSupers before l.self.base.value l.self.more → AreSupers (before ++ take l.form-index l.forms) l.lists.base.value l.lists.more;
}
