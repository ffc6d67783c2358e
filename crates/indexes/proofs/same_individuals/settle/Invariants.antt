use Rattle.std.proofs.Common.{◌≡◌, ◌<◌, ℕ, length, slice_get, Some}
use Rattle.axioms.specs.declared.ids.IndId.{IndId}
use Rattle.normal_forms.specs.declared.forms.Form.{Form}
use Rattle.facts.specs.Closure.{Links}
use Rattle.indexes.specs.Roots.{AreEntriesSame, HaveOneRoot, LeadDown}
use Rattle.indexes.proofs.same_individuals.settle.Given as goal

abbrev pub invariant-loop-number : goal.invariant-loop-number
invariant-loop-number l = record {
  long : length l.table ≡ length l.fn.table;
  down : LeadDown l.table;
  joined : (k : ℕ) (form : Form) (i j : IndId) → k < l.number → slice_get l.forms k ≡ Some form → Links form i j → HaveOneRoot l.table i.0 j.0;
  sound : AreEntriesSame l.forms l.table;
}
