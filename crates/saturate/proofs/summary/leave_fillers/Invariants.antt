use Rattle.std.proofs.Common.{◌≡◌, ◌<◌, ◌≤◌, ℕ, slice_get, Some}
use Rattle.normal_forms.specs.declared.forms.Form.{Form}
use Rattle.saturate.specs.Summaries.{LeavesFillers}
use Rattle.saturate.proofs.summary.leave_fillers.Given as goal

abbrev pub invariant-loop-number : goal.invariant-loop-number
invariant-loop-number l = (n : ℕ) (form : Form) → l.from ≤ n → n < l.number → slice_get l.forms n ≡ Some form → LeavesFillers form
