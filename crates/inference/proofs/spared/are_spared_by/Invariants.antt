use Rattle.std.proofs.Common.{◌≡◌, ℕ, take, Contains, slice_get, Some}
use Rattle.normal_forms.specs.declared.forms.Form.{Form}
use Rattle.inference.specs.Completeness.{IsSparedBy}
use Rattle.inference.proofs.spared.are_spared_by.Given as goal

abbrev pub invariant-loop-number : goal.invariant-loop-number
invariant-loop-number l = (n : ℕ) → Contains (take l.number-index l.numbers) n → (form : Form) → slice_get l.problem.forms n ≡ Some form → IsSparedBy l.problem.forms l.older.0 l.older.1 form
