use Rattle.std.proofs.Common.{◌≡◌, ℕ, length, slice_get, Some}
use Rattle.normal_forms.specs.declared.forms.Class2.TheVariants.{Expr}
use Rattle.inference.specs.Marks.{HasFilled}
use Rattle.inference.proofs.fillers.all_filled.Given as goal

abbrev pub invariant-loop-number : goal.invariant-loop-number
invariant-loop-number l = record {
  are : (n mask : ℕ) → slice_get l.masks.items n ≡ Some mask → HasFilled l.problem.forms mask (Expr (record { 0 = n }));
  long : length l.masks.items ≡ l.number;
}
