use Rattle.std.proofs.Common.{◌≡◌, ◌<◌, ◌≤◌, length, slice_get, slice_index, ℕ}
use Rattle.indexes.specs.Roots.{IsRootOf}
use Rattle.indexes.proofs.roots.flatten.Given as goal

abbrev pub invariant-loop-place : goal.invariant-loop-place
invariant-loop-place l = record {
  long : length l.table ≡ length l.fn.table;
  before : (x : ℕ) → x < l.place → IsRootOf l.fn.table x (slice_index l.table x);
  behind : (x : ℕ) → l.place ≤ x → slice_get l.table x ≡ slice_get l.fn.table x;
}
