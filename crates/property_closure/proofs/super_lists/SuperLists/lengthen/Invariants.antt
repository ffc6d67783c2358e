use Rattle.std.proofs.Common.{◌≡◌, ◌+◌, ◌≤◌, ℕ, length}
use Rattle.property_closure.specs.Growth.{IsLengthened, lists_of}
use Rattle.property_closure.proofs.super_lists.SuperLists.lengthen.Given as goal

abbrev pub invariant-loop-place : goal.invariant-loop-place
invariant-loop-place l = record {
  base : l.self.base.value ≡ l.fn.self.base.value;
  from : l.base ≡ length l.fn.self.base.value;
  long : length l.self.more ≡ l.place;
  most : (m : ℕ) → length (lists_of l.fn.self) ≤ m → l.n ≤ m → l.base + l.place ≤ m;
  longer : IsLengthened (lists_of l.fn.self) (lists_of l.self) (l.base + l.place);
}
