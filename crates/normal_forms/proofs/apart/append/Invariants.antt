use Rattle.std.proofs.Common.{◌≡◌, ◌++◌, take}
use Rattle.normal_forms.proofs.apart.append.Given as goal

abbrev pub invariant-loop-number : goal.invariant-loop-number
invariant-loop-number g l = l.lists ≡ l.fn.lists ++ take l.number l.fn.more
