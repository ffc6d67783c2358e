use Rattle.std.proofs.Common.{◌≡◌, ◌-◌, drop, take}
use Rattle.saturate.proofs.summary.forms_from.Given as goal

abbrev pub invariant-loop-number : goal.invariant-loop-number
invariant-loop-number l = l.rest ≡ take (l.number - l.from) (drop l.from l.forms)
