use Rattle.std.proofs.Common.{◌≡◌, ℕ, true, take}
use Rattle.number_sets.specs.Members.{has}
use Rattle.cert_check.specs.Lists.{has_number}
use Rattle.cert_check.proofs.claims.has_each.Given as goal

abbrev pub invariant-loop-number : goal.invariant-loop-number
invariant-loop-number l = (n : ℕ) → has_number (take l.number-index l.numbers) n ≡ true → has l.set n ≡ true
