use Rattle.std.proofs.Common.{◌≡◌, ℕ, ◌<◌, length, take}
use Rattle.number_sets.specs.Members.{has}
use Rattle.cert_check.specs.Lists.{has_number}
use Rattle.cert_check.proofs.claims.fill.Given as goal

abbrev pub invariant-loop-number : goal.invariant-loop-number
invariant-loop-number l = record {
  long : length l.set ≡ length l.initial.set;
  each : (n : ℕ) → n < length l.set → has l.set n ≡ has_number (take l.number-index l.numbers) n;
}
