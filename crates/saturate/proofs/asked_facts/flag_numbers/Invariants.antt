use Rattle.std.proofs.Common.{◌≡◌, length, take}
use Rattle.saturate.specs.Flags.{AreFlaggedToo, IsSuchForOne}
use Rattle.saturate.proofs.asked_facts.flag_numbers.Given as goal

abbrev pub invariant-loop-place : goal.invariant-loop-place
invariant-loop-place l = record {
  long : length l.flags ≡ length l.fn.flags;
  too : AreFlaggedToo (IsSuchForOne (λ i n. n ≡ i) (take l.place l.numbers)) l.fn.flags l.flags;
}
