use Rattle.std.proofs.Common.{◌≡◌, length, take}
use Rattle.saturate.specs.Flags.{AreFlaggedToo, IsSuchForOne, IsListedFor}
use Rattle.saturate.proofs.asked_facts.flag_of_individuals.Given as goal

abbrev pub invariant-loop-number : goal.invariant-loop-number
invariant-loop-number l = record {
  long : length l.flags ≡ length l.fn.flags;
  too : AreFlaggedToo (IsSuchForOne (IsListedFor l.ground.forms l.index l.facts.facts) (take l.number l.forms)) l.fn.flags l.flags;
}
