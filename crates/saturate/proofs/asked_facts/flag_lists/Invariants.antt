use Rattle.std.proofs.Common.{◌≡◌, length, take}
use Rattle.saturate.specs.Flags.{AreFlaggedToo, IsSuchForOne}
use Rattle.saturate.specs.Requests.{IsSuchAt, ListAsks}
use Rattle.saturate.proofs.asked_facts.flag_lists.Given as goal

abbrev pub invariant-loop-number : goal.invariant-loop-number
invariant-loop-number l = record {
  long : length l.flags ≡ length l.facts.facts;
  too : AreFlaggedToo (IsSuchForOne (λ cs. IsSuchAt (ListAsks cs) l.facts.facts) (take l.number l.lists)) l.fn.flags l.flags;
}
