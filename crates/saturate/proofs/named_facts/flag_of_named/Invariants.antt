use Rattle.std.proofs.Common.{◌≡◌, length, take}
use Rattle.saturate.specs.Flags.{AreFlaggedToo, IsSuchForOne}
use Rattle.saturate.specs.Requests.{IsOfNamed, IsSuchAt}
use Rattle.saturate.proofs.named_facts.flag_of_named.Given as goal

abbrev pub invariant-loop-number : goal.invariant-loop-number
invariant-loop-number l = record {
  long : length l.flags ≡ length l.facts.facts;
  too : AreFlaggedToo (IsSuchForOne (λ form. IsSuchAt (IsOfNamed form) l.facts.facts) (take l.number l.forms)) l.fn.flags l.flags;
}
