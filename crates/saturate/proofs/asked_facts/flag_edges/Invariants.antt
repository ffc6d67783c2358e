use Rattle.std.proofs.Common.{◌≡◌, length}
use Rattle.saturate.specs.Flags.{AreFlaggedToo}
use Rattle.saturate.proofs.Listed.{IsEdgeBefore}
use Rattle.saturate.proofs.asked_facts.flag_edges.Given as goal

abbrev pub invariant-loop-number : goal.invariant-loop-number
invariant-loop-number l = record {
  long : length l.flags ≡ length l.facts.facts;
  too : AreFlaggedToo (IsEdgeBefore l.closure l.ground.forms l.added.forms l.facts.facts l.number) l.fn.flags l.flags;
}
