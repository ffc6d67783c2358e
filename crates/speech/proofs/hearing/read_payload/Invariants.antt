use Rattle.std.proofs.Common.{◌+◌, ◌-◌, length}
use Rattle.source_lines.specs.Sources.{source_state}
use Rattle.speech.specs.Conversations.{Comes}
use Rattle.speech.proofs.Coming.{IsPart}
use Rattle.speech.proofs.hearing.read_payload.Given as goal

abbrev pub invariant-loop-lines : goal.invariant-loop-lines
invariant-loop-lines g l = record {
  comes : Comes l.fn.lines.ahead l.lines.ahead (source_state g.S.Source l.fn.source) (source_state g.S.Source l.source) l.payload.items;
  part : IsPart l.size l.payload.items;
}

abbrev pub decreases-loop-lines : goal.decreases-loop-lines
decreases-loop-lines g l = l.size + 1 - length l.payload.items
