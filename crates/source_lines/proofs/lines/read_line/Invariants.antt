use Rattle.std.proofs.Common.{◌≤◌, length}
use Rattle.std.specs.Prelude.{slice_range}
use Rattle.source_lines.specs.Sources.{source_state}
use Rattle.source_lines.proofs.Reading.{HasRead}
use Rattle.source_lines.proofs.lines.read_line.Given as goal

abbrev pub invariant-loop-source : goal.invariant-loop-source
invariant-loop-source g l = record {
  ordered : l.start ≤ l.filled;
  within : l.filled ≤ length l.buffer.items;
  read : HasRead (slice_range l.fn.buffer.items l.fn.start l.fn.filled) (slice_range l.buffer.items l.start l.filled) (source_state g.S.Source l.fn.source) (source_state g.S.Source l.source);
}

abbrev pub decreases-loop-source : goal.decreases-loop-source
decreases-loop-source g l = g.S.Source.most l.source
