-- What the fields of the lines of a source stand for.
use Rattle.std.specs.Prelude.{◌≤◌, length}
use Rattle.source_lines.specs.declared.lines.SourceLines.TheInside.{Inside}
use Rattle.source_lines.specs.Lines.{AtHand}
use Rattle.source_lines.specs.Places.{at_hand}

-- the line at hand, and what was read behind it
abbrev pub hand_of : Inside → AtHand
hand_of lines = at_hand lines.buffer.items lines.start lines.end lines.filled

-- the line at hand stands before what was read behind it, and both in the buffer
pub record IsInOrder (lines : Inside) : Type 0 where
  pub line : lines.start ≤ lines.end
  pub ahead : lines.end ≤ lines.filled
  pub within : lines.filled ≤ length lines.buffer.items
