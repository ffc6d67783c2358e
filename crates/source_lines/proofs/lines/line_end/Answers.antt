use Rattle.std.proofs.Common.{subst}
use Rattle.std.specs.Prelude.{slice_range}
use Rattle.memchr.specs.Find.{IsFirstByte, is_byte}
use Rattle.source_lines.proofs.Found.{first_line_from}
use Rattle.source_lines.proofs.lines.line_end.Goals as goal

pub returns-clause-some : goal.returns-clause-some
returns-clause-some c =
    let from = c.args.from in
    let filled = c.args.filled in
    first_line_from c.args.buffer.now from filled c.in_ok-place.place c.requires.ordered c.requires.within
    (subst (IsFirstByte (is_byte 10) (slice_range c.args.buffer.now from filled)) c.in_ok-place.was c.memchr.ensures)
