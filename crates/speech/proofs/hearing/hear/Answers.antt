use Rattle.std.proofs.Common.{sym}
use Rattle.source_lines.specs.Sources.{source_state}
use Rattle.speech.proofs.Behind.{lacks_behind}
use Rattle.speech.proofs.hearing.hear.Goals as goal

pub returns-in-Err-clause-lacks : goal.returns-in-Err-clause-lacks
returns-in-Err-clause-lacks g c =
    lacks_behind c.args.line.now c.in-Ok.command c.payload_size.result c.in-Err.fault c.args.lines.now.ahead c.read_behind.new.lines.ahead (source_state g.S.Source c.args.source.now) (source_state g.S.Source c.read_behind.new.source)
    c.in-Ok.ensures.spelled (sym c.payload_size.ensures) c.in-Err.ensures.lacks
