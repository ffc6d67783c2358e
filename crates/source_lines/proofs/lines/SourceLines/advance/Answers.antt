use Rattle.std.proofs.Common.{sym, ap}
use Rattle.source_lines.specs.Lines.{AtHand}
use Rattle.source_lines.specs.Places.{at_hand}
use Rattle.source_lines.proofs.Reading.{has_line, no_line_from}
use Rattle.source_lines.proofs.lines.SourceLines.advance.Goals as goal

pub returns-in-Some-clause-ok : goal.returns-in-Some-clause-ok
returns-in-Some-clause-ok g c =
    let lines = c.self.inside in
    has_line c.args.self.now lines.buffer.items lines.end c.in-Some.end lines.filled _ (ap (λ (h : AtHand). h.ahead) (sym c.self.view_is)) (rw c.deref.ensures.value at c.in-Some.ensures.some)

pub returns-in-Err-clause-fault : goal.returns-in-Err-clause-fault
returns-in-Err-clause-fault g c =
    let lines = c.self.inside in
    no_line_from c.in-Err.fault c.args.self.now (at_hand lines.buffer.items lines.end lines.end lines.filled) _ _ (ap (λ (h : AtHand). h.ahead) (sym c.self.view_is)) c.in-Err.ensures.fault
