use Rattle.source_lines.specs.Sources.{source_state}
use Rattle.speech.proofs.Coming.{IsPassing}
use Rattle.speech.proofs.hearing.pass_payload.Given as goal

abbrev pub invariant-loop-fault : goal.invariant-loop-fault
invariant-loop-fault g l = IsPassing l.size l.left l.fn.lines.ahead l.lines.ahead (source_state g.S.Source l.fn.source) (source_state g.S.Source l.source)

abbrev pub decreases-loop-fault : goal.decreases-loop-fault
decreases-loop-fault g l = l.left
