use Rattle.std.proofs.Common.{◌+◌, [], length}
use Rattle.source_lines.specs.Sources.{source_state}
use Rattle.telling.specs.Devices.{seen}
use Rattle.speech.specs.Conversations.{point}
use Rattle.speech.proofs.Conversing.{HasAnswered}
use Rattle.speech.proofs.conversation.converse.Given as goal

abbrev pub invariant-loop-fault : goal.invariant-loop-fault
invariant-loop-fault g l =
    HasAnswered g.V.Service (point l.fn.service [] (source_state g.S.Source l.fn.source) (seen g.O.Sink l.fn.sink)) (point l.service l.lines.ahead (source_state g.S.Source l.source) (seen g.O.Sink l.sink))

abbrev pub decreases-loop-fault : goal.decreases-loop-fault
decreases-loop-fault g l = g.S.Source.most l.source + length l.lines.ahead
