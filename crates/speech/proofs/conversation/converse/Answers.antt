use Rattle.std.proofs.Common.{[], Some, subst}
use Rattle.source_lines.specs.Sources.{source_state}
use Rattle.telling.specs.Devices.{Takes, seen}
use Rattle.speech.specs.Conversations.{point}
use Rattle.speech.specs.Turns.{IsNext, IsRefusalTold}
use Rattle.speech.specs.declared.input_fault.InputFault.{InputFault}
use Rattle.speech.specs.declared.conversation.Ending.{Ending}
use Rattle.speech.specs.declared.conversation.Ending.TheVariants as endings
use Rattle.speech.proofs.Conversing.{answered_more, at_first, ended_by, refused_by, some_taken, unwritten_by}
use Rattle.speech.proofs.conversation.converse.Goals as goal

pub loop-fault-init : goal.loop-fault-init
loop-fault-init g c = at_first g.V.Service c.args.service.now c.new-lines.result.ahead (source_state g.S.Source c.args.source.now) (seen g.O.Sink c.args.sink.now) c.new-lines.ensures.ahead

pub loop-fault-smaller : goal.loop-fault-smaller
loop-fault-smaller g c =
    let b = point c.loop-fault.service c.loop-fault.lines.ahead (source_state g.S.Source c.loop-fault.source) (seen g.O.Sink c.loop-fault.sink) in
    let d = point c.turn.new.service c.turn.new.lines.ahead (source_state g.S.Source c.turn.new.source) (seen g.O.Sink c.turn.new.sink) in
    some_taken g.V.Service b d (Takes b.sink d.sink) c.in-None.ensures

pub loop-fault-preserved : goal.loop-fault-preserved
loop-fault-preserved g c =
    answered_more g.V.Service (point c.args.service.now [] (source_state g.S.Source c.args.source.now) (seen g.O.Sink c.args.sink.now))
    (point c.loop-fault.service c.loop-fault.lines.ahead (source_state g.S.Source c.loop-fault.source) (seen g.O.Sink c.loop-fault.sink))
    (point c.turn.new.service c.turn.new.lines.ahead (source_state g.S.Source c.turn.new.source) (seen g.O.Sink c.turn.new.sink)) c.loop-fault.invariant c.in-None.ensures

pub returns-in-Some-Refused : goal.returns-in-Some-Refused
returns-in-Some-Refused g c =
    let b = point c.loop-fault.service c.loop-fault.lines.ahead (source_state g.S.Source c.loop-fault.source) (seen g.O.Sink c.loop-fault.sink) in
    let d = point c.turn.new.service c.turn.new.lines.ahead (source_state g.S.Source c.turn.new.source) (seen g.O.Sink c.turn.new.sink) in
    let e = seen g.O.Sink c.refuse.new.sink in
    let P : Ending → Type 0 = λ ending. IsNext g.V.Service b d (Some ending) in
    let R : InputFault → Type 0 = λ fault. IsRefusalTold fault d.sink e c.refuse.result in
    ended_by g.V.Service c.args.service.now (source_state g.S.Source c.args.source.now) (seen g.O.Sink c.args.sink.now) b (point d.service d.ahead d.source e) c.refuse.result c.loop-fault.invariant
    (refused_by g.V.Service b d c.in-Some-Refused.fault c.refuse.result e (subst P c.in-Some-Refused.field-0-is c.in-Some-Refused.ensures) (subst R c.in-Some-Refused.fault-is c.refuse.ensures))

pub returns-in-Some-End : goal.returns-in-Some-End
returns-in-Some-End g c =
    let b = point c.loop-fault.service c.loop-fault.lines.ahead (source_state g.S.Source c.loop-fault.source) (seen g.O.Sink c.loop-fault.sink) in
    let d = point c.turn.new.service c.turn.new.lines.ahead (source_state g.S.Source c.turn.new.source) (seen g.O.Sink c.turn.new.sink) in
    let P : Ending → Type 0 = λ ending. IsNext g.V.Service b d (Some ending) in
    ended_by g.V.Service c.args.service.now (source_state g.S.Source c.args.source.now) (seen g.O.Sink c.args.sink.now) b d endings.End c.loop-fault.invariant
    (subst P c.in-Some-End.field-0-is c.in-Some-End.ensures)

pub returns-in-Some-Unwritten : goal.returns-in-Some-Unwritten
returns-in-Some-Unwritten g c =
    let b = point c.loop-fault.service c.loop-fault.lines.ahead (source_state g.S.Source c.loop-fault.source) (seen g.O.Sink c.loop-fault.sink) in
    let d = point c.turn.new.service c.turn.new.lines.ahead (source_state g.S.Source c.turn.new.source) (seen g.O.Sink c.turn.new.sink) in
    let P : Ending → Type 0 = λ ending. IsNext g.V.Service b d (Some ending) in
    ended_by g.V.Service c.args.service.now (source_state g.S.Source c.args.source.now) (seen g.O.Sink c.args.sink.now) b d endings.Unwritten c.loop-fault.invariant
    (unwritten_by g.V.Service b d (subst P c.in-Some-Unwritten.field-0-is c.in-Some-Unwritten.ensures))
