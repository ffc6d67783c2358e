use Rattle.std.proofs.Common.{ℕ, List, refl, subst}
use Rattle.source_lines.specs.Sources.{source_state}
use Rattle.telling.specs.Devices.{FailsIn, Takes, seen}
use Rattle.speech.specs.Conversations.{point}
use Rattle.speech.specs.Turns.{Hears, LacksBehind}
use Rattle.speech.proofs.Behind.{refused_behind, turn_of}
use Rattle.speech.proofs.conversation.turn.Goals as goal

pub returns-in-Err-hear : goal.returns-in-Err-hear
returns-in-Err-hear g c =
    let t = source_state g.S.Source c.next_line.new.source in
    let u = source_state g.S.Source c.hear.new.source in
    let Q : List ℕ → Type 0 = λ line. LacksBehind line c.in-Err-hear.fault c.next_line.new.lines.ahead c.hear.new.lines.ahead t u in (
      record {
        refused = refused_behind c.in-Ok-Some.line.items c.in-Err-hear.fault c.args.lines.now.ahead c.next_line.new.lines.ahead c.hear.new.lines.ahead
            (source_state g.S.Source c.args.source.now) t u (rw c.in-Ok-Some.field-0-is at c.in-Ok-Some.ensures) (subst Q c.deref.ensures.value c.in-Err-hear.ensures.lacks);
        stays = refl {a = c.args.service.now};
      },
      refl {a = seen g.O.Sink c.args.sink.now},
    )

pub returns-in-Ok-respond : goal.returns-in-Ok-respond
returns-in-Ok-respond g c =
    let t = source_state g.S.Source c.next_line.new.source in
    let u = source_state g.S.Source c.hear.new.source in
    let P : ℕ → Type 0 = λ room. Hears room c.deref.result.now c.next_line.new.lines.ahead c.hear.new.lines.ahead t u c.in-Ok.heard in
    let Q : List ℕ → Type 0 = λ line. Hears (g.V.Service.room c.args.service.now) line c.next_line.new.lines.ahead c.hear.new.lines.ahead t u c.in-Ok.heard in
    turn_of g.V.Service
    (point c.args.service.now c.args.lines.now.ahead (source_state g.S.Source c.args.source.now) (seen g.O.Sink c.args.sink.now))
    (point c.respond.new.service c.hear.new.lines.ahead u (seen g.O.Sink c.respond.new.sink))
    c.in-Ok-Some.line.items c.in-Ok.heard c.next_line.new.lines.ahead t (Takes (seen g.O.Sink c.args.sink.now) (seen g.O.Sink c.respond.new.sink))
    (rw c.in-Ok-Some.field-0-is at c.in-Ok-Some.ensures) (subst Q c.deref.ensures.value (subst P c.most_payload.ensures c.in-Ok.ensures.heard)) c.in-Ok-respond.ensures.whole

pub returns : goal.returns
returns g c =
    let t = source_state g.S.Source c.next_line.new.source in
    let u = source_state g.S.Source c.hear.new.source in
    let P : ℕ → Type 0 = λ room. Hears room c.deref.result.now c.next_line.new.lines.ahead c.hear.new.lines.ahead t u c.in-Ok.heard in
    let Q : List ℕ → Type 0 = λ line. Hears (g.V.Service.room c.args.service.now) line c.next_line.new.lines.ahead c.hear.new.lines.ahead t u c.in-Ok.heard in
    turn_of g.V.Service
    (point c.args.service.now c.args.lines.now.ahead (source_state g.S.Source c.args.source.now) (seen g.O.Sink c.args.sink.now))
    (point c.respond.new.service c.hear.new.lines.ahead u (seen g.O.Sink c.respond.new.sink))
    c.in-Ok-Some.line.items c.in-Ok.heard c.next_line.new.lines.ahead t (FailsIn (seen g.O.Sink c.args.sink.now) (seen g.O.Sink c.respond.new.sink))
    (rw c.in-Ok-Some.field-0-is at c.in-Ok-Some.ensures) (subst Q c.deref.ensures.value (subst P c.most_payload.ensures c.in-Ok.ensures.heard)) c.in-Err-respond.ensures.begun
