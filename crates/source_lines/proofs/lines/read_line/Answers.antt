use Rattle.std.proofs.Common.{refl, arith}
use Rattle.std.proofs.lemmas.Result.{err_from_is_err_and}
use Rattle.source_lines.specs.Places.{at_hand}
use Rattle.source_lines.proofs.Reading.{finds_end, finds_line, is_read_on, read_fails, reads_on}
use Rattle.source_lines.proofs.lines.read_line.Goals as goal

pub returns-in_err-make_room-clause-fault : goal.returns-in_err-make_room-clause-fault
returns-in_err-make_room-clause-fault g c =
    let p = err_from_is_err_and c.from_residual.result c.from_residual.ensures.1 in
    rw (p.1, p.2) (is_read_on _ _ _ _ c.loop-source.invariant.read)

pub returns-in_err-read-clause-fault : goal.returns-in_err-read-clause-fault
returns-in_err-read-clause-fault g c =
    let p = err_from_is_err_and c.from_residual-in_err-read.result c.from_residual-in_err-read.ensures.1 in
    rw (p.1, p.2) (read_fails _ _ (at_hand c.args.buffer.now.items c.args.start.now c.args.start.now c.args.filled.now) _ _ _ refl c.loop-source.invariant.read c.in_err-read.ensures.none c.in_err-read.ensures.failed)

pub returns-then-read-eq0-clause-ok : goal.returns-then-read-eq0-clause-ok
returns-then-read-eq0-clause-ok g c =
    let room = c.make_room in
    let read = c.in_ok-read in
    finds_end _ _ (at_hand c.args.buffer.now.items c.args.start.now c.args.start.now c.args.filled.now) room.new.buffer.items c.read_behind.new.buffer.items room.new.start room.new.filled read.read _ _ _
    refl room.ensures.ordered read.ensures.kept room.ensures.kept c.loop-source.invariant.read read.ensures.given read.ensures.unfailed c.if-read-eq0.true (read.ensures.end c.if-read-eq0.true)

pub returns-in-Some-clause-ok : goal.returns-in-Some-clause-ok
returns-in-Some-clause-ok g c =
    let room = c.make_room in
    let read = c.in_ok-read in
    finds_line _ _ (at_hand c.args.buffer.now.items c.args.start.now c.args.start.now c.args.filled.now) room.new.buffer.items c.read_behind.new.buffer.items room.new.start room.new.filled read.read _ _ _
    refl room.ensures.ordered read.ensures.kept room.ensures.kept c.loop-source.invariant.read read.ensures.given read.ensures.unfailed c.in-Some.end
    (rw c.deref.ensures.value at c.in-Some.ensures.some)

pub loop-source-preserved : goal.loop-source-preserved
loop-source-preserved g c =
    let room = c.make_room in
    let read = c.in_ok-read in
    record {
      ordered = omega (arith, room.ensures.ordered);
      within = read.ensures.within;
      read = reads_on _ _ (at_hand c.args.buffer.now.items c.args.start.now c.args.start.now c.args.filled.now) room.new.buffer.items c.read_behind.new.buffer.items room.new.start room.new.filled read.read _ _ _
          refl room.ensures.ordered read.ensures.kept room.ensures.kept c.loop-source.invariant.read read.ensures.given read.ensures.unfailed
          (rw c.deref.ensures.value at c.in_default.ensures.none);
    }
