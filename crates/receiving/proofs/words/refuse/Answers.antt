use Rattle.std.proofs.Common.{sym, subst}
use Rattle.telling.proofs.Telling.{told_status}
use Rattle.telling.specs.Devices.{Device}
use Rattle.receiving.specs.Messages.{IsLineTold}
use Rattle.program.specs.declared.status.Status.TheVariants as statuses
use Rattle.command_line.specs.declared.tasks.LineFault.{LineFault}
use Rattle.receiving.proofs.words.refuse.Goals as goal

pub returns-in-Line : goal.returns-in-Line
returns-in-Line g c =
    let old : Device = (g.E.Sink.taken c.args.err.now, g.E.Sink.failures c.args.err.now) in
    let new : Device = (g.E.Sink.taken c.tell.new.err, g.E.Sink.failures c.tell.new.err) in
    let P : LineFault → Type 0 = λ fault. IsLineTold fault old new c.tell.result in
    subst P (sym c.in-Line.is) (told_status old new c.usage_message.result statuses.Usage c.tell.result c.usage_message.ensures c.tell.ensures)
