use Rattle.std.proofs.Common.{◌≡◌, refl, sym, subst}
use Rattle.certificate_text.specs.declared.conversion.ConvertFault.{ConvertFault}
use Rattle.telling.proofs.Telling.{told}
use Rattle.receiving.specs.Runs.{IsUnconvertedTold}
use Rattle.telling.specs.Printing.{Output}
use Rattle.telling.specs.Messages.{cannot_write}
use Rattle.program.specs.declared.status.Status.TheVariants as statuses
use Rattle.receiving.proofs.run.tell_unconverted.Goals as goal

pub returns-in-Io : goal.returns-in-Io
returns-in-Io g c =
    let path = c.args.path.now in
    let old : Output = record { out = (g.O.Sink.taken c.args.out.now, g.O.Sink.failures c.args.out.now); err = (g.E.Sink.taken c.args.err.now, g.E.Sink.failures c.args.err.now) } in
    let new : Output = record { out = old.out; err = (g.E.Sink.taken c.tell.new.err, g.E.Sink.failures c.tell.new.err) } in
    let P : ConvertFault → Type 0 = λ fault. IsUnconvertedTold path fault old new c.tell.result in
    subst P (sym c.in-Io.is) (refl, told old.err new.err c.unwritten_message.result (λ text. text ≡ cannot_write path) statuses.File c.tell.result c.unwritten_message.ensures c.tell.ensures)
