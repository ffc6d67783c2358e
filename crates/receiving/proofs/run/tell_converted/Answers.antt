use Rattle.std.proofs.Common.{◌≡◌, Err, Result, refl, sym, subst}
use Rattle.telling.proofs.Telling.{told}
use Rattle.receiving.specs.Runs.{IsConvertTold}
use Rattle.telling.specs.Printing.{Output}
use Rattle.telling.specs.Messages.{cannot_read}
use Rattle.receiving.specs.declared.fault.ConversionFault.{ConversionFault}
use Rattle.program.specs.declared.status.Status.TheVariants as statuses
use Rattle.receiving.proofs.run.tell_converted.Goals as goal

pub returns-in-Err-Unread : goal.returns-in-Err-Unread
returns-in-Err-Unread g c =
    let conversion = c.args.run.now.conversion in
    let bytes = c.args.run.now.limits.max_bytes in
    let tell = c.tell-in-Err-Unread in
    let old : Output = record { out = (g.O.Sink.taken c.args.out.now, g.O.Sink.failures c.args.out.now); err = (g.E.Sink.taken c.args.err.now, g.E.Sink.failures c.args.err.now) } in
    let new : Output = record { out = old.out; err = (g.E.Sink.taken tell.new.err, g.E.Sink.failures tell.new.err) } in
    let P : Result (Unit {0}) ConversionFault → Type 0 = λ answer. IsConvertTold conversion bytes answer old new tell.result in
    let Q : ConversionFault → Type 0 = λ fault. IsConvertTold {X = Unit {0}} conversion bytes (Err fault) old new tell.result in
    subst P (sym c.in-Err-Unread.is) (subst Q (sym c.in-Err-Unread.field-0-is)
    (refl, told old.err new.err c.unread_message.result (λ text. text ≡ cannot_read conversion.certificate.now) statuses.File tell.result c.unread_message.ensures tell.ensures))
