use Rattle.std.proofs.Common.{◌≡◌, Err, Result, refl, sym, subst}
use Rattle.classification.specs.declared.classification.Summary.{Summary}
use Rattle.telling.proofs.Telling.{told}
use Rattle.cli.specs.Runs.{IsInferTold}
use Rattle.telling.specs.Printing.{Output}
use Rattle.telling.specs.Messages.{cannot_write}
use Rattle.cli.specs.declared.fault.InferenceFault.{InferenceFault}
use Rattle.program.specs.declared.status.Status.TheVariants as statuses
use Rattle.cli.proofs.inferring.tell_inferred.Goals as goal

pub returns-in-Err-Unwritten : goal.returns-in-Err-Unwritten
returns-in-Err-Unwritten g c =
    let path = c.args.run.now.reading.path.now in
    let output = c.args.run.now.output.now in
    let limits = c.args.run.now.reading.limits in
    let tell = c.tell-in-Err-Unwritten in
    let old : Output = record { out = (g.O.Sink.taken c.args.out.now, g.O.Sink.failures c.args.out.now); err = (g.E.Sink.taken c.args.err.now, g.E.Sink.failures c.args.err.now) } in
    let new : Output = record { out = old.out; err = (g.E.Sink.taken tell.new.err, g.E.Sink.failures tell.new.err) } in
    let P : Result Summary InferenceFault → Type 0 = λ answer. IsInferTold path output limits answer old new tell.result in
    let Q : InferenceFault → Type 0 = λ fault. IsInferTold path output limits (Err fault) old new tell.result in
    subst P (sym c.in-Err-Unwritten.is) (subst Q (sym c.in-Err-Unwritten.field-0-is)
    (refl, told old.err new.err c.unwritten_message.result (λ text. text ≡ cannot_write output) statuses.File tell.result c.unwritten_message.ensures tell.ensures))
