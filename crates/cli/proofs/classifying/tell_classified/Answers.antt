use Rattle.std.proofs.Common.{refl, sym, subst, Result}
use Rattle.classification.specs.declared.classification.Summary.{Summary}
use Rattle.telling.proofs.Telling.{told}
use Rattle.cli.specs.Runs.{IsClassifyTold}
use Rattle.cli.specs.Messages.{IsClassifyText, classify_status}
use Rattle.telling.specs.Printing.{Output}
use Rattle.cli.specs.declared.fault.ClassifyFault.{ClassifyFault}
use Rattle.cli.proofs.classifying.tell_classified.Goals as goal

pub returns-in-Err : goal.returns-in-Err
returns-in-Err g c =
    let limits = c.args.run.now.limits in
    let paths = c.args.run.now.paths in
    let fault = c.in-Err.fault in
    let old : Output = record { out = (g.O.Sink.taken c.args.out.now, g.O.Sink.failures c.args.out.now); err = (g.E.Sink.taken c.args.err.now, g.E.Sink.failures c.args.err.now) } in
    let new : Output = record { out = old.out; err = (g.E.Sink.taken c.tell.new.err, g.E.Sink.failures c.tell.new.err) } in
    let P : Result Summary ClassifyFault → Type 0 = λ answer. IsClassifyTold paths limits answer old new c.tell.result in
    subst P (sym c.in-Err.is) (refl, told old.err new.err c.classify_message.result (IsClassifyText paths limits.max_bytes limits.max_facts fault) (classify_status fault) c.tell.result c.classify_message.ensures c.tell.ensures)
