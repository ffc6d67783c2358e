use Rattle.std.proofs.Common.{refl, sym, subst, Result}
use Rattle.telling.proofs.Telling.{told}
use Rattle.receiving.specs.Runs.{IsCheckTold}
use Rattle.receiving.specs.Messages.{IsCheckText, check_status}
use Rattle.telling.specs.Printing.{Output}
use Rattle.receiving.specs.declared.checking.Checked.{Checked}
use Rattle.receiving.specs.declared.fault.CheckFault.{CheckFault}
use Rattle.receiving.proofs.run.tell_checked.Goals as goal

pub returns-in-Err : goal.returns-in-Err
returns-in-Err g c =
    let limits = c.args.run.now.limits in
    let paths = c.args.run.now.paths in
    let fault = c.in-Err.fault in
    let old : Output = record { out = (g.O.Sink.taken c.args.out.now, g.O.Sink.failures c.args.out.now); err = (g.E.Sink.taken c.args.err.now, g.E.Sink.failures c.args.err.now) } in
    let new : Output = record { out = old.out; err = (g.E.Sink.taken c.tell.new.err, g.E.Sink.failures c.tell.new.err) } in
    let P : Result Checked CheckFault → Type 0 = λ answer. IsCheckTold paths limits.max_bytes answer old new c.tell.result in
    subst P (sym c.in-Err.is) (refl, told old.err new.err c.check_message.result (IsCheckText paths limits.max_bytes fault) (check_status fault) c.tell.result c.check_message.ensures c.tell.ensures)
