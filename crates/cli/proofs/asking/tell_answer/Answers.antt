use Rattle.std.proofs.Common.{refl, sym, subst, Result, ℕ}
use Rattle.std.specs.Global.{Vec}
use Rattle.telling.proofs.Telling.{told}
use Rattle.cli.specs.Runs.{IsQuestionTold}
use Rattle.telling.specs.Printing.{Output}
use Rattle.speech.specs.Messages.{IsQuestionText, question_status}
use Rattle.session.specs.declared.question_fault.QuestionFault.{QuestionFault}
use Rattle.cli.proofs.asking.tell_answer.Goals as goal

pub returns-in-Err : goal.returns-in-Err
returns-in-Err g c =
    let limits = c.args.reading.now.limits in
    let path = c.args.reading.now.path.now in
    let fault = c.in-Err.fault in
    let old : Output = record { out = (g.O.Sink.taken c.args.out.now, g.O.Sink.failures c.args.out.now); err = (g.E.Sink.taken c.args.err.now, g.E.Sink.failures c.args.err.now) } in
    let new : Output = record { out = old.out; err = (g.E.Sink.taken c.tell.new.err, g.E.Sink.failures c.tell.new.err) } in
    let P : Result (Vec ℕ) QuestionFault → Type 0 = λ answer. IsQuestionTold path limits c.args.done answer old new c.tell.result in
    subst P (sym c.in-Err.is) (refl, told old.err new.err c.question_message.result (IsQuestionText path limits.max_bytes limits.max_facts fault) (question_status fault) c.tell.result c.question_message.ensures c.tell.ensures)
