use Rattle.std.proofs.Common.{refl, subst}
use Rattle.session.proofs.Outcomes.{within_three}
use Rattle.telling.proofs.Told.{progress_behind}
use Rattle.session.specs.Run.{IsRunFault}
use Rattle.session.specs.WrittenTexts.{texts_of}
use Rattle.session.specs.declared.run_fault.RunFault.{RunFault}
use Rattle.cli.proofs.classifying.classify_document.Goals as goal

pub returns-in-Err-Limit-clause-answered : goal.returns-in-Err-Limit-clause-answered
returns-in-Err-Limit-clause-answered g c =
    let P : RunFault → Type 0 = IsRunFault c.args.limits.now (g.S.Source.left c.args.source.now) in
    let is = subst P c.in-Err-Limit.field-0-is c.in-Err-Limit.ensures.fault in
    ((is.0, is.1.reads, is.2), refl)

pub returns-in-Err-Memory-clause-answered : goal.returns-in-Err-Memory-clause-answered
returns-in-Err-Memory-clause-answered g c =
    let P : RunFault → Type 0 = IsRunFault c.args.limits.now (g.S.Source.left c.args.source.now) in
    let is = subst P c.in-Err-Memory.field-0-is c.in-Err-Memory.ensures.fault in
    ((is.0, is.1.reads), refl)

pub returns-in-Ok-write_texts-clause-answered : goal.returns-in-Ok-write_texts-clause-answered
returns-in-Ok-write_texts-clause-answered g c = (texts_of c.in-Ok.made, c.in-Ok.ensures.classified, c.in-Ok-write_texts.ensures.written)

pub returns-clause-answered : goal.returns-clause-answered
returns-clause-answered g c =
    let made = c.in-Ok.made in
    let is = c.in-Ok.ensures.classified in
    let until = c.in-Err.ensures.written in
    let within = within_three c.in-Err.number _ _ _ until in
    ((within.0, within.1, (made.summary, texts_of made, is)), (made.summary, texts_of made, is, until))

pub returns-in-Ok-write_texts-clause-progress : goal.returns-in-Ok-write_texts-clause-progress
returns-in-Ok-write_texts-clause-progress g c = progress_behind c.args.told _ _ _ c.classification_of.ensures.progress c.tell_stage.ensures.progress
