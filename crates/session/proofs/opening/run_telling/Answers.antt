use Rattle.std.proofs.Common.{[]}
use Rattle.entailment.proofs.Counting.{no_more}
use Rattle.session.proofs.SessionOpened.{runs_as}
use Rattle.telling.proofs.Told.{progress_behind}
use Rattle.session.proofs.opening.run_telling.Goals as goal

pub returns-in-Ok-resumed-clause-run : goal.returns-in-Ok-resumed-clause-run
returns-in-Ok-resumed-clause-run g c =
    let s = c.resume_slices-resumed.new.session in
    let done = c.in-Ok-resumed.ensures in
    let few = no_more s.ontology _ [] c.args.limits.now.max_facts c.well_formed-2.ensures.session.whole.unasked done.saturates.saturated done.within in
    runs_as c.args.limits.now _ c.in-Ok.session s c.in-Ok.ensures.opened c.in-Ok.ensures.version c.in-Ok.ensures.taken done.ontology done.others few

pub returns-in-Ok-resumed-clause-progress : goal.returns-in-Ok-resumed-clause-progress
returns-in-Ok-resumed-clause-progress g c = progress_behind c.args.told _ _ _ c.tell_opened.ensures.progress c.resume_slices-resumed.ensures.progress

pub returns-in-Err-Limit-clause-progress : goal.returns-in-Err-Limit-clause-progress
returns-in-Err-Limit-clause-progress g c = progress_behind c.args.told _ _ _ c.tell_opened.ensures.progress c.resume_slices-resumed.ensures.progress

pub returns-in-Err-Memory-clause-progress : goal.returns-in-Err-Memory-clause-progress
returns-in-Err-Memory-clause-progress g c = progress_behind c.args.told _ _ _ c.tell_opened.ensures.progress c.resume_slices-resumed.ensures.progress
